-- The slots of an image: how they make up its bytes, and what a write to the bytes makes of them.
use Rattle.std.specs.Prelude.{◌&&◌, nat_le}
use Rattle.std.proofs.Common.{◌≡◌, ℕ, zero, suc, ◌+◌, ◌-◌, ◌*◌, ◌/◌, ◌%◌, ◌<◌, ◌≤◌, List, [], ◌∷◌, ◌++◌, length, get_or, take, drop, set, replicate, Vec, sym, refl, ap, ◌∙◌, inl, inr, add-one, arith}
use lib.Seq.{paste}
use borrow.Rule.Slice.PartMut.{put_mid}
use Rattle.std.specs.List.{copy_within}
use Rattle.std.specs.Vec.{with_items}
use Rattle.std.proofs.lemmas.List.{append_assoc, append-nil, length-replicate, replicate-append-replicate, drop_all, drop-drop, drop_more, drop-take, take-take, take_all, take-append-le, drop-append-le, set_split, set_past, take-append-drop, take_at, drop_at, length-append, length-drop, length-take-le, get_or_default, nil_from_length, with_items_is}
use Rattle.credential.specs.Slot.{free}
use Rattle.std.proofs.lemmas.Bool.{cond-true, cond-false, cases_lt}
use Rattle.std.proofs.lemmas.Bool.Decides.{nat_tests}
use Rattle.image.specs.declared.image.Image.{Image}
use Rattle.image.specs.Cut.{cut, slots_of, cells, whole, copied, moved, cleared}

pub length_cut : (n : ℕ) (bs : List ℕ) → length (cut n bs) ≡ n
unfolding cut
length_cut zero bs = refl
length_cut (suc n) bs = ap suc (length_cut n (drop 512 bs))

pub whole-cut : (n : ℕ) (bs : List ℕ) → length bs ≡ 512 * n → whole (cut n bs) ≡ bs
unfolding cut
whole-cut zero bs e = sym (nil_from_length bs (omega arith))
whole-cut (suc n) bs e =
    ap (λ l. take 512 bs ++ l) (whole-cut n (drop 512 bs) (omega (arith, length-drop 512 bs))) ∙ take-append-drop 512 bs

-- the slot at a place
pub get_or-cut : (n k : ℕ) (bs d : List ℕ) → k < n → get_or (cut n bs) k d ≡ take 512 (drop (512 * k) bs)
unfolding cut
get_or-cut zero k bs d lt = absurd (omega arith)
get_or-cut (suc n) zero bs d lt = refl
get_or-cut (suc n) (suc k) bs d lt =
    let m : 512 + 512 * k ≡ 512 * suc k = omega arith in
    get_or-cut n k (drop 512 bs) d (omega arith) ∙ ap (take 512) (drop-drop (512 * k) 512 bs ∙ ap (λ i. drop i bs) m)

-- bytes behind others, which are so many slots
cut_append : (m n : ℕ) (xs ys : List ℕ) → length xs ≡ 512 * m → cut (m + n) (xs ++ ys) ≡ cut m xs ++ cut n ys
unfolding cut
cut_append zero n xs ys is =
    let z : 0 + n ≡ n = omega arith in
    rw (z, nil_from_length xs (omega arith))
cut_append (suc m) n xs ys is =
    let more : suc m + n ≡ suc (m + n) = omega arith in
    rw (more, take-append-le 512 xs ys (omega arith), drop-append-le 512 xs ys (omega arith))
    (ap (λ l. take 512 xs ∷ l) (cut_append m n (drop 512 xs) ys (omega (arith, length-drop 512 xs))))

take_cut : (t n : ℕ) (bs : List ℕ) → t ≤ n → take t (cut n bs) ≡ cut t bs
unfolding cut
take_cut zero n bs le = refl
take_cut (suc t) zero bs le = absurd (omega arith)
take_cut (suc t) (suc n) bs le = ap (λ l. take 512 bs ∷ l) (take_cut t n (drop 512 bs) (omega arith))

drop_cut : (t n : ℕ) (bs : List ℕ) → t ≤ n → drop t (cut n bs) ≡ cut (n - t) (drop (512 * t) bs)
unfolding cut
drop_cut zero n bs le = let z : n - 0 ≡ n = omega arith in rw z
drop_cut (suc t) zero bs le = absurd (omega arith)
drop_cut (suc t) (suc n) bs le =
    let m : 512 * t + 512 ≡ 512 * suc t = omega arith in
    let m' : 512 + 512 * t ≡ 512 * suc t = omega arith in
    let less : suc n - suc t ≡ n - t = omega arith in
    drop_cut t n (drop 512 bs) (omega arith) ∙ ap (cut (n - t)) (drop-drop (512 * t) 512 bs) ∙ ap (λ i. cut (n - t) (drop i bs)) m' ∙ ap (λ k. cut k (drop (512 * suc t) bs)) (sym less)

-- only the bytes in front are cut
cut_front : (t : ℕ) (bs : List ℕ) → cut t (take (512 * t) bs) ≡ cut t bs
unfolding cut
cut_front zero bs = refl
cut_front (suc t) bs =
    let m : 512 * suc t ≡ 512 + 512 * t = omega arith in
    rw (m, take-take 512 (512 + 512 * t) bs (omega arith), drop-take 512 (512 * t) bs) (ap (λ l. take 512 bs ∷ l) (cut_front t (drop 512 bs)))

-- slots over those from a number on, by their bytes
slots_over :
    (bs mid : List ℕ) (t m : ℕ) → length mid ≡ 512 * m → t + m ≤ length bs / 512
    → slots_of (take (512 * t) bs ++ (mid ++ drop (512 * t + 512 * m) bs)) ≡ take t (slots_of bs) ++ (cut m mid ++ drop (t + m) (slots_of bs))
unfolding slots_of
slots_over bs mid t m is le =
    let n = length bs / 512 in
    let r = n - (t + m) in
    let front = length-take-le (512 * t) bs (omega arith) in
    let long : length (take (512 * t) bs ++ (mid ++ drop (512 * t + 512 * m) bs)) ≡ length bs = simp (length-append, length-drop) (omega arith) in
    let all : n ≡ t + (m + r) = omega arith in
    let at : 512 * t + 512 * m ≡ 512 * (t + m) = omega arith in
    ap (λ k. cut (k / 512) (take (512 * t) bs ++ (mid ++ drop (512 * t + 512 * m) bs))) long
    ∙ ap (λ k. cut k (take (512 * t) bs ++ (mid ++ drop (512 * t + 512 * m) bs))) all
    ∙ cut_append t (m + r) (take (512 * t) bs) (mid ++ drop (512 * t + 512 * m) bs) front
    ∙ ap (λ l. l ++ cut (m + r) (mid ++ drop (512 * t + 512 * m) bs)) (cut_front t bs ∙ sym (take_cut t n bs (omega arith)))
    ∙ ap (λ l. take t (cut n bs) ++ l) (cut_append m r mid (drop (512 * t + 512 * m) bs) is ∙ ap (λ k. cut m mid ++ cut r (drop k bs)) at ∙ ap (λ l. cut m mid ++ l) (sym (drop_cut (t + m) n bs le)))

-- a slot that is written, between those before and behind it
set_is : (ss : List (List ℕ)) (k : ℕ) (s : List ℕ) → k < length ss → set ss k s ≡ take k ss ++ s ∷ drop (k + 1) ss
set_is ss k s lt = set_split ss k s lt ∙ ap (λ n. take k ss ++ s ∷ drop n ss) (sym (add-one k))

pub length_slots : (bs : List ℕ) → length (slots_of bs) ≡ length bs / 512
unfolding slots_of
length_slots bs = length_cut (length bs / 512) bs

-- the number of slots, by the bytes that an image holds
pub slots_are : (v im : Image) (n : ℕ) → v ≡ im → n ≡ length (cells im) → n ≡ length v.items / 512
slots_are v im n same is = is ∙ sym (ap (λ im. length (cells im)) same) ∙ length_slots v.items

-- the slots of whole ones make up their bytes
pub whole_slots : (bs : List ℕ) → length bs % 512 ≡ 0 → whole (slots_of bs) ≡ bs
unfolding slots_of
whole_slots bs e = whole-cut (length bs / 512) bs (omega arith)

-- the bytes of a slot
pub slot_part : (bs : List ℕ) (k : ℕ) → k < length bs / 512 → take (512 * k + 512 - 512 * k) (drop (512 * k) bs) ≡ get_or (slots_of bs) k []
unfolding slots_of
slot_part bs k lt =
    let n : 512 * k + 512 - 512 * k ≡ 512 = omega arith in
    ap (λ m. take m (drop (512 * k) bs)) n ∙ sym (get_or-cut (length bs / 512) k bs [] lt)

pub length-put : (at : ℕ) (bs s : List ℕ) → length s ≡ 512 → at + 512 ≤ length bs → length (take at bs ++ (s ++ drop (at + 512) bs)) ≡ length bs
length-put at bs s is le = simp (length-append, length-drop) (omega (arith, length-take-le at bs (omega arith)))

-- a slot is written
pub slots-put : (bs s : List ℕ) (k : ℕ) → length s ≡ 512 → k < length bs / 512 → slots_of (take (512 * k) bs ++ (s ++ drop (512 * k + 512) bs)) ≡ set (slots_of bs) k s
unfolding cut
slots-put bs s k is lt =
    let ss = slots_of bs in
    slots_over bs s k 1 is (omega arith) ∙ ap (λ l. take k ss ++ (l ∷ drop (k + 1) ss)) (take_all 512 s (omega arith)) ∙ sym (set_is ss k s (omega (arith, length_slots bs)))

put_is : (at : ℕ) (xs s : List ℕ) → put_mid at (at + 512 - at) xs s ≡ take at xs ++ (s ++ drop (at + 512) xs)
put_is at xs s =
    let k : at + 512 - at ≡ 512 = omega arith in
    rw (k, ← drop-drop 512 at xs)

-- what a Vec holds after a slot's bytes were written to what it lent
pub slots_written :
    {Z : Type 0} (v : Vec ℕ Z) (lent after s : List ℕ) (k : ℕ) → lent ≡ v.items → after ≡ s → length s ≡ 512 → k < length v.items / 512
    → slots_of (with_items v (put_mid (512 * k) (512 * k + 512 - 512 * k) lent after)).items ≡ set (slots_of v.items) k s
slots_written v lent after s k same e is lt =
    let at = 512 * k in
    let put : put_mid at (at + 512 - at) lent after ≡ take at v.items ++ (s ++ drop (at + 512) v.items) =
    put_is at lent after ∙ ap (λ l. take at l ++ (after ++ drop (at + 512) l)) same ∙ ap (λ l. take at v.items ++ (l ++ drop (at + 512) v.items)) e in
    let long = ap length put ∙ length-put at v.items s is (omega arith) ∙ sym v.ok.0 in
    ap slots_of (with_items_is v _ long ∙ put) ∙ slots-put v.items s k is lt

-- a copy between slots that are there, whatever is read past the last
pub copied_within : (ss : List (List ℕ)) (from to : ℕ) (d : List ℕ) → from < length ss → copied ss from to ≡ set ss to (get_or ss from d)
copied_within ss from to d lt = ap (set ss to) (get_or_default ss from (get_or ss to []) d lt)

-- the slots of a part of the bytes
cut_part : (bs : List ℕ) (start m : ℕ) → start + m ≤ length bs / 512 → cut m (take (512 * m) (drop (512 * start) bs)) ≡ take m (drop start (slots_of bs))
unfolding slots_of
cut_part bs start m le =
    let n = length bs / 512 in
    cut_front m (drop (512 * start) bs) ∙ sym (take_cut m (n - start) (drop (512 * start) bs) (omega arith)) ∙ ap (take m) (sym (drop_cut start n bs (omega arith)))

-- a range that is there, and has room
pub moved_is : (ss : List (List ℕ)) (start end to : ℕ) → start ≤ end → end ≤ length ss → to ≤ length ss - (end - start) → moved ss start end to ≡ copy_within ss start end to
moved_is ss start end to le le' room = cond-true _ _ ss (grind (arith, nat_tests))

-- a range that has no room
moved_none : (ss : List (List ℕ)) (start end to : ℕ) → length ss - (end - start) < to → moved ss start end to ≡ ss
moved_none ss start end to past = cond-false (nat_le start end && nat_le end (length ss) && nat_le to (length ss - (end - start))) (copy_within ss start end to) ss (grind (arith, nat_tests))

-- a range of one slot that is there is a copy of it
pub moved_one : (ss : List (List ℕ)) (from to : ℕ) → from < length ss → moved ss from (from + 1) to ≡ copied ss from to
moved_one ss from to lt =
    let s = get_or ss from [] in
    let one : from + 1 - from ≡ 1 = omega arith in
    let is : copied ss from to ≡ set ss to s = copied_within ss from to [] lt in
    elim (cases_lt to (length ss)) [
      | inl below ↦
          moved_is ss from (from + 1) to (omega arith) (omega arith) (omega arith)
          ∙ ap (paste ss to (drop from ss)) one
          ∙ ap (λ l. (take to ss ++ take 1 l) ++ drop (to + 1) ss) (drop_more ss from [] lt)
          ∙ append_assoc (take to ss) (s ∷ []) (drop (to + 1) ss)
          ∙ sym (is ∙ set_is ss to s below)
      | inr past ↦ moved_none ss from (from + 1) to (omega arith) ∙ sym (is ∙ set_past ss to s past)
    ]

-- the slots of a range are written over others
pub slots_moved :
    (bs after : List ℕ) (start end to : ℕ) → start ≤ end → end ≤ length bs / 512 → to ≤ length bs / 512 - (end - start)
    → after ≡ copy_within bs (512 * start) (512 * end) (512 * to) → slots_of after ≡ copy_within (slots_of bs) start end to
slots_moved bs after start end to le le' room e =
    let m = end - start in
    let n : 512 * end - 512 * start ≡ 512 * m = omega arith in
    let mid = take (512 * m) (drop (512 * start) bs) in
    let is : length mid ≡ 512 * m = length-take-le (512 * m) (drop (512 * start) bs) (omega (arith, length-drop (512 * start) bs)) in
    ap slots_of (e ∙ ap (paste bs (512 * to) (drop (512 * start) bs)) n ∙ append_assoc (take (512 * to) bs) mid (drop (512 * to + 512 * m) bs))
    ∙ slots_over bs mid to m is (omega arith)
    ∙ ap (λ l. take to (slots_of bs) ++ (l ++ drop (to + m) (slots_of bs))) (cut_part bs start m (omega arith))
    ∙ sym (append_assoc (take to (slots_of bs)) (take m (drop start (slots_of bs))) (drop (to + m) (slots_of bs)))

cut_zeros : (m : ℕ) → cut m (replicate (512 * m) 0) ≡ replicate m free
unfolding cut free
cut_zeros zero = refl
cut_zeros (suc m) =
    let n : 512 * suc m ≡ 512 + 512 * m = omega arith in
    let zeros : List ℕ = replicate (512 * m) 0 in
    let first : List ℕ = replicate 512 0 in
    let is : replicate (512 * suc m) 0 ≡ first ++ zeros = ap (λ k. replicate k 0) n ∙ sym (replicate-append-replicate 512 (512 * m) 0) in
    let long : length first ≡ 512 = length-replicate {A = ℕ} 512 0 in
    ap (λ l. take 512 l ∷ cut m (drop 512 l)) is
    ∙ ap (λ l. l ∷ cut m (drop 512 (first ++ zeros))) (take_at first zeros 512 long)
    ∙ ap (λ l. first ∷ cut m l) (drop_at first zeros 512 long)
    ∙ ap (λ l. first ∷ l) (cut_zeros m)

-- the slots from a number on are made free
slots_cleared :
    (bs : List ℕ) (k : ℕ) → k < length bs / 512 → length bs % 512 ≡ 0 → slots_of (take (512 * k) bs ++ replicate (length bs - 512 * k) 0) ≡ cleared (slots_of bs) k
slots_cleared bs k lt full =
    let ss = slots_of bs in
    let m = length ss - k in
    let long = length_slots bs in
    let n : length bs - 512 * k ≡ 512 * m = omega arith in
    let mid : List ℕ = replicate (512 * m) 0 in
    let none = drop_all (512 * k + 512 * m) bs (omega arith) in
    let none' = drop_all (k + m) ss (omega arith) in
    ap (λ i. slots_of (take (512 * k) bs ++ replicate i 0)) n
    ∙ ap (λ l. slots_of (take (512 * k) bs ++ l)) (sym (append-nil mid) ∙ ap (λ l. mid ++ l) (sym none))
    ∙ slots_over bs mid k m (length-replicate (512 * m) 0) (omega arith)
    ∙ ap (λ l. take k ss ++ l) (ap (λ l. cut m mid ++ l) none' ∙ append-nil (cut m mid) ∙ cut_zeros m)

put_rest : (at : ℕ) (xs s : List ℕ) → at ≤ length xs → put_mid at (length xs - at) xs s ≡ take at xs ++ s
put_rest at xs s le =
    let none = drop_all (at + (length xs - at)) xs (omega arith) in
    rw (drop-drop (length xs - at) at xs, none, append-nil s)

-- what a Vec holds after its bytes from a slot on were made zero
pub slots_filled :
    {Z : Type 0} (v : Vec ℕ Z) (lent after : List ℕ) (k : ℕ) → lent ≡ v.items → after ≡ replicate (length (take (length lent - 512 * k) (drop (512 * k) lent))) 0
    → k < length v.items / 512 → length v.items % 512 ≡ 0 → slots_of (with_items v (put_mid (512 * k) (length lent - 512 * k) lent after)).items ≡ cleared (slots_of v.items) k
slots_filled v lent after k same e lt full =
    let at = 512 * k in
    let bs = v.items in
    let rest : length (take (length lent - at) (drop at lent)) ≡ length bs - at = ap (λ l. length (take (length l - at) (drop at l))) same ∙ length-take-le (length bs - at) (drop at bs) (omega (arith, length-drop at bs)) in
    let zeros : List ℕ = replicate (length bs - at) 0 in
    let put : put_mid at (length lent - at) lent after ≡ take at bs ++ zeros =
    ap (λ l. put_mid at (length l - at) l after) same ∙ put_rest at bs after (omega arith) ∙ ap (λ l. take at bs ++ l) (e ∙ ap (λ n. replicate n 0) rest) in
    let long = ap length put ∙ length-append (take at bs) zeros ∙ omega (arith, length-take-le at bs (omega arith), length-replicate {A = ℕ} (length bs - at) 0, sym v.ok.0) in
    ap slots_of (with_items_is v _ long ∙ put) ∙ slots_cleared bs k lt full
