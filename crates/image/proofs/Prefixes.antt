-- Whether a slot is bad shows from it and the slots before it.
use Rattle.std.proofs.Common.{◌≡◌, ℕ, zero, suc, ◌+◌, ◌-◌, ◌*◌, ◌/◌, ◌%◌, ◌<◌, ◌≤◌, Bool, true, false, cond, ◌&&◌, eqb, List, [], ◌∷◌, ◌++◌, length, take, drop, replicate, is_ok, Some, None, Ok, Err, Option, Result, sym, refl, ap, ◌∙◌, arith}
use Rattle.std.specs.Str.{bytes_eq}
use Rattle.std.proofs.ByRecursion.{All-append, All-take}
use Rattle.std.proofs.lemmas.Slice.Eq.{bytes_eq-Decides}
use Rattle.std.proofs.lemmas.List.{length-append, length-drop, length-replicate, length-take, length-take-le}
use Rattle.credential.specs.Rec.{between}
use Rattle.credential.specs.Slot.{Entry, Content, empty, holds, free, content_of}
use Rattle.image.specs.declared.kind.Kind.{Kind}
use Rattle.image.specs.declared.opening.Refusal.TheVariants.{Slot}
use Rattle.credential.proofs.Slots.{content-free}
use Rattle.image.specs.Cut.{cut, slots_of, whole}
use Rattle.image.specs.Kinds.{fewest, room, fits}
use Rattle.image.specs.Opening.{is_allowed, counted, before, by_slot, unused, entries, at_slot, opened}
use Rattle.image.specs.Laws.{First}
use Rattle.image.proofs.Cells.{length_cut}
use Rattle.image.proofs.Imaged.{Slots, free_slots, length_whole, slots_whole}
use Rattle.image.proofs.Leading.{never}
use Rattle.image.proofs.Sizes.{sized, opened_fitting, opened_unfitting}

-- the slots behind the first, of slots that begin alike
first_alike : (s t : List ℕ) (ss ts : List (List ℕ)) (n : ℕ) → take (suc n) (s ∷ ss) ≡ take (suc n) (t ∷ ts) → (s ≡ t) × (take n ss ≡ take n ts)
first_alike s t ss ts n e = (cc, cc)

none_alike : (t : List ℕ) (ts : List (List ℕ)) (n : ℕ) {P : Type 0} → take (suc n) [] ≡ take (suc n) (t ∷ ts) → P
none_alike t ts n e = absurd (let z : ◌≡◌ {A = ℕ} 0 1 = cc in omega arith)

before_err : (e : Entry) (r : Result (List Entry) ℕ) (j : ℕ) → before e r ≡ Err j → r ≡ Err j
before_err e (Ok es) j h = never (sym h)
before_err e (Err bad) j h = h

-- a bad slot is not before the first that is looked at
err_place : {X : Type 0} (k j : ℕ) → ◌≡◌ {A = Result X ℕ} (Err k) (Err j) → k ≤ j
err_place k j h = let is : k ≡ j = cc in omega arith

-- a test that fails makes the slot at hand bad
cond_place : {X : Type 0} (b : Bool) (r : Result X ℕ) (k j : ℕ) → (r ≡ Err j → k ≤ j) → cond b r (Err k) ≡ Err j → k ≤ j
cond_place true r k j on h = on h
cond_place false r k j on h = err_place k j h

cond_alike : {X : Type 0} (b : Bool) (r r' : Result X ℕ) (k j : ℕ) → (r ≡ Err j → r' ≡ Err j) → cond b r (Err k) ≡ Err j → cond b r' (Err k) ≡ Err j
cond_alike true r r' k j on h = on h
cond_alike false r r' k j on h = h

unused_place : (ss : List (List ℕ)) (k j : ℕ) → unused k ss ≡ Err j → k ≤ j
unfolding unused
unused_place [] k j h = never (sym h)
unused_place (s ∷ ss) k j h = cond_place (bytes_eq s free) (unused (suc k) ss) k j (λ g. omega (arith, unused_place ss (suc k) j g)) h

module _ (kind : Kind) (capacity : ℕ) where
  slot-place :
      (k count j : ℕ) (ss : List (List ℕ)) → ((n : ℕ) → entries kind capacity (suc k) n ss ≡ Err j → suc k ≤ j) → (c : Option Content)
      → by_slot c (Err k) (unused (suc k) ss) (λ e. cond (is_allowed kind capacity count e) (before e (entries kind capacity (suc k) (counted count e) ss)) (Err k)) ≡ Err j → k ≤ j
  slot-place k count j ss more None h = err_place k j h
  slot-place k count j ss more (Some empty) h = omega (arith, unused_place ss (suc k) j h)
  slot-place k count j ss more (Some (holds e)) h = cond_place (is_allowed kind capacity count e) _ k j (λ g. omega (arith, more (counted count e) (before_err e _ j g))) h

  entries-place : (ss : List (List ℕ)) (k count j : ℕ) → entries kind capacity k count ss ≡ Err j → k ≤ j
  unfolding entries
  entries-place [] k count j h = never (sym h)
  entries-place (s ∷ ss) k count j h = slot-place k count j ss (λ n g. entries-place ss (suc k) n j g) (content_of s) h

-- one slot on, where the bad one is not the first
behind : (k j n : ℕ) → j ≡ k + n → (ts ss : List (List ℕ)) → take n ss ≡ take n ts → suc k ≤ j → (j ≡ suc k + (n - 1)) × (take (suc (n - 1)) ss ≡ take (suc (n - 1)) ts)
behind k j n is ts ss e le =
    let m : suc (n - 1) ≡ n = omega arith in
    (omega arith, (rw m e))

-- slots that begin alike, up to a bad one
unused_alike : (ts ss : List (List ℕ)) (k j n : ℕ) → j ≡ k + n → take (suc n) ss ≡ take (suc n) ts → unused k ts ≡ Err j → unused k ss ≡ Err j
unfolding unused
unused_alike [] ss k j n is e h = never (sym h)
unused_alike (t ∷ ts) [] k j n is e h = none_alike t ts n e
unused_alike (t ∷ ts) (s ∷ ss) k j n is e h =
    let p = first_alike s t ss ts n e in
    ap (λ x. cond (bytes_eq x free) (unused (suc k) ss) (Err k)) p.0
    ∙ cond_alike (bytes_eq t free) (unused (suc k) ts) (unused (suc k) ss) k j
    (λ g. let q = behind k j n is ts ss p.1 (unused_place ts (suc k) j g) in unused_alike ts ss (suc k) j (n - 1) q.0 q.1 g) h

module _ (kind : Kind) (capacity : ℕ) where
  slot-alike :
      (k count j : ℕ) (ts ss : List (List ℕ)) → (unused (suc k) ts ≡ Err j → unused (suc k) ss ≡ Err j)
      → ((n : ℕ) → entries kind capacity (suc k) n ts ≡ Err j → entries kind capacity (suc k) n ss ≡ Err j) → (c : Option Content)
      → by_slot c (Err k) (unused (suc k) ts) (λ e. cond (is_allowed kind capacity count e) (before e (entries kind capacity (suc k) (counted count e) ts)) (Err k)) ≡ Err j
      → by_slot c (Err k) (unused (suc k) ss) (λ e. cond (is_allowed kind capacity count e) (before e (entries kind capacity (suc k) (counted count e) ss)) (Err k)) ≡ Err j
  slot-alike k count j ts ss unused_on more None h = h
  slot-alike k count j ts ss unused_on more (Some empty) h = unused_on h
  slot-alike k count j ts ss unused_on more (Some (holds e)) h = cond_alike (is_allowed kind capacity count e) _ _ k j (λ g. ap (before e) (more (counted count e) (before_err e _ j g))) h

  entries-alike : (ts ss : List (List ℕ)) (k count j n : ℕ) → j ≡ k + n → take (suc n) ss ≡ take (suc n) ts → entries kind capacity k count ts ≡ Err j → entries kind capacity k count ss ≡ Err j
  unfolding entries
  entries-alike [] ss k count j n is e h = never (sym h)
  entries-alike (t ∷ ts) [] k count j n is e h = none_alike t ts n e
  entries-alike (t ∷ ts) (s ∷ ss) k count j n is e h =
      let p = first_alike s t ss ts n e in
      ap (λ x. entries kind capacity k count (x ∷ ss)) p.0
      ∙ slot-alike k count j ts ss
      (λ g. let q = behind k j n is ts ss p.1 (unused_place ts (suc k) j g) in unused_alike ts ss (suc k) j (n - 1) q.0 q.1 g)
      (λ m g. let q = behind k j n is ts ss p.1 (entries-place kind capacity ts (suc k) m j g) in entries-alike ts ss (suc k) m j (n - 1) q.0 q.1 g)
      (content_of t) h

at-slot_err : (r : Result (List Entry) ℕ) (k : ℕ) → at_slot r ≡ Err (Slot k) → r ≡ Err k
at-slot_err (Ok es) k h = never (sym h)
at-slot_err (Err j) k h = cc

bad_at : (kind : Kind) (im : List ℕ) (k : ℕ) (ok : Bool) → fits kind im ≡ ok → opened kind im ≡ Err (Slot k) → entries kind (room kind (length im / 512)) 0 0 (slots_of im) ≡ Err k
bad_at kind im k true fit h = at-slot_err _ k (sym (opened_fitting kind im fit) ∙ h)
bad_at kind im k false fit h = absurd (let e = sym (opened_unfitting kind im fit) ∙ h in let z : ◌≡◌ {A = ℕ} 0 1 = cc in omega arith)

bad_fits : (kind : Kind) (im : List ℕ) (k : ℕ) (ok : Bool) → fits kind im ≡ ok → opened kind im ≡ Err (Slot k) → fits kind im ≡ true
bad_fits kind im k true fit h = fit
bad_fits kind im k false fit h = absurd (let e = sym (opened_unfitting kind im fit) ∙ h in let z : ◌≡◌ {A = ℕ} 0 1 = cc in omega arith)

-- whether an image fits shows from its length
fits_alike : (kind : Kind) (im other : List ℕ) → length other ≡ length im → fits kind other ≡ fits kind im
unfolding fits
fits_alike kind im other long = ap (λ n. eqb (n % 512) 0 && between (fewest kind) 64 (n / 512)) long

-- an image of the same size whose slots are alike, up to a bad one
bad_alike :
    (kind : Kind) (im other : List ℕ) (k : ℕ) → length other ≡ length im → take (suc k) (slots_of other) ≡ take (suc k) (slots_of im)
    → opened kind im ≡ Err (Slot k) → opened kind other ≡ Err (Slot k)
bad_alike kind im other k long e h =
    let bad = bad_at kind im k (fits kind im) refl h in
    let is : k ≡ 0 + k = omega arith in
    opened_fitting kind other (fits_alike kind im other long ∙ bad_fits kind im k (fits kind im) refl h)
    ∙ ap (λ l. at_slot (entries kind (room kind (l / 512)) 0 0 (slots_of other))) long
    ∙ ap at_slot (entries-alike kind (room kind (length im / 512)) (slots_of im) (slots_of other) 0 0 k k is e bad)

-- a test that the slot at hand passes, since a later one is bad
cond_front : {X : Type 0} (b : Bool) (r r' : Result X ℕ) (k j : ℕ) → k < j → (r ≡ Err j → is_ok r' ≡ true) → cond b r (Err k) ≡ Err j → is_ok (cond b r' (Err k)) ≡ true
cond_front true r r' k j lt on h = on h
cond_front false r r' k j lt on h = absurd (let is : k ≡ j = cc in omega arith)

-- free slots break no rule
unused-free : (k m : ℕ) → is_ok (unused k (replicate m free)) ≡ true
unfolding unused
unused-free k zero = refl
unused-free k (suc m) = ap (λ b. is_ok (cond b (unused (suc k) (replicate m free)) (Err k))) ((bytes_eq-Decides free free).1 refl) ∙ unused-free (suc k) m

-- the slots before one that is used behind a free one
unused_front : (ss : List (List ℕ)) (k j n m : ℕ) → j ≡ k + n → unused k ss ≡ Err j → is_ok (unused k (take n ss ++ replicate m free)) ≡ true
unfolding unused
unused_front ss k j zero m is h = unused-free k m
unused_front [] k j (suc n) m is h = unused-free k m
unused_front (s ∷ ss) k j (suc n) m is h =
    cond_front (bytes_eq s free) (unused (suc k) ss) (unused (suc k) (take n ss ++ replicate m free)) k j (omega arith) (λ g. unused_front ss (suc k) j n m (omega arith) g) h

ok_before : (e : Entry) (r : Result (List Entry) ℕ) → is_ok r ≡ true → is_ok (before e r) ≡ true
ok_before e (Ok es) h = refl
ok_before e (Err k) h = h

module _ (kind : Kind) (capacity : ℕ) where
  entries-free : (k count m : ℕ) → is_ok (entries kind capacity k count (replicate m free)) ≡ true
  unfolding entries
  entries-free k count zero = refl
  entries-free k count (suc m) =
      ap (λ c. is_ok (by_slot c (Err k) (unused (suc k) (replicate m free)) (λ e. cond (is_allowed kind capacity count e) (before e (entries kind capacity (suc k) (counted count e) (replicate m free))) (Err k)))) content-free
      ∙ unused-free (suc k) m

  slot-front :
      (k count j : ℕ) (ts ss : List (List ℕ)) → k < j → (unused (suc k) ts ≡ Err j → is_ok (unused (suc k) ss) ≡ true)
      → ((n : ℕ) → entries kind capacity (suc k) n ts ≡ Err j → is_ok (entries kind capacity (suc k) n ss) ≡ true) → (c : Option Content)
      → by_slot c (Err k) (unused (suc k) ts) (λ e. cond (is_allowed kind capacity count e) (before e (entries kind capacity (suc k) (counted count e) ts)) (Err k)) ≡ Err j
      → is_ok (by_slot c (Err k) (unused (suc k) ss) (λ e. cond (is_allowed kind capacity count e) (before e (entries kind capacity (suc k) (counted count e) ss)) (Err k))) ≡ true
  slot-front k count j ts ss lt behind more None h = absurd (let is : k ≡ j = cc in omega arith)
  slot-front k count j ts ss lt behind more (Some empty) h = behind h
  slot-front k count j ts ss lt behind more (Some (holds e)) h =
      cond_front (is_allowed kind capacity count e) _ _ k j lt (λ g. ok_before e _ (more (counted count e) (before_err e _ j g))) h

  -- the slots before a bad one
  entries-front : (ss : List (List ℕ)) (k count j n m : ℕ) → j ≡ k + n → entries kind capacity k count ss ≡ Err j → is_ok (entries kind capacity k count (take n ss ++ replicate m free)) ≡ true
  unfolding entries
  entries-front ss k count j zero m is h = entries-free k count m
  entries-front [] k count j (suc n) m is h = entries-free k count m
  entries-front (s ∷ ss) k count j (suc n) m is h =
      slot-front k count j ss (take n ss ++ replicate m free) (omega arith) (λ g. unused_front ss (suc k) j n m (omega arith) g)
      (λ c g. entries-front ss (suc k) c j n m (omega arith) g) (content_of s) h

-- the slots of an image have 512 bytes each
cut_slots : (n : ℕ) (bs : List ℕ) → length bs ≡ 512 * n → Slots (cut n bs)
unfolding cut
cut_slots zero bs long = tt
cut_slots (suc n) bs long = (length-take-le 512 bs (omega arith), cut_slots n (drop 512 bs) (omega (arith, length-drop 512 bs)))

ok_at-slot : (r : Result (List Entry) ℕ) → is_ok r ≡ true → is_ok (at_slot r) ≡ true
ok_at-slot (Ok es) h = refl
ok_at-slot (Err k) h = h

-- the slots before a bad one, with free ones behind them
good_front : (kind : Kind) (im : List ℕ) (k : ℕ) → opened kind im ≡ Err (Slot k) → is_ok (opened kind (whole (take k (slots_of im) ++ replicate (length im / 512 - k) free))) ≡ true
unfolding slots_of
good_front kind im k h =
    let n = length im / 512 in
    let fit = bad_fits kind im k (fits kind im) refl h in
    let size = sized kind im fit in
    let ss = take k (slots_of im) ++ replicate (n - k) free in
    let all : Slots ss = All-append (λ s. length s ≡ 512) (take k (slots_of im)) (replicate (n - k) free) (All-take (λ s. length s ≡ 512) k (slots_of im) (cut_slots n im size.long)) (free_slots (n - k)) in
    let many : length ss ≡ n = length-append (take k (slots_of im)) (replicate (n - k) free) ∙ omega (arith, length-take k (slots_of im), length_cut n im, length-replicate (n - k) free) in
    let long : length (whole ss) ≡ length im = length_whole ss all ∙ omega (arith, size.long) in
    let is : k ≡ 0 + k = omega arith in
    ap is_ok (opened_fitting kind (whole ss) (fits_alike kind im (whole ss) long ∙ fit)
    ∙ ap (λ l. at_slot (entries kind (room kind (l / 512)) 0 0 (slots_of (whole ss)))) long
    ∙ ap (λ l. at_slot (entries kind (room kind n) 0 0 l)) (slots_whole ss all))
    ∙ ok_at-slot _ (entries-front kind (room kind n) (slots_of im) 0 0 k k (n - k) is (bad_at kind im k (fits kind im) refl h))

pub first : (kind : Kind) (im : List ℕ) → First kind im
first kind im = record { before = good_front kind im; at = λ k h other long e. bad_alike kind im other k long e h }
