-- Slot numbers that are held in front of an array, and the slots of the listed records.
use Rattle.std.specs.Prelude.{◌≡◌, ℕ, suc, ◌+◌, ◌<◌, ◌≤◌, List, [], ◌∷◌, ◌++◌, length, drop, Some, None, Option, slice_index, slice_index_or}
use Rattle.std.proofs.Common.{sym, ap, ◌∙◌, inl, inr, add-one, arith}
use Rattle.std.specs.List.{remove}
use Rattle.std.proofs.lemmas.List.Edits.{length-remove, get_or-remove_below, get_or-remove_above}
use Rattle.std.proofs.lemmas.List.{append-nil, take_all, drop_all, length-append, length-take, length-drop, at_drop_more, at_drop_all, length_push, get_or_append_left, get_or_push}
use Rattle.std.proofs.lemmas.Bool.{cases_lt}
use Rattle.credential.specs.Slot.{Content, empty, holds, put, gone, content_of}
use Rattle.logstore.specs.Cells.{Ahead}
use Rattle.logstore.specs.Places.{seen, places_from}

-- nothing is taken out past the end
pub removed_past : {X : Type 0} (xs : List X) (i : ℕ) → length xs ≤ i → remove xs i ≡ xs
removed_past xs i le = ap (λ l. l ++ drop (suc i) xs) (take_all i xs le) ∙ ap (λ l. xs ++ l) (drop_all (suc i) xs (omega arith)) ∙ append-nil xs

pub length_removed_le : {X : Type 0} (xs : List X) (i : ℕ) → length (remove xs i) ≤ length xs
length_removed_le xs i = simp (length-append, length-take, length-drop) (omega arith)

-- the slots from k on, the first of them read
pub places_more :
    (k : ℕ) (ps qs : List ℕ) (ss : List (List ℕ)) (o : Option Content) → k < length ss → o ≡ content_of (slice_index_or ss k []) → qs ≡ seen k ps o
    → places_from (k + 1) qs (drop (k + 1) ss) ≡ places_from k ps (drop k ss)
unfolding places_from
places_more k ps qs ss o lt e seen-is =
    ap (λ l. places_from (k + 1) l (drop (k + 1) ss)) (seen-is ∙ ap (seen k ps) e)
    ∙ ap (λ n. places_from n (seen k ps (content_of (slice_index_or ss k []))) (drop (k + 1) ss)) (add-one k)
    ∙ sym (at_drop_more (places_from k ps) ss k [] lt)

pub places_all : (k : ℕ) (ps : List ℕ) (ss : List (List ℕ)) → length ss ≤ k → places_from k ps (drop k ss) ≡ ps
unfolding places_from
places_all k ps ss le = at_drop_all (places_from k ps) ss k le

-- a slot adds one number at most
pub length_seen : (k : ℕ) (ps : List ℕ) (o : Option Content) → length (seen k ps o) ≤ length ps + 1
length_seen k ps None = omega arith
length_seen k ps (Some empty) = omega arith
length_seen k ps (Some (holds (put r))) = omega (arith, length_push ps k)
length_seen k ps (Some (holds (gone place))) = omega (arith, length_removed_le ps place)

ahead_push : (k : ℕ) (ps : List ℕ) → Ahead k ps → length ps ≤ k → Ahead (suc k) (ps ++ k ∷ [])
ahead_push k ps ahead le j lt =
    elim (cases_lt j (length ps)) [
      | inl below ↦ let old = ahead j below in let same = get_or_append_left ps (k ∷ []) 0 j below in (omega arith, omega arith)
      | inr last ↦
          let at : length ps ≡ j = omega (arith, length_push ps k) in
          let same = get_or_push ps k 0 j at in
          (omega arith, omega arith)
    ]

ahead_later : (k : ℕ) (ps : List ℕ) → Ahead k ps → Ahead (suc k) ps
ahead_later k ps ahead j lt = let old = ahead j lt in (omega arith, omega arith)

ahead_removed : (k : ℕ) (ps : List ℕ) (i : ℕ) → Ahead k ps → Ahead (suc k) (remove ps i)
ahead_removed k ps i ahead j lt =
    elim (cases_lt i (length ps)) [
      | inl in' ↦
          let long = length-remove ps i in' in
          elim (cases_lt j i) [
            | inl below ↦ let old = ahead j (omega arith) in let same = get_or-remove_below ps i 0 j below in' in (omega arith, omega arith)
            | inr above ↦ let old = ahead (j + 1) (omega arith) in let same = get_or-remove_above ps i 0 j above in' in (omega arith, omega arith)
          ]
      | inr past ↦
          let all = removed_past ps i past in
          let old = ahead j (omega (arith, ap length all)) in
          let same = ap (λ l. slice_index l j) all in
          (omega arith, omega arith)
    ]

ahead-seen : (k : ℕ) (ps : List ℕ) (o : Option Content) → Ahead k ps → length ps ≤ k → Ahead (suc k) (seen k ps o)
ahead-seen k ps None ahead le = ahead_later k ps ahead
ahead-seen k ps (Some empty) ahead le = ahead_later k ps ahead
ahead-seen k ps (Some (holds (put r))) ahead le = ahead_push k ps ahead le
ahead-seen k ps (Some (holds (gone place))) ahead le = ahead_removed k ps place ahead

ahead_from : (k : ℕ) (ps : List ℕ) (ss : List (List ℕ)) → Ahead k ps → length ps ≤ k → Ahead (k + length ss) (places_from k ps ss)
unfolding places_from
ahead_from k ps [] ahead le = let same : k + 0 ≡ k = omega arith in rw same ahead
ahead_from k ps (s ∷ ss) ahead le =
    let same : k + suc (length ss) ≡ suc k + length ss = omega arith in
    rw same (ahead_from (suc k) (seen k ps (content_of s)) ss (ahead-seen k ps (content_of s) ahead le) (omega (arith, length_seen k ps (content_of s))))

-- the slots of the listed records never stand before their places
pub ahead_listed : (ss : List (List ℕ)) → Ahead (length ss) (places_from 0 [] ss)
ahead_listed ss =
    let same : 0 + length ss ≡ length ss = omega arith in
    rw same at (ahead_from 0 [] ss (λ j lt. absurd (omega arith)) (omega arith))
