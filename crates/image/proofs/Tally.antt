-- The scan of the slots: numbers in place of entries.
use Rattle.std.proofs.Common.{◌≡◌, ℕ, suc, ◌+◌, ◌<◌, ◌≤◌, Bool, true, false, cond, not, List, [], ◌∷◌, length, get_or, drop, Some, None, Ok, Err, Option, Result, refl, ap, ◌∙◌, add-one, arith}
use Rattle.std.specs.List.{position_from}
use Rattle.std.specs.Option.{option_map}
use Rattle.std.specs.Str.{bytes_eq}
use Rattle.std.proofs.lemmas.List.{drop_more, drop_all}
use Rattle.credential.specs.Slot.{Entry, Content, empty, holds, free, content_of}
use Rattle.image.specs.declared.kind.Kind.{Kind}
use Rattle.image.specs.declared.opening.Refusal.{Refusal}
use Rattle.image.specs.declared.opening.Refusal.TheVariants.{Slot}
use Rattle.image.specs.Opening.{is_allowed, counted, before, by_slot, unused, entries, at_slot}
use Rattle.image.specs.Scan.{verdict_of, first_used}

-- how many records are listed after entries
abbrev pub counted_all : ℕ → List Entry → ℕ
counted_all count [] = count
counted_all count (e ∷ es) = counted_all (counted count e) es

-- how many slots are used and how many records are listed, from so many on
abbrev pub tally : ℕ → ℕ → Result (List Entry) Refusal → Result (ℕ × ℕ) Refusal
tally used count (Ok es) = Ok (used + length es, counted_all count es)
tally used count (Err bad) = Err bad

-- what follows a slot
abbrev pub by_verdict : Result (Option ℕ) Refusal → Result (ℕ × ℕ) Refusal → (ℕ → Result (ℕ × ℕ) Refusal) → Result (ℕ × ℕ) Refusal
by_verdict (Err bad) unused used = Err bad
by_verdict (Ok None) unused used = unused
by_verdict (Ok (Some n)) unused used = used n

tally_before : (used count : ℕ) (e : Entry) (r : Result (List Entry) ℕ) → tally used count (at_slot (before e r)) ≡ tally (used + 1) (counted count e) (at_slot r)
tally_before used count e (Ok es) =
    let n : used + suc (length es) ≡ used + 1 + length es = omega arith in
    ap (λ n. Ok (n, counted_all (counted count e) es)) n
tally_before used count e (Err bad) = refl

module _ (kind : Kind) (capacity k count : ℕ) where
  used-slot :
      (e : Entry) (ok : Bool) (ss : List (List ℕ))
      → tally k count (at_slot (cond ok (before e (entries kind capacity (k + 1) (counted count e) ss)) (Err k)))
      ≡ by_verdict (cond ok (Ok (Some (counted count e))) (Err (Slot k))) (tally k count (at_slot (unused (k + 1) ss))) (λ n. tally (k + 1) n (at_slot (entries kind capacity (k + 1) n ss)))
  used-slot e true ss = tally_before k count e (entries kind capacity (k + 1) (counted count e) ss)
  used-slot e false ss = refl

  by-content :
      (c : Option Content) (ss : List (List ℕ))
      → tally k count (at_slot (by_slot c (Err k) (unused (k + 1) ss) (λ e. cond (is_allowed kind capacity count e) (before e (entries kind capacity (k + 1) (counted count e) ss)) (Err k))))
      ≡ by_verdict (verdict_of kind capacity count k c) (tally k count (at_slot (unused (k + 1) ss))) (λ n. tally (k + 1) n (at_slot (entries kind capacity (k + 1) n ss)))
  by-content None ss = refl
  by-content (Some empty) ss = refl
  by-content (Some (holds e)) ss = used-slot e (is_allowed kind capacity count e) ss

  -- one slot of the scan
  pub tally-slot :
      (v : Result (Option ℕ) Refusal) (s : List ℕ) (ss : List (List ℕ)) → k < length ss → s ≡ get_or ss k [] → v ≡ verdict_of kind capacity count k (content_of s)
      → tally k count (at_slot (entries kind capacity k count (drop k ss)))
      ≡ by_verdict v (tally k count (at_slot (unused (k + 1) (drop (k + 1) ss)))) (λ n. tally (k + 1) n (at_slot (entries kind capacity (k + 1) n (drop (k + 1) ss))))
  unfolding entries
  tally-slot v s ss lt is e =
      rw (drop_more ss k [] lt, ← is, e, ← add-one k) (by-content (content_of s) (drop (k + 1) ss))

  -- past the last slot
  pub tally-end : (ss : List (List ℕ)) → length ss ≤ k → tally k count (at_slot (entries kind capacity k count (drop k ss))) ≡ Ok (k, count)
  unfolding entries
  tally-end ss le =
      let n : k + 0 ≡ k = omega arith in
      rw (drop_all k ss le, n)

-- a slot is used
abbrev pub is_used : List ℕ → Bool
is_used s = not (bytes_eq s free)

first_at :
    (from i : ℕ) (ss : List (List ℕ)) (ok : Bool) → first_used (option_map (λ k. from + k) (position_from is_used (i + 1) ss)) ≡ unused (suc (from + i)) ss
    → first_used (option_map (λ k. from + k) (cond (not ok) (Some i) (position_from is_used (i + 1) ss))) ≡ cond ok (unused (suc (from + i)) ss) (Err (from + i))
first_at from i ss true on = on
first_at from i ss false on = refl

-- the first used slot by its place among those that are looked at
pub first_is : (from i : ℕ) (ss : List (List ℕ)) → first_used (option_map (λ k. from + k) (position_from is_used i ss)) ≡ unused (from + i) ss
unfolding unused
first_is from i [] = refl
first_is from i (s ∷ ss) =
    let on = first_is from (i + 1) ss in
    let n : from + (i + 1) ≡ suc (from + i) = omega arith in
    first_at from i ss (bytes_eq s free) (on ∙ ap (λ k. unused k ss) n)
