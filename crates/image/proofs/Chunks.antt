-- What an iterator over the slots of an image gives.
use Rattle.std.proofs.Common.{◌≡◌, ℕ, zero, suc, ◌+◌, ◌/◌, ◌<◌, ◌≤◌, List, [], ◌∷◌, length, get_or, take, drop, Some, None, Bor, sym, refl, ap, subst, ◌∙◌, arith}
use Rattle.std.specs.declared.slice.ChunksExact.{ChunksExact}
use Rattle.std.specs.Slice.Iter.{chunks_exact_rest, chunks_exact_size, chunks_exact_steps}
use Rattle.std.proofs.lemmas.List.{take_at, drop_at, length-append}
use Rattle.image.specs.Cut.{cut, slots_of, GivesSlots}

gives_cut : (n : ℕ) (it : ChunksExact ℕ) → chunks_exact_size it ≡ 512 → length (chunks_exact_rest it) / 512 ≡ n → GivesSlots it (cut n (chunks_exact_rest it))
unfolding cut
gives_cut zero it size many = λ x j step. absurd (omega (arith, ap length step.1.0, length-append x.now (chunks_exact_rest j), step.1.1))
gives_cut (suc n) it size many = (
  λ j step. absurd (omega (arith, step.1.0)),
  λ x j step.
      let rest = chunks_exact_rest it in
      let long : length x.now ≡ 512 = step.1.1 ∙ size in
      let first : x.now ≡ take 512 rest = sym (ap (take 512) step.1.0 ∙ take_at x.now (chunks_exact_rest j) 512 long) in
      let next : chunks_exact_rest j ≡ drop 512 rest = sym (ap (drop 512) step.1.0 ∙ drop_at x.now (chunks_exact_rest j) 512 long) in
      let left : length (chunks_exact_rest j) / 512 ≡ n = omega (arith, ap length step.1.0, length-append x.now (chunks_exact_rest j)) in
      (first, subst (λ l. GivesSlots j (cut n l)) next (gives_cut n j (step.0 ∙ size) left)),
)

-- the chunks of an image's bytes are its slots
pub gives_slots : (it : ChunksExact ℕ) (bs : List ℕ) → chunks_exact_size it ≡ 512 → chunks_exact_rest it ≡ bs → GivesSlots it (slots_of bs)
unfolding slots_of
gives_slots it bs size is = subst (λ l. GivesSlots it (cut (length l / 512) l)) is (gives_cut _ it size refl)

-- a slot that came is the one at its place
pub gives_more :
    (ss : List (List ℕ)) (k : ℕ) (it next : ChunksExact ℕ) (x : Bor (List ℕ)) → GivesSlots it (drop k ss) → chunks_exact_steps it (Some x) next
    → (k < length ss) × (x.now ≡ get_or ss k []) × GivesSlots next (drop (k + 1) ss)
gives_more [] zero it next x gives step = absurd (gives x next step)
gives_more [] (suc k) it next x gives step = absurd (gives x next step)
gives_more (s ∷ ss) zero it next x gives step = let here = gives.1 x next step in (omega arith, here.0, here.1)
gives_more (s ∷ ss) (suc k) it next x gives step =
    let on = gives_more ss k it next x gives step in
    let n : suc k + 1 ≡ suc (k + 1) = omega arith in
    (omega (arith, on.0), on.1, rw n on.2)

-- no slot is left
pub gives_no_more : (ss : List (List ℕ)) (k : ℕ) (it next : ChunksExact ℕ) → GivesSlots it (drop k ss) → chunks_exact_steps it None next → length ss ≤ k
gives_no_more [] k it next gives step = omega arith
gives_no_more (s ∷ ss) zero it next gives step = absurd (gives.0 next step)
gives_no_more (s ∷ ss) (suc k) it next gives step = omega (arith, gives_no_more ss k it next gives step)
