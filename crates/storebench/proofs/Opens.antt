-- What opening an image of too many slots gives.
use Rattle.std.proofs.Common.{◌≡◌, ℕ, ◌*◌, ◌/◌, ◌%◌, ◌<◌, min, false, eqb, leb, length, IfOk, Ok, Err, Result, refl, ⊎_elim, arith}
use lib.ListN.{length-replicate}
use Rattle.image.specs.declared.kind.Kind.{Kind}
use Rattle.image.specs.declared.opening.Refusal.TheVariants.{Size}
use Rattle.image.specs.Kinds.{fewest, fits}
use Rattle.image.specs.Opening.{opened}
use Rattle.std.proofs.lemmas.Bool.{lt-leb, cases_lt, cond-false, and_right}
use Rattle.storebench.specs.Printed.{open_text}
use Rattle.storebench.specs.State.{State, blank_image, after_open}

-- no store has so many slots
too_many : (kind : Kind) (n : ℕ) → 64 < n → opened kind (blank_image n) ≡ Err Size
unfolding opened fits
too_many kind n h =
    let long : length (blank_image n) ≡ 512 * n = length-replicate (512 * n) _ in
    let many : (512 * n) / 512 ≡ n = omega arith in
    let no : leb n 64 ≡ false = lt-leb n 64 h in
    rw (long, many, no) (cond-false _ _ _ (and_right (eqb ((512 * n) % 512) 0) _ (and_right (leb (fewest kind) n) _ refl)))

-- more slots than any store has are refused as one too many is
pub blank_open :
    (kind : Kind) (slots n : ℕ) (before : State) → n ≡ min slots 65
    → (open_text kind (blank_image n) ≡ open_text kind (blank_image slots)) × (after_open kind (blank_image n) before ≡ after_open kind (blank_image slots) before)
unfolding open_text after_open
blank_open kind slots n before is =
    ⊎_elim
    (λ few.
    let same : n ≡ slots = omega arith in rw same (refl, refl))
    (λ many.
    let a = too_many kind n (omega arith) in
    let b = too_many kind slots (omega arith) in
    rw (a, b) (refl, refl))
    (cases_lt slots 65)

-- what holds anyway holds of what was made
pub always : {X Y P : Type 0} (r : Result X Y) → P → IfOk r (λ _. P)
always (Ok x) p = p
always (Err y) p = tt
