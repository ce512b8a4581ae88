-- What a map over an array gives.
use Rattle.std.proofs.Common.{◌≡◌, ℕ, ◌<◌, List, map, length, get_or, sym, ◌∙◌, arith}
use denote.Param.Members.{Mut, Called}
use Rattle.std.specs.Array.{IsMapOf}
use Rattle.std.proofs.lemmas.List.{same_lists, length-map, get_or-map}

-- an array that a function made of another, element by element
pub mapped : {F : Type 0} {g : Mut F (ℕ × Unit {0}) (List ℕ)} {f : F} {ws : List ℕ} {bss : List (List ℕ)} {n : ℕ} (h : ℕ → List ℕ) → IsMapOf g f ws bss n → length ws ≡ n → ((p : F) (w : ℕ) (bs : List ℕ) (q : F) → Called g p (w, tt) bs q → bs ≡ h w) → bss ≡ map h ws
mapped {ws = ws} {bss = bss} h is long call =
    let same : length bss ≡ length (map h ws) = is.long ∙ (sym long ∙ sym (length-map ws h)) in
    same_lists bss (map h ws) same (λ k d lt.
    let w : k < length ws = omega (arith, is.long) in
    let at = is.at k 0 d (omega (arith, is.long)) in
    call at.0 (get_or ws k 0) (get_or bss k d) at.1 at.2 ∙ sym (get_or-map h ws k 0 d w))
