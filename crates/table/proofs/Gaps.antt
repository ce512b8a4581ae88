-- A gap between slots that is closed.
use Rattle.std.proofs.Common.{◌≡◌, ℕ, suc, ◌+◌, ◌-◌, ◌<◌, ◌≤◌, List, [], ◌∷◌, ◌++◌, length, get_or, take, drop, set, sym, ap, ◌∙◌, arith, add-one}
use Rattle.std.specs.List.{remove, copy_within}
use Rattle.std.proofs.Math.Seq.{take-append-add}
use Rattle.std.proofs.lemmas.List.{length-append, length-drop, length-take-le, drop_more, set_at}
use Rattle.credential.specs.Slot.{free}
use Rattle.table.specs.Tables.{closed}

-- the slots behind a place are moved down by one, and the last of them is cleared
pub moved_cleared : (ss : List (List ℕ)) (place count : ℕ) → place < count → count ≤ length ss → set (copy_within ss (place + 1) count place) (count - 1) free ≡ closed ss place count
unfolding closed
moved_cleared ss place count low high =
    let m = count - (place + 1) in
    let front = take place ss ++ take m (drop (place + 1) ss) in
    let few = length-take-le place ss (omega arith) in
    let at : place + m ≡ count - 1 = omega arith in
    let next : place + m + 1 ≡ count = omega arith in
    let sum : length (take place ss) + m ≡ count - 1 = omega arith in
    let long : length front ≡ count - 1 =
    length-append (take place ss) (take m (drop (place + 1) ss)) ∙ omega (arith, length-take-le m (drop (place + 1) ss) (omega (arith, length-drop (place + 1) ss))) in
    let here = drop_more ss (place + m) [] (omega arith) ∙ ap (λ k. get_or ss (place + m) [] ∷ drop k ss) next in
    let removed : front ≡ take (count - 1) (remove ss place) =
    ap (λ k. take place ss ++ take m (drop k ss)) (add-one place) ∙ sym (take-append-add (take place ss) (drop (suc place) ss) m) ∙ ap (λ k. take k (remove ss place)) sum in
    ap (λ l. set (front ++ l) (count - 1) free) here
    ∙ set_at front (get_or ss (place + m) []) (drop count ss) free (count - 1) long
    ∙ ap (λ l. l ++ free ∷ drop count ss) removed
