-- Slots with entries in front and free ones behind them: one entry less, and one that is read.
use Rattle.std.specs.Prelude.{◌≡◌, ℕ, suc, ◌-◌, ◌<◌, ◌≤◌, List, [], ◌∷◌, ◌++◌, map, length, take, drop, replicate, slice_index_or}
use Rattle.std.proofs.Common.{ap, ◌∙◌, arith}
use Rattle.std.specs.List.{remove}
use Rattle.std.proofs.lemmas.List.Edits.{length-remove, remove-append_left}
use Rattle.std.proofs.lemmas.List.{length-map, take_at, drop_at, get_or_append_left, get_or-map}
use Rattle.credential.specs.Slot.{Entry, free, written}
use Rattle.image.proofs.Imaged.{layout}
use Rattle.image.proofs.Led.{map_removed}
use Rattle.table.specs.Tables.{closed}

-- the gap of an entry is closed
pub layout_less : (slots : ℕ) (es : List Entry) (place : ℕ) → length es ≤ slots → place < length es → closed (layout slots es) place (length es) ≡ layout slots (remove es place)
unfolding closed
layout_less slots es place le lt =
    let zs = replicate (slots - length es) free in
    let ys = map written es in
    let ny = length-map es written in
    let nr = length-remove ys place (omega arith) in
    let nx = length-remove es place lt in
    let k : suc (slots - length es) ≡ slots - length (remove es place) = omega arith in
    ap (λ l. take (length es - 1) l ++ free ∷ drop (length es) (ys ++ zs)) (remove-append_left ys zs place (omega arith))
    ∙ ap (λ l. l ++ free ∷ drop (length es) (ys ++ zs)) (take_at (remove ys place) zs (length es - 1) (omega arith))
    ∙ ap (λ l. remove ys place ++ free ∷ l) (drop_at ys zs (length es) ny)
    ∙ ap (λ l. l ++ replicate (suc (slots - length es)) free) (map_removed written es place)
    ∙ ap (λ k. map written (remove es place) ++ replicate k free) k

-- the slot of an entry
pub layout_at : (slots : ℕ) (es : List Entry) (i : ℕ) (e : Entry) → i < length es → slice_index_or (layout slots es) i [] ≡ written (slice_index_or es i e)
layout_at slots es i e lt =
    get_or_append_left (map written es) (replicate (slots - length es) free) [] i (omega (arith, length-map es written)) ∙ get_or-map written es i e [] lt
