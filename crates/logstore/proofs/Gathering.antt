-- Slots gathered to the front, and cleared behind.
use Rattle.std.specs.Prelude.{◌≡◌, ℕ, ◌+◌, ◌-◌, ◌<◌, ◌≤◌, List, [], ◌∷◌, ◌++◌, length, get_or, take, drop, set, slice_index, slice_index_or, slice_set}
use Rattle.std.proofs.Common.{sym, ap, ◌∙◌, arith}
use Rattle.std.proofs.lemmas.List.{append_assoc, take_all, take_more, drop_more, length-append, length-take-le, length-drop, length-map, get_or-drop, get_or-append_right, set-append_right, map_push}
use Rattle.image.specs.Cut.{copied}
use Rattle.image.proofs.Cells.{copied_within}
use Rattle.logstore.specs.Cells.{Ahead, chosen, gathered}

pub length-chosen : (ss : List (List ℕ)) (ps : List ℕ) → length (chosen ss ps) ≡ length ps
length-chosen ss ps = length-map ps (λ p. get_or ss p [])

-- one more slot is written behind those in front
set_next : (front ss : List (List ℕ)) (j : ℕ) (s : List ℕ) → length front ≡ j → j < length ss → slice_set (front ++ drop j ss) j s ≡ front ++ s ∷ drop (j + 1) ss
set_next front ss j s long lt =
    let z : j - j ≡ 0 = omega arith in
    set-append_right front (drop j ss) j j s long (omega arith)
    ∙ ap (λ n. front ++ slice_set (drop j ss) n s) z
    ∙ ap (λ l. front ++ slice_set l 0 s) (drop_more ss j [] lt)

-- the next slot is copied to the front
pub gathered_more :
    (now ss : List (List ℕ)) (ps : List ℕ) (j p : ℕ) → now ≡ chosen ss (take j ps) ++ drop j ss → j < length ps → p ≡ slice_index ps j → j ≤ p → p < length ss
    → copied now p j ≡ chosen ss (take (j + 1) ps) ++ drop (j + 1) ss
gathered_more now ss ps j p e lt is le below =
    let front = chosen ss (take j ps) in
    let long : length front ≡ j = length-chosen ss (take j ps) ∙ length-take-le j ps (omega arith) in
    let all : length now ≡ length ss = ap length e ∙ simp (length-append, length-drop) (omega arith) in
    let back : j + (p - j) ≡ p = omega arith in
    let cell : get_or now p [] ≡ get_or ss p [] =
    ap (λ l. get_or l p []) e ∙ get_or-append_right front (drop j ss) j p [] long le ∙ get_or-drop j ss (p - j) [] ∙ ap (λ n. get_or ss n []) back in
    copied_within now p j [] (omega arith)
    ∙ ap (λ l. set l j (slice_index_or now p [])) e
    ∙ set_next front ss j (slice_index_or now p []) long (omega arith)
    ∙ sym (append_assoc front (slice_index_or now p [] ∷ []) (drop (j + 1) ss))
    ∙ ap (λ s. (front ++ s ∷ []) ++ drop (j + 1) ss) (cell ∙ ap (λ n. get_or ss n []) is)
    ∙ ap (λ l. l ++ drop (j + 1) ss) (sym (map_push (λ q. get_or ss q []) (take j ps) (slice_index ps j)) ∙ ap (chosen ss) (sym (take_more ps j 0 lt)))

pub gathered_all : (now ss : List (List ℕ)) (ps : List ℕ) (j : ℕ) → now ≡ chosen ss (take j ps) ++ drop j ss → j ≡ length ps → now ≡ gathered ss ps
unfolding gathered
gathered_all now ss ps j e is = e ∙ ap (λ n. chosen ss (take n ps) ++ drop n ss) is ∙ ap (λ l. chosen ss l ++ drop (length ps) ss) (take_all (length ps) ps (omega arith))

-- there are no more numbers than slots
pub ahead_few : (n : ℕ) (ps : List ℕ) → Ahead n ps → length ps ≤ n
ahead_few n [] ahead = omega arith
ahead_few n (p ∷ ps) ahead = let last = ahead (length ps) (omega arith) in omega arith

pub length-gathered : (ss : List (List ℕ)) (ps : List ℕ) → Ahead (length ss) ps → length (gathered ss ps) ≡ length ss
unfolding gathered
length-gathered ss ps ahead =
    length-append (chosen ss ps) (drop (length ps) ss) ∙ omega (arith, length-chosen ss ps, length-drop (length ps) ss, ahead_few (length ss) ps ahead)
