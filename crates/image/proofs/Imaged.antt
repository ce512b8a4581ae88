-- The image of entries, and its slots.
use Rattle.std.proofs.Common.{◌≡◌, ℕ, zero, suc, ◌+◌, ◌-◌, ◌*◌, ◌/◌, ◌<◌, ◌≤◌, List, [], ◌∷◌, ◌++◌, map, length, set, replicate, sym, refl, ap, ◌∙◌, arith}
use Rattle.std.specs.List.{flat_map, AllByRecursion as All}
use Rattle.std.proofs.ByRecursion.{All-append, All-map, All-weaker}
use Rattle.std.proofs.lemmas.List.{append_assoc, take_at, drop_at, length-append, length-map, length_push, length-replicate, map_push, replicate-append-replicate, set_at}
use Rattle.credential.specs.Rec.{Rec}
use Rattle.credential.specs.Slot.{Entry, put, holds, free, slot, written, Fit}
use Rattle.credential.proofs.Slots.{length-free, length-written}
use Rattle.image.specs.Cut.{cut, slots_of, whole}
use Rattle.image.specs.Laws.{imaged}
use Rattle.image.proofs.Leading.{Fits}

-- a list of slots has the bytes of a slot each
abbrev pub Slots : List (List ℕ) → Type 0
Slots ss = All (λ s. length s ≡ 512) ss

-- the slots of the image of slots
pub cut_whole : (ss : List (List ℕ)) → Slots ss → cut (length ss) (whole ss) ≡ ss
unfolding cut
cut_whole [] long = refl
cut_whole (s ∷ ss) long =
    rw (take_at s (whole ss) 512 long.0, drop_at s (whole ss) 512 long.0) (ap (λ l. s ∷ l) (cut_whole ss long.1))

pub length_whole : (ss : List (List ℕ)) → Slots ss → length (whole ss) ≡ 512 * length ss
length_whole [] long = refl
length_whole (s ∷ ss) long = simp length-append (omega (arith, length_whole ss long.1, long.0))

pub slots_whole : (ss : List (List ℕ)) → Slots ss → slots_of (whole ss) ≡ ss
unfolding slots_of
slots_whole ss long =
    let n : length (whole ss) / 512 ≡ length ss = omega (arith, length_whole ss long) in
    ap (λ n. cut n (whole ss)) n ∙ cut_whole ss long

-- the slots of entries, and free ones behind them
abbrev pub layout : ℕ → List Entry → List (List ℕ)
layout slots es = map written es ++ replicate (slots - length es) free

pub length-layout : (slots : ℕ) (es : List Entry) → length es ≤ slots → length (layout slots es) ≡ slots
length-layout slots es le =
    length-append (map written es) (replicate (slots - length es) free) ∙ omega (arith, length-map es written, length-replicate (slots - length es) free)

pub free_slots : (n : ℕ) → Slots (replicate n free)
free_slots zero = tt
free_slots (suc n) = (length-free, free_slots n)

pub layout_slots : (slots : ℕ) (es : List Entry) → Fits es → Slots (layout slots es)
layout_slots slots es fit =
    All-append (λ s. length s ≡ 512) (map written es) (replicate (slots - length es) free)
    (All-map (λ s. length s ≡ 512) written es (All-weaker (λ e. Fit (holds e)) (λ e. length (written e) ≡ 512) length-written es fit)) (free_slots (slots - length es))

whole-free : (n : ℕ) → whole (replicate n free) ≡ replicate (512 * n) 0
unfolding free
whole-free zero = refl
whole-free (suc n) =
    let m : 512 + 512 * n ≡ 512 * suc n = omega arith in
    ap (λ l. free ++ l) (whole-free n) ∙ replicate-append-replicate 512 (512 * n) 0 ∙ ap (λ k. replicate k 0) m

whole-written : (es : List Entry) (ss : List (List ℕ)) → whole (map written es ++ ss) ≡ flat_map written es ++ whole ss
whole-written [] ss = refl
whole-written (e ∷ es) ss = ap (λ l. written e ++ l) (whole-written es ss) ∙ sym (append_assoc (written e) (flat_map written es) (whole ss))

-- the image of the slots of entries
pub whole-imaged : (slots : ℕ) (es : List Entry) → whole (layout slots es) ≡ imaged slots es
unfolding imaged
whole-imaged slots es = whole-written es (replicate (slots - length es) free) ∙ ap (λ l. flat_map written es ++ l) (whole-free (slots - length es))

-- the slots of the image of entries
pub slots-imaged : (slots : ℕ) (es : List Entry) → Fits es → slots_of (imaged slots es) ≡ layout slots es
slots-imaged slots es fit = ap slots_of (sym (whole-imaged slots es)) ∙ slots_whole (layout slots es) (layout_slots slots es fit)

pub length-imaged : (slots : ℕ) (es : List Entry) → Fits es → length es ≤ slots → length (imaged slots es) ≡ 512 * slots
length-imaged slots es fit le =
    ap length (sym (whole-imaged slots es)) ∙ length_whole (layout slots es) (layout_slots slots es fit) ∙ ap (λ n. 512 * n) (length-layout slots es le)

-- the slots of records alone
pub slots_of_lem : (rs : List Rec) → map written (map put rs) ≡ map slot rs
slots_of_lem [] = refl
slots_of_lem (r ∷ rs) = ap (λ l. slot r ∷ l) (slots_of_lem rs)

-- one more slot is written behind the used ones
pub layout_more : (n : ℕ) (es : List Entry) (e : Entry) → length es < n → set (layout n es) (length es) (written e) ≡ layout n (es ++ e ∷ [])
layout_more n es e lt =
    let one : n - length es ≡ suc (n - length (es ++ e ∷ [])) = omega (arith, length_push es e) in
    let rest = replicate (n - length (es ++ e ∷ [])) free in
    ap (λ k. set (map written es ++ replicate k free) (length es) (written e)) one
    ∙ set_at (map written es) free rest (written e) (length es) (length-map es written)
    ∙ sym (append_assoc (map written es) (written e ∷ []) rest)
    ∙ ap (λ l. l ++ rest) (sym (map_push written es e))
