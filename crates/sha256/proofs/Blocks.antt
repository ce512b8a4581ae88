-- The rounds as a fold, and one step of the schedule at the place that a loop has come to.
use Rattle.std.proofs.Common.{◌≡◌, ℕ, zero, suc, ◌+◌, ◌-◌, ◌<◌, ◌≤◌, List, [], ◌∷◌, ◌++◌, length, take, drop, set, map, sym, refl, ◌∙◌, arith}
use Rattle.std.specs.Simd.{first_chunks}
use Rattle.std.specs.List.{fold, zip}
use Rattle.std.proofs.lemmas.List.{take_more_set, take_all, get_or-take, length-take-le}
use Rattle.std.proofs.lemmas.Grind.{common_steps}
use Rattle.sha256.specs.declared.state.State.{State}
use Rattle.sha256.specs.Sha256.{word, words, next_word, extend, round, rounds}

-- the rounds are a fold over each constant beside its word
pub rounds_fold : (ks ws : List ℕ) (v : State) → rounds ks ws v ≡ fold (λ s p. round p.0 p.1 s) v (zip ks ws)
unfolding rounds
rounds_fold [] ws v = refl
rounds_fold (k ∷ ks) [] v = refl
rounds_fold (k ∷ ks) (w ∷ ws) v = rounds_fold ks ws (round k w v)

-- the first word of four bytes
word_front : (bs : List ℕ) → word (take 4 bs) ≡ word bs
word_front bs = grind (arith, common_steps)

-- the block's own words
words_chunks : (n : ℕ) (bs : List ℕ) → map word (first_chunks 4 n bs) ≡ words n bs
unfolding words
words_chunks zero bs = refl
words_chunks (suc n) bs = rw (word_front bs, words_chunks n (drop 4 bs))

-- the words of all the chunks
pub words_all : (bs w : List ℕ) (cs : List (List ℕ)) (t : ℕ) → cs ≡ first_chunks 4 16 bs → length cs ≡ 16 → t ≡ 16 → take t w ≡ map word (take t cs) → take 16 w ≡ words 16 bs
words_all bs w cs t front long is e =
    let le : length cs ≤ 16 = omega arith in
    (rw is at e) ∙ (rw (take_all 16 cs le, front) (words_chunks 16 bs))

extend-suc : (n : ℕ) (W : List ℕ) → extend (suc n) W ≡ extend n (W ++ next_word W (length W) ∷ [])
unfolding extend
extend-suc n W = refl

-- the place t of the words that follow from those before
pub extend_more : (w : List ℕ) (t x : ℕ) → length w ≡ 64 → 16 ≤ t → t < 64 → x ≡ next_word w t → extend (64 - (t + 1)) (take (t + 1) (set w t x)) ≡ extend (64 - t) (take t w)
extend_more w t x long low lt is =
    let left : 64 - t ≡ suc (64 - (t + 1)) = omega arith in
    let h : t < length w = omega arith in
    let le : t ≤ length w = omega arith in
    let a : t - 2 < t = omega arith in
    let b : t - 7 < t = omega arith in
    let c : t - 15 < t = omega arith in
    let d : t - 16 < t = omega arith in
    let e : next_word (take t w) (length (take t w)) ≡ next_word w t =
    rw (length-take-le t w le, get_or-take t w (t - 2) 0 a, get_or-take t w (t - 7) 0 b, get_or-take t w (t - 15) 0 c, get_or-take t w (t - 16) 0 d) in
    rw (take_more_set w t x h, left, extend-suc, e, is)

pub extend_none : (w ws : List ℕ) (t : ℕ) → length w ≡ 64 → 64 ≤ t → t ≤ 64 → extend (64 - t) (take t w) ≡ ws → w ≡ ws
unfolding extend
extend_none w ws t long low high e =
    let is : t ≡ 64 = omega arith in
    let le : length w ≤ 64 = omega arith in
    sym (take_all 64 w le) ∙ (rw is at e)
