-- Facts on the words of a line, over plain lists.
use Rattle.std.proofs.Common.{◌≡◌, ℕ, suc, ◌+◌, ◌-◌, ◌<◌, false, ◌==◌, nat_lt, List, [], ◌∷◌, length, get_or, take, drop, Some, None, Option, sym, refl, ap, subst, arith}
use Rattle.std.specs.List.{position, position_or_len, onto_first}
use Rattle.std.proofs.lemmas.Bool.{cond_both, ltb-true, ltb-false, ne_eqb}
use Rattle.std.proofs.lemmas.List.Splits.{slice_split_first}
use Rattle.std.proofs.lemmas.List.Sums.{fails_before_first}
use Rattle.lines.specs.Taken.{single, headed}
use Rattle.lines.specs.Line.{content_of, words}

abbrev space : List ℕ → ℕ
space line = position_or_len (λ c. c == 32) line

-- the first space ends the first word
pub words_at : (line : List ℕ) (i : ℕ) → position (λ c. c == 32) line ≡ Some i → words line ≡ take i line ∷ words (drop (i + 1) line)
unfolding words
words_at line i =
    cond_both (nat_lt (space line) (length line)) (Some (space line)) None (λ o. o ≡ Some i → words line ≡ take i line ∷ words (drop (i + 1) line))
    (λ t e. let is : space line ≡ i = cc in subst (λ n. words line ≡ take n line ∷ words (drop (n + 1) line)) is (slice_split_first (λ c. c == 32) line 0 (ltb-true _ _ t)))
    (λ f e. cc)

whole : (cs : List ℕ) → ((k : ℕ) → k < length cs → (get_or cs k 0 == 32) ≡ false) → words cs ≡ cs ∷ []
unfolding words
whole [] free = refl
whole (c ∷ cs) free = rw (free 0 (omega arith), whole cs (λ k h. free (suc k) (omega arith))) refl

-- without a space there is one word
pub words_one : (line : List ℕ) → position (λ c. c == 32) line ≡ None → words line ≡ line ∷ []
unfolding words
words_one line =
    cond_both (nat_lt (space line) (length line)) (Some (space line)) None (λ o. o ≡ None → words line ≡ line ∷ [])
    (λ t e. cc)
    (λ f e. whole line (λ k h. fails_before_first (λ c. c == 32) line k 0 (let z = ltb-false _ _ f in omega arith)))

-- a line has at least one word
pub words_some : (line : List ℕ) → (w : List ℕ) × (ws : List (List ℕ)) × (words line ≡ w ∷ ws)
unfolding words
words_some [] = ([], [], refl)
words_some (c ∷ cs) =
    let rest = words_some cs in
    cond_both (c == 32) ([] ∷ words cs) (onto_first c (words cs)) (λ xs. (w : List ℕ) × (ws : List (List ℕ)) × (xs ≡ w ∷ ws))
    (λ e. ([], words cs, refl))
    (λ e. (c ∷ rest.0, rest.1, ap (onto_first c) rest.2))

pub single_more : (w line : List ℕ) → single (w ∷ words line) ≡ None
single_more w line = ap (λ ws. single (w ∷ ws)) (words_some line).2

abbrev joined_again : Option (List ℕ × List (List ℕ)) → List (List ℕ)
joined_again (Some p) = p.0 ∷ p.1
joined_again None = []

pub headed_parts : (w : List ℕ) (ws vs : List (List ℕ)) → Some (w, ws) ≡ headed vs → vs ≡ w ∷ ws
headed_parts w ws [] e = absurd (let z : ◌≡◌ {A = ℕ} 0 1 = cc in omega arith)
headed_parts w ws (v ∷ vs) e = sym (ap joined_again e)

-- a line that no line feed ends
pub content_none : (line : List ℕ) → length line ≡ 0 → content_of line ≡ line
content_none [] h = refl
content_none (c ∷ cs) h = absurd (omega arith)

pub content_other : (line : List ℕ) → (get_or line (length line - 1) 0 ≡ 10 → ⊥) → content_of line ≡ line
content_other line h = rw (ne_eqb (get_or line (length line - 1) 0) 10 h) refl
