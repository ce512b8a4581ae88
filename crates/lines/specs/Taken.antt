-- Words, taken one by one.
use Rattle.std.specs.Prelude.{ℕ, List, [], ◌∷◌, Some, None, Option}
use Rattle.std.specs.Borrow.{Bor}
use Rattle.std.specs.Option.{option_map}
use Rattle.lines.specs.declared.line.Words.{Words}
use Rattle.lines.specs.Line.{words_of}

-- the first word and those after it
abbrev pub headed : List (List ℕ) → Option (List ℕ × List (List ℕ))
headed [] = None
headed (w ∷ ws) = Some (w, ws)

-- the word of a list of one
abbrev pub single : List (List ℕ) → Option (List ℕ)
single [] = None
single (w ∷ []) = Some w
single (w ∷ v ∷ ws) = None

-- an answer of words, by the first word and those after it
abbrev pub told_words : Option Words → Option (List ℕ × List (List ℕ))
told_words answer = option_map (λ w. (w.first.now, words_of w.rest)) answer

-- an answer of one word, by what the word is
abbrev pub told_word : Option (Bor (List ℕ)) → Option (List ℕ)
told_word answer = option_map (λ w. w.now) answer
