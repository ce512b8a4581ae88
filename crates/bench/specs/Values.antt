-- The words of a line, read as values.
use Rattle.std.specs.Prelude.{ℕ, List, [], ◌∷◌, Ok, Err, Result}
use Rattle.std.specs.Borrow.{Bor}
use Rattle.std.specs.Option.{ok_or}
use Rattle.lines.specs.declared.line.Words.{Words}
use Rattle.lines.specs.Decimal.{numbered}
use Rattle.lines.specs.Hex.{decoded}
use Rattle.lines.specs.Line.{words_of}
use Rattle.lines.specs.Taken as taken
use Rattle.bench.specs.declared.wrong.Wrong.{Wrong}
use Rattle.bench.specs.declared.wrong.Wrong.TheVariants as wrong

-- the first word and those after it
abbrev pub headed : List (List ℕ) → Result (List ℕ × List (List ℕ)) Wrong
headed ws = ok_or (taken.headed ws) wrong.Words

-- the word of a list of one
abbrev pub single : List (List ℕ) → Result (List ℕ) Wrong
single ws = ok_or (taken.single ws) wrong.Words

-- no word is left
abbrev pub ended : List (List ℕ) → Result (Unit {0}) Wrong
ended [] = Ok tt
ended (w ∷ ws) = Err wrong.Words

-- the bytes that a word spells
abbrev pub spelled : List ℕ → Result (List ℕ) Wrong
spelled word = ok_or (decoded word) wrong.Hex

-- the byte that a word spells, or the mistake of that word
abbrev pub byte : List ℕ → Wrong → Result ℕ Wrong
byte word otherwise = ok_or (numbered 255 word) otherwise

-- the number of 64 bits that a word spells, or the mistake of that word
abbrev pub number : List ℕ → Wrong → Result ℕ Wrong
number word otherwise = ok_or (numbered 18446744073709551615 word) otherwise

-- an answer of words, by the first word and those after it
abbrev pub told_words : Result Words Wrong → Result (List ℕ × List (List ℕ)) Wrong
told_words (Ok w) = Ok (w.first.now, words_of w.rest)
told_words (Err e) = Err e

-- an answer of one word, by what the word is
abbrev pub told_word : Result (Bor (List ℕ)) Wrong → Result (List ℕ) Wrong
told_word (Ok w) = Ok w.now
told_word (Err e) = Err e
