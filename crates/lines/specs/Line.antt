-- A line as words.
use Rattle.std.specs.Prelude.{ℕ, ◌-◌, Bool, cond, ◌||◌, List, [], length, take, Some, None, Option, ◌==◌, slice_index}
use Rattle.std.specs.Borrow.{Bor}
use Rattle.std.specs.List.{slice_split}

-- a line without the line feed that ends it
abbrev pub content_of : List ℕ → List ℕ
content_of line = cond (slice_index line (length line - 1) == 10) (take (length line - 1) line) line

-- an empty line, or a comment, which begins with a number sign
abbrev pub is_skipped : List ℕ → Bool
is_skipped line = length line == 0 || slice_index line 0 == 35

-- a line cut at each space: there is one word more than there are spaces
unfoldable pub words : List ℕ → List (List ℕ)
words line = slice_split (λ c. c == 32) line

-- the words of what follows a space, if there was one
abbrev pub words_of : Option (Bor (List ℕ)) → List (List ℕ)
words_of None = []
words_of (Some rest) = words rest.now
