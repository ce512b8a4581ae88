-- The value that a word names.
use Rattle.std.specs.Prelude.{ℕ, List, Option}
use Rattle.std.specs.List.{find}
use Rattle.std.specs.Str.{bytes_eq}

-- the first of some values whose word it is
unfoldable pub named : {N : Type 0} → (N → List ℕ) → List N → List ℕ → Option N
named spelling all word = find (λ n. bytes_eq (spelling n) word) all
