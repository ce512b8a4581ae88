-- Decimal numbers.
use Rattle.std.specs.Prelude.{ℕ, ◌+◌, ◌-◌, ◌*◌, Bool, true, cond, ◌&&◌, List, [], ◌∷◌, Some, None, Option, nat_le}

-- a character is a decimal digit
abbrev pub is_digit : ℕ → Bool
is_digit c = nat_le 48 c && nat_le c 57

-- every character is a decimal digit
unfoldable pub all_digits : List ℕ → Bool
all_digits [] = true
all_digits (c ∷ cs) = is_digit c && all_digits cs

-- the value of digits that follow those of n
unfoldable pub total : ℕ → List ℕ → ℕ
total n [] = n
total n (c ∷ cs) = total (10 * n + (c - 48)) cs

-- the value of the digits of n and those that follow, where it is not above the largest
unfoldable pub follows : ℕ → ℕ → List ℕ → Option ℕ
follows largest n cs = cond (all_digits cs && nat_le (total n cs) largest) (Some (total n cs)) None

-- the number of a text: at least one digit, and a value that is not above the largest
unfoldable pub numbered : ℕ → List ℕ → Option ℕ
numbered largest [] = None
numbered largest (c ∷ cs) = follows largest 0 (c ∷ cs)
