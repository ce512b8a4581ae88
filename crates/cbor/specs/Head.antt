-- The head of an item: an initial byte, and behind it the argument, in its shortest form only.
use Rattle.std.specs.Prelude.{ℕ, ◌+◌, ◌*◌, ◌^◌, cond, List, [], ◌∷◌, reverse, length, take, Some, None, Option, ◌==◌, nat_le, nat_lt}

-- the number that digits in base 256 stand for, the least significant first
abbrev pub little_endian : List ℕ → ℕ
little_endian [] = 0
little_endian (d ∷ ds) = d + 256 * little_endian ds

-- the number that digits in base 256 stand for, the most significant first
unfoldable pub big_endian : List ℕ → ℕ
big_endian ds = little_endian (reverse ds)

-- an argument, and how many bytes it takes behind the initial byte
pub record Argument : Type 0 where
  pub value : ℕ
  pub width : ℕ

-- an argument of that width, which must be there whole and must not be below the least that needs the width
unfoldable pub following : ℕ → ℕ → List ℕ → Option Argument
following width least bs =
    cond (nat_le width (length bs)) (cond (nat_le least (big_endian (take width bs))) (Some (record { value = big_endian (take width bs); width = width })) None) None

-- the argument by the low five bits of the initial byte and the bytes behind it: 0 to 23 is the argument itself, 24 to 27 announce one of 1, 2, 4 or 8 bytes, 28 to 31 are refused
unfoldable pub argument : ℕ → List ℕ → Option Argument
argument info bs =
    cond (nat_lt info 24) (Some (record { value = info; width = 0 }))
    (cond (info == 24) (following 1 24 bs)
    (cond (info == 25) (following 2 (2 ^ 8) bs)
    (cond (info == 26) (following 4 (2 ^ 16) bs)
    (cond (info == 27) (following 8 (2 ^ 32) bs) None))))
