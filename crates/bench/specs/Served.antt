-- What a bench made of an input.
use Rattle.std.specs.Prelude.{◌≡◌, ℕ, ◌<◌, ◌⊎◌, List, map, length, Option, IfSome}
use Rattle.std.specs.List.{AllByRecursion, FoldsTo, concat}
use Rattle.std.specs.Io.{StopsAt}
use Rattle.std.specs.Io.BufRead.{take_through, drop_through}
use Rattle.std.specs.Io.KnownBytes.{Consumes, Appends, IsAtEnd}

-- a line of the input, and what was printed for it
pub record Turn : Type 0 where
  pub line : List ℕ
  pub shown : List ℕ

-- a line of the input: it is not empty, and only its last byte may be a line feed
abbrev pub IsLine : List ℕ → Type 0
IsLine line = (0 < length line) × StopsAt line 10

-- the line is the first of some bytes, up to and with its line feed where there is one, and the rest is what follows it
abbrev pub IsFirst : List ℕ → List ℕ → List ℕ → Type 0
IsFirst bytes line rest = (line ≡ take_through 10 bytes) × (rest ≡ drop_through 10 bytes)

-- the turns go on from one bench to the next; each line is a line; where the bytes of the input are known, the
-- lines are the first lines of it, one behind the other, and the rest is left; where the bytes of the output are
-- known, it gained what was printed, in the same order
pub record Taken {B : Type 0} (answers : B → List ℕ → List ℕ → B → Type 0) (before after : B) (asked left held holds : Option (List ℕ)) (turns : List Turn) : Type 0 where
  pub answered : FoldsTo (λ b t next. answers b t.line t.shown next) before turns after
  pub lines : AllByRecursion (λ t. IsLine t.line) turns
  pub cut : IfSome asked (λ bytes. IfSome left (λ rest. FoldsTo (λ xs t ys. IsFirst xs t.line ys) bytes turns rest))
  pub read : Consumes asked left (concat (map (λ t. t.line) turns))
  pub printed : Appends held holds (concat (map (λ t. t.shown) turns))

-- there are such turns, up to the end of the input where its bytes are known, or as many as a number of 64 bits counts
pub record Served {B : Type 0} (answers : B → List ℕ → List ℕ → B → Type 0) (before after : B) (asked left held holds : Option (List ℕ)) : Type 0 where
  pub turns : List Turn
  pub taken : Taken answers before after asked left held holds turns
  pub whole : IfSome asked (λ bytes. IsAtEnd left) ⊎ (length turns ≡ 18446744073709551615)
