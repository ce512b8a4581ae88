-- The verdict on a message.
use Rattle.std.specs.Prelude.{ℕ, cond, List, [], ◌∷◌, ◌++◌, length, Ok, Err, codes, decimal, Result, ◌==◌, nat_lt, slice_index}
use Rattle.cbor.specs.Reader.{checked}
use Rattle.lines.specs.Hex.{encoded}
use Rattle.explain.specs.declared.verdict.Broken.{Broken}
use Rattle.explain.specs.declared.verdict.Broken.TheVariants.{InvalidCommand, InvalidLength, InvalidCbor, RequestTooLarge}

-- the status number of a verdict
abbrev pub code : Result (Unit {0}) Broken → ℕ
code (Ok accepted) = 0x00
code (Err InvalidCommand) = 0x01
code (Err InvalidLength) = 0x03
code (Err (InvalidCbor place)) = 0x12
code (Err RequestTooLarge) = 0x39

-- the place of a verdict's fault, 0 where it has none
abbrev pub place_of : Result (Unit {0}) Broken → ℕ
place_of (Ok accepted) = 0
place_of (Err InvalidCommand) = 0
place_of (Err InvalidLength) = 0
place_of (Err (InvalidCbor place)) = place
place_of (Err RequestTooLarge) = 0

-- up to where a message is outlined: to its end, or to the fault
abbrev pub reach : Result (Unit {0}) Broken → ℕ → ℕ
reach (Ok accepted) size = size
reach (Err InvalidCommand) size = 0
reach (Err InvalidLength) size = 0
reach (Err (InvalidCbor place)) size = place
reach (Err RequestTooLarge) size = 0

-- the verdict on what follows the command byte
abbrev pub of_item : Result ℕ ℕ → Result (Unit {0}) Broken
of_item (Ok end) = Ok tt
of_item (Err place) = Err (InvalidCbor place)

-- no byte, too many bytes, another command, and then the item, in this order
abbrev pub judged : List ℕ → Result (Unit {0}) Broken
judged message =
    cond (length message == 0) (Err InvalidLength)
    (cond (nat_lt 1024 (length message)) (Err RequestTooLarge)
    (cond (slice_index message 0 == 0x41) (of_item (checked message 1)) (Err InvalidCommand)))

-- the line of a verdict
abbrev pub verdict_line : Result (Unit {0}) Broken → List ℕ
verdict_line v = codes "read: 0x" ++ (encoded (code v ∷ []) ++ (codes " place " ++ (decimal (place_of v) ++ codes "\n")))
