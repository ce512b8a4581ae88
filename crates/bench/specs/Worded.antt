-- The words of the error lines.
use Rattle.std.specs.Prelude.{ℕ, List, ◌++◌, codes}
use Rattle.bench.specs.declared.wrong.Wrong.{Wrong}
use Rattle.bench.specs.declared.wrong.Wrong.TheVariants.{Step, Words, Hex, Sub, Protect, Slots, Place, Kind, NoStore, Memory}

-- what is wrong, in words
abbrev pub wording : Wrong → List ℕ
wording Step = codes "no such step, try help"
wording Words = codes "wrong number of words for this step"
wording Hex = codes "bytes must be pairs of lower-case hex digits, or -"
wording Sub = codes "SUB must be a decimal number from 0 to 255"
wording Protect = codes "PROTECT must be a decimal number from 0 to 255"
wording Slots = codes "N must be a decimal number from 0 to 18446744073709551615"
wording Place = codes "I must be a decimal number from 0 to 18446744073709551615"
wording Kind = codes "KIND must be table or log"
wording NoStore = codes "no store is open"
wording Memory = codes "out of memory"

-- the line of what is wrong
abbrev pub error_line : Wrong → List ℕ
error_line w = codes "error: " ++ (wording w ++ codes "\n")
