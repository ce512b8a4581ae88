use Rattle.std.proofs.Common.{◌≡◌, ◌*◌, length, take}
use Rattle.lines.specs.Hex.{digits}
use Rattle.lines.proofs.hex.digits_of.Given as goal

abbrev pub invariant-loop-i : goal.invariant-loop-i
invariant-loop-i l = (length l.digits ≡ 64) × (take (2 * l.i) l.digits ≡ digits (take l.i l.part))
