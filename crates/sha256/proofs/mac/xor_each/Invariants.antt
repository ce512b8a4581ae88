-- The bytes so far are combined, and the others are as they were.
use Rattle.std.proofs.Common.{◌≡◌, ◌++◌, take, drop}
use Rattle.sha256.specs.Hmac.{xor}
use Rattle.sha256.proofs.mac.xor_each.Given as goal

abbrev pub invariant-loop-x : goal.invariant-loop-x
invariant-loop-x l = l.pad ≡ xor l.by (take l.x-index l.initial.pad) ++ drop l.x-index l.initial.pad
