use Rattle.std.proofs.Common.{◌≡◌, ◌*◌, drop, vec_items}
use Rattle.lines.specs.Hex.{pairs, decoded}
use Rattle.lines.proofs.Spelling.{after}
use Rattle.lines.proofs.hex.decode.Given as goal

abbrev pub invariant-loop-high : goal.invariant-loop-high
invariant-loop-high l = after (vec_items l.bytes) (pairs (drop (2 * l.high-index) l.fn.text)) ≡ decoded l.fn.text
