use Rattle.std.proofs.Common.{◌≡◌, ◌≤◌, drop}
use Rattle.lines.specs.Decimal.{follows, numbered}
use Rattle.lines.proofs.decimal.number.Given as goal

abbrev pub invariant-loop-c : goal.invariant-loop-c
invariant-loop-c l = (follows l.largest l.total (drop l.c-index l.text) ≡ numbered l.largest l.text) × (l.total ≤ l.largest)
