use Rattle.std.proofs.Common.{◌≡◌, reverse, vec_items, vec_len}
use Rattle.explain.specs.Outlined.{finished}
use Rattle.explain.proofs.items.enter.Given as goal

abbrev pub invariant-loop-count : goal.invariant-loop-count
invariant-loop-count l = finished (reverse (vec_items l.awaited)) ≡ finished (reverse (vec_items l.initial.awaited))

abbrev pub decreases-loop-count : goal.decreases-loop-count
decreases-loop-count l = vec_len l.awaited
