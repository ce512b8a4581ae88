use Rattle.std.proofs.Common.{◌≡◌, ◌-◌, [], reverse, vec_items}
use Rattle.explain.specs.Outlined.{Outlined, Chain, entered_all, insides}
use Rattle.explain.proofs.items.outline.Given as goal

abbrev pub invariant-loop-at : goal.invariant-loop-at
invariant-loop-at l =
    Outlined (vec_items l.entries) l.at × Outlined (vec_items l.entries) l.stop
    × (entered_all [] (insides (vec_items l.entries)) ≡ reverse (vec_items l.awaited))
    × Chain l.message 1 (vec_items l.entries) l.at

abbrev pub decreases-loop-at : goal.decreases-loop-at
decreases-loop-at l = l.stop - l.at
