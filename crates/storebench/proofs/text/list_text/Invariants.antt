use Rattle.std.proofs.Common.{◌≡◌, ◌++◌, length, drop, string_bytes}
use Rattle.storebench.specs.Text.{record_lines}
use Rattle.storebench.proofs.text.list_text.Given as goal

abbrev pub invariant-loop-place : goal.invariant-loop-place
invariant-loop-place g l =
    (string_bytes l.text ++ record_lines l.place (drop l.place (g.S.Store.records l.store)) ≡ record_lines 0 (g.S.Store.records l.store))
    × (l.place-end ≡ length (g.S.Store.records l.store))
