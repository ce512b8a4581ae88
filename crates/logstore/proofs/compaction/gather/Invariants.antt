use Rattle.std.proofs.Common.{◌≡◌, ◌++◌, length, take, drop}
use Rattle.image.specs.Cut.{bytes_of, cells}
use Rattle.logstore.specs.Cells.{chosen}
use Rattle.logstore.proofs.compaction.gather.Given as goal

abbrev pub invariant-loop-j : goal.invariant-loop-j
invariant-loop-j l = record {
  slots : cells l.image ≡ chosen (cells l.initial.image) (take l.j l.places) ++ drop l.j (cells l.initial.image);
  kept : length (bytes_of l.image) ≡ length (bytes_of l.initial.image);
}
