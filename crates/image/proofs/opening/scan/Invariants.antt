-- What is left gives the answer.
use Rattle.std.proofs.Common.{◌≡◌, ◌≤◌, length, drop}
use Rattle.std.specs.Iterator.Adapters.{enumerate_source, enumerate_count}
use Rattle.std.specs.Slice.Iter.{chunks_exact_size}
use Rattle.image.specs.Cut.{cells, GivesSlots}
use Rattle.image.specs.Opening.{entries, at_slot}
use Rattle.image.proofs.Tally.{tally}
use Rattle.image.proofs.opening.scan.Given as goal

abbrev pub invariant-loop-k : goal.invariant-loop-k
invariant-loop-k l =
    let k = enumerate_count l.k-iterator in
    record {
      size : chunks_exact_size (enumerate_source l.k-iterator) ≡ 512;
      within : k ≤ length (cells l.image);
      gives : GivesSlots (enumerate_source l.k-iterator) (drop k (cells l.image));
      left : tally k l.listed (at_slot (entries l.kind l.capacity k l.listed (drop k (cells l.image)))) ≡ tally 0 0 (at_slot (entries l.kind l.capacity 0 0 (cells l.image)));
    }
