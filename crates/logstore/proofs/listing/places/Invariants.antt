-- What is left gives the answer.
use Rattle.std.proofs.Common.{◌≡◌, ◌≤◌, [], length, drop}
use Rattle.std.specs.Iterator.Adapters.{enumerate_source, enumerate_count}
use Rattle.std.specs.Slice.Iter.{chunks_exact_size}
use Rattle.image.specs.Cut.{cells, GivesSlots}
use Rattle.logstore.specs.Places.{places_from}
use Rattle.logstore.proofs.listing.places.Given as goal

abbrev pub invariant-loop-k : goal.invariant-loop-k
invariant-loop-k l =
    let k = enumerate_count l.k-iterator in
    record {
      size : chunks_exact_size (enumerate_source l.k-iterator) ≡ 512;
      gives : GivesSlots (enumerate_source l.k-iterator) (drop k (cells l.image));
      few : length l.places.items ≤ k;
      left : places_from k l.places.items (drop k (cells l.image)) ≡ places_from 0 [] (cells l.image);
    }
