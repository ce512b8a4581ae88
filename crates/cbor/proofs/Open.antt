-- What to unfold where a message is read by computation.
use Rattle.std.proofs.Common.{ℕ}
use Rattle.cbor.specs.Steps.{given, or_fail, and_then}
use Rattle.cbor.specs.Head.{big_endian, following, argument}
use Rattle.cbor.specs.Reader.{string, simple_at, by_major, token, below, precedes, key, items, entries, inside, item, ended, whole, placed, checked, read_at}
use Rattle.cbor.specs.Finder.{end_at, seek_at, held_at, field_at}

unfoldable pub reading : ℕ
unfolding given or_fail and_then big_endian following argument string simple_at by_major token below precedes key items entries inside item ended whole placed checked read_at end_at seek_at held_at field_at
reading = 0
