use Rattle.std.proofs.Common.{◌≡◌, ℕ, ◌-◌, List, drop}
use Rattle.cbor.specs.Finder.{seek_at}
use Rattle.cbor.specs.Meaning.{named}
use Rattle.cbor.proofs.finding.seek.Given as goal

abbrev pub invariant-loop-i : goal.invariant-loop-i
invariant-loop-i l =
    (message : List ℕ) (at : ℕ) → drop at message ≡ l.start
    → (p : ℕ) × (drop p message ≡ l.rest) × (seek_at (named l.key) message (l.count - l._i) p ≡ seek_at (named l.key) message l.count at)
