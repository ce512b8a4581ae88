-- The argument of a head, by what its initial byte announces.
use Rattle.std.proofs.Common.{◌≡◌, ℕ, ◌<◌, ◌≤◌, List, Some, None, refl, arith}
use Rattle.std.proofs.lemmas.Bool.{lt-ltb}
use Rattle.std.proofs.lemmas.Bool.Decides.{nat_tests}
use Rattle.cbor.specs.Head.{argument}

pub argument_low : (info : ℕ) (bs : List ℕ) → info < 24 → Some (record { value = info; width = 0 }) ≡ argument info bs
unfolding argument
argument_low info bs h = rw (lt-ltb info 24 h) refl

pub argument_reserved : (info : ℕ) (bs : List ℕ) → 28 ≤ info → None ≡ argument info bs
unfolding argument
argument_reserved info bs h = grind (arith, nat_tests)
