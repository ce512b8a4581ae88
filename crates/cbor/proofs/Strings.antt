-- What is read of a head and of a string lies within the bytes that it was read from.
use Rattle.std.proofs.Common.{◌≡◌, ℕ, ◌≤◌, List, length, IfSome, Some, arith, length-take}
use Rattle.std.proofs.lemmas.Bool.Decides.{nat_tests}
use Rattle.cbor.specs.Head.{Argument, argument, following}
use Rattle.cbor.specs.Reader.{Said, string, by_major, simple_at, string_size}

pub argument_within : (info : ℕ) (bs : List ℕ) → IfSome (argument info bs) (λ a. a.width ≤ length bs)
unfolding argument following
argument_within info bs = grind (arith, nat_tests)

pub argument_fits : (info : ℕ) (bs : List ℕ) (a : Argument) → Some a ≡ argument info bs → a.width ≤ length bs
argument_fits info bs a e = rw (← e) at (argument_within info bs)

pub string_within : (major info n : ℕ) (bs : List ℕ) → IfSome (by_major major info n bs) (λ s. string_size s ≤ length bs)
unfolding by_major string simple_at
string_within major info n bs = grind (arith, nat_tests, length-take {A = ℕ})

pub string_fits : (major info n : ℕ) (bs : List ℕ) (s : Said) → Some s ≡ by_major major info n bs → string_size s ≤ length bs
string_fits major info n bs s e = rw (← e) at (string_within major info n bs)
