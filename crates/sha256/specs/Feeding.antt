-- What a hasher holds after it was fed a message in parts.
use Rattle.std.specs.Prelude.{◌≡◌, ℕ, ◌*◌, ◌/◌, ◌%◌, ◌^◌, List, length, take, drop}
use Rattle.sha256.specs.declared.hasher.Hasher.{Hasher}
use Rattle.sha256.specs.Sha256.{H0, blocks}

-- the number of whole blocks
abbrev pub whole : List ℕ → ℕ
whole m = length m / 64

-- what is left after the whole blocks
abbrev pub tail : List ℕ → List ℕ
tail m = drop (64 * whole m) m

-- the hasher was fed the message m: its whole blocks are compressed, the rest is in the buffer, and its length is counted
pub record Fed (hasher : Hasher) (m : List ℕ) : Type 0 where
  pub compressed : hasher.state ≡ blocks (whole m) H0 m
  pub kept : take (length m % 64) hasher.buffer ≡ tail m
  pub counted : hasher.count ≡ length m % 2 ^ 64
