-- The two kinds of store, and their sizes.
use Rattle.std.specs.Prelude.{◌≡◌, ℕ, ◌-◌, ◌/◌, ◌%◌, ◌≤◌, Bool, ◌&&◌, List, length, ◌==◌}
use Rattle.credential.specs.Rec.{between}
use Rattle.image.specs.declared.kind.Kind.{Kind}
use Rattle.image.specs.declared.kind.Kind.TheVariants.{Table, Log}

-- the fewest slots of a store; none has more than 64
abbrev pub fewest : Kind → ℕ
fewest Table = 1
fewest Log = 2

-- how many records a store of so many slots lists at most
abbrev pub room : Kind → ℕ → ℕ
room Table slots = slots
room Log slots = slots - 1

-- the capacity of a store, by its image
abbrev pub capacity_of : Kind → List ℕ → ℕ
capacity_of kind im = room kind (length im / 512)

-- whole slots, and a number of them that fits the kind
unfoldable pub fits : Kind → List ℕ → Bool
fits kind im = length im % 512 == 0 && between (fewest kind) 64 (length im / 512)

-- whole slots of 512 bytes, and no more than 64
pub record IsWhole (im : List ℕ) : Type 0 where
  pub whole : length im % 512 ≡ 0
  pub few : length im / 512 ≤ 64
