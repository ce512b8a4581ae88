-- Where a message breaks a rule: before the fault lie only heads of open maps and arrays, whole canonical values and keys that may stand there; at the fault lies none of these.
use Rattle.std.specs.Prelude.{◌≡◌, ℕ, zero, suc, ◌^◌, ◌<◌, ◌≤◌, true, ◌⊎◌, List, [], ◌∷◌, ◌++◌, length, drop, Err, ◌≢◌}
use Rattle.std.specs.List.{flat_map}
use Rattle.cbor.specs.Grammar.{Leaf, Value, head, encode_leaf, encode_entry, encode, FineLeaf, IsKey, Each, Entries, Canonical, spelled, FineSaid}
use Rattle.cbor.specs.Reader.{Said, container, precedes, deepest, checked}

-- the bytes begin with no item: its head is cut, not the shortest or not allowed, its string is cut, or there is no byte
abbrev pub NoItem : List ℕ → Type 0
NoItem us = (s : Said) → FineSaid s → (rest : List ℕ) → us ≢ spelled s ++ rest

-- the bytes begin with no key that may come after the key encoded as `before`
abbrev pub NoKey : List ℕ → List ℕ → Type 0
NoKey before us = (k : Leaf) → IsKey k → FineLeaf k → precedes before (encode_leaf k) ≡ true → (rest : List ℕ) → us ≢ encode_leaf k ++ rest

-- the encoding of the last key of some entries, or `before` where there is none
abbrev pub last_key : {V : Type 0} → List ℕ → List (Leaf × V) → List ℕ
last_key before [] = before
last_key before (e ∷ es) = last_key (encode_leaf e.0) es

-- the first fault in the bytes us lies where ws begins, given where it lies in the items of the level below
pub data Within (levels : ℕ) (Below : List ℕ → List ℕ → Type 0) (us ws : List ℕ) : Type 0 where
  -- at the first item
  unread : us ≡ ws → NoItem us → Within levels Below us ws
  -- in an array, behind some of its values
  in_array : (count : ℕ) (values : List (Value levels)) (rest : List ℕ) → count < 2 ^ 64 → us ≡ head 4 count ++ (flat_map (encode levels) values ++ rest) → Each (Canonical levels) values → length values < count → Below rest ws → Within levels Below us ws
  -- in a map, behind some of its entries, at a key
  at_key : (count : ℕ) (es : List (Leaf × Value levels)) → count < 2 ^ 64 → us ≡ head 5 count ++ (flat_map (encode_entry (encode levels)) es ++ ws) → Entries (Canonical levels) [] es → length es < count → NoKey (last_key [] es) ws → Within levels Below us ws
  -- in a map, behind some of its entries and a key
  in_value : (count : ℕ) (es : List (Leaf × Value levels)) (k : Leaf) (rest : List ℕ) → count < 2 ^ 64 → us ≡ head 5 count ++ (flat_map (encode_entry (encode levels)) es ++ (encode_leaf k ++ rest)) → Entries (Canonical levels) [] es → length es < count → IsKey k → FineLeaf k → precedes (last_key [] es) (encode_leaf k) ≡ true → Below rest ws → Within levels Below us ws

-- the first fault in the bytes us lies where ws begins, with so many levels left; where none is left, a map or an array is a fault itself
abbrev pub Broken : ℕ → List ℕ → List ℕ → Type 0
Broken zero us ws = (us ≡ ws) × (NoItem us ⊎ ((s : Said) × (rest : List ℕ) × (container s ≡ true) × FineSaid s × (us ≡ spelled s ++ rest)))
Broken (suc levels) us ws = Within levels (Broken levels) us ws

-- behind one canonical value lie surplus bytes
abbrev pub Surplus : List ℕ → List ℕ → Type 0
Surplus us ws = (v : Value deepest) × Canonical deepest v × (us ≡ encode deepest v ++ ws) × (0 < length ws)

-- at the place of a fault the message is broken, and nowhere before
abbrev pub Placed : List ℕ → ℕ → Type 0
Placed message start =
    (p : ℕ) → checked message start ≡ Err p → (p ≤ length message) × (Broken deepest (drop start message) (drop p message) ⊎ Surplus (drop start message) (drop p message))
