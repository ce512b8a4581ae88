-- The canonical encodings, as a grammar of values: what a canonical message may be.
use Rattle.std.specs.Prelude.{◌≡◌, ℕ, zero, suc, ◌+◌, ◌*◌, ◌/◌, ◌%◌, ◌^◌, ◌<◌, ◌≤◌, true, cond, List, [], ◌∷◌, ◌++◌, reverse, length, nat_lt}
use Rattle.std.specs.List.{flat_map}
use Rattle.cbor.specs.Reader.{Said, precedes}
use Rattle.cbor.specs.Reader as reader

-- an item that holds no others: a number n, the negative number -1 - n, a string, or a simple value
pub data Leaf : Type 0 where
  number : ℕ → Leaf
  negative : ℕ → Leaf
  bytes : List ℕ → Leaf
  text : List ℕ → Leaf
  simple : ℕ → Leaf

-- an item over values of the levels below it: a leaf, an array of values, or a map from leaves to values
pub data Node (V : Type 0) : Type 0 where
  leaf : Leaf → Node V
  array : List V → Node V
  map : List (Leaf × V) → Node V

-- the values in which maps and arrays nest to at most so many levels
abbrev pub Value : ℕ → Type 0
Value zero = Leaf
Value (suc levels) = Node (Value levels)

-- the lowest digits of a number in base 256, the least significant first
abbrev pub digits : ℕ → ℕ → List ℕ
digits zero n = []
digits (suc width) n = n % 256 ∷ digits width (n / 256)

-- the shortest head of a major type and an argument
unfoldable pub head : ℕ → ℕ → List ℕ
head major n =
    cond (nat_lt n 24) ((32 * major + n) ∷ [])
    (cond (nat_lt n (2 ^ 8)) ((32 * major + 24) ∷ reverse (digits 1 n))
    (cond (nat_lt n (2 ^ 16)) ((32 * major + 25) ∷ reverse (digits 2 n))
    (cond (nat_lt n (2 ^ 32)) ((32 * major + 26) ∷ reverse (digits 4 n)) ((32 * major + 27) ∷ reverse (digits 8 n)))))

-- what a leaf says when it is read
abbrev pub says : Leaf → Said
says (number n) = reader.number n
says (negative n) = reader.negative n
says (bytes bs) = reader.bytes bs
says (text bs) = reader.text bs
says (simple n) = reader.simple n

-- the bytes of an item's head and string
abbrev pub spelled : Said → List ℕ
spelled (reader.number n) = head 0 n
spelled (reader.negative n) = head 1 n
spelled (reader.bytes bs) = head 2 (length bs) ++ bs
spelled (reader.text bs) = head 3 (length bs) ++ bs
spelled (reader.array n) = head 4 n
spelled (reader.map n) = head 5 n
spelled (reader.simple n) = (224 + n) ∷ []

-- arguments, lengths and counts are below 2^64, and of the simple values there are false, true and null
abbrev pub FineSaid : Said → Type 0
FineSaid (reader.number n) = n < 2 ^ 64
FineSaid (reader.negative n) = n < 2 ^ 64
FineSaid (reader.bytes bs) = length bs < 2 ^ 64
FineSaid (reader.text bs) = length bs < 2 ^ 64
FineSaid (reader.array n) = n < 2 ^ 64
FineSaid (reader.map n) = n < 2 ^ 64
FineSaid (reader.simple n) = (20 ≤ n) × (n ≤ 22)

-- the encoding of a leaf
unfoldable pub encode_leaf : Leaf → List ℕ
encode_leaf l = spelled (says l)

-- a leaf is canonical
abbrev pub FineLeaf : Leaf → Type 0
FineLeaf l = FineSaid (says l)

-- the encoding of a map's entry: the key, then its value
unfoldable pub encode_entry : {V : Type 0} → (V → List ℕ) → Leaf × V → List ℕ
encode_entry encodeValue e = encode_leaf e.0 ++ encodeValue e.1

-- the encoding of an item
unfoldable pub encode_node : {V : Type 0} → (V → List ℕ) → Node V → List ℕ
encode_node encodeValue (leaf l) = encode_leaf l
encode_node encodeValue (array vs) = head 4 (length vs) ++ flat_map encodeValue vs
encode_node encodeValue (map es) = head 5 (length es) ++ flat_map (encode_entry encodeValue) es

-- the encoding of a value
unfoldable pub encode : (levels : ℕ) → Value levels → List ℕ
encode zero v = encode_leaf v
encode (suc levels) v = encode_node (encode levels) v

-- a map key is a number, a negative number or a string
abbrev pub IsKey : Leaf → Type 0
IsKey (number n) = Unit {0}
IsKey (negative n) = Unit {0}
IsKey (bytes bs) = Unit {0}
IsKey (text bs) = Unit {0}
IsKey (simple n) = ⊥

-- every value of a list is canonical
abbrev pub Each : {V : Type 0} → (V → Type 0) → List V → Type 0
Each Fine [] = Unit {0}
Each Fine (v ∷ vs) = Fine v × Each Fine vs

-- the entries of a map: keys in strictly ascending order after the key encoded as `before`, each with a canonical value
abbrev pub Entries : {V : Type 0} → (V → Type 0) → List ℕ → List (Leaf × V) → Type 0
Entries Fine before [] = Unit {0}
Entries Fine before (e ∷ es) =
    IsKey e.0 × FineLeaf e.0 × (precedes before (encode_leaf e.0) ≡ true) × Fine e.1 × Entries Fine (encode_leaf e.0) es

-- an item is canonical
abbrev pub FineNode : {V : Type 0} → (V → Type 0) → Node V → Type 0
FineNode Fine (leaf l) = FineLeaf l
FineNode Fine (array vs) = (length vs < 2 ^ 64) × Each Fine vs
FineNode Fine (map es) = (length es < 2 ^ 64) × Entries Fine [] es

-- a value is canonical
abbrev pub Canonical : (levels : ℕ) → Value levels → Type 0
Canonical zero v = FineLeaf v
Canonical (suc levels) v = FineNode (Canonical levels) v
