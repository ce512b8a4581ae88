-- What canonical reading means: exactly the encodings of canonical values are read, and a fault is the first.
use Rattle.std.specs.Prelude.{◌≡◌, ℕ, suc, ◌<◌, ◌≤◌, Bool, true, false, List, ◌∷◌, ◌++◌, length, take, drop, Some, None, Ok, Err}
use Rattle.std.specs.List.{flat_map}
use Rattle.cbor.specs.Finder.{Held, field_at}
use Rattle.cbor.specs.Grammar.{Leaf, map, Value, Canonical, encode, encode_entry, says, Each}
use Rattle.cbor.specs.Reader.{Said, deepest, checked, read_at}

-- the message from `start` on is read exactly where it is the encoding of a canonical value of at most four levels
pub record Exactly (message : List ℕ) (start : ℕ) : Type 0 where
  pub sound : (end : ℕ) → checked message start ≡ Ok end → (v : Value deepest) × Canonical deepest v × (drop start message ≡ encode deepest v)
  pub complete : (v : Value deepest) → Canonical deepest v → drop start message ≡ encode deepest v → checked message start ≡ Ok (length message)

-- nothing before a fault is at fault, whatever follows: no message that begins with the same bytes up to the fault breaks a rule earlier
abbrev pub First : List ℕ → ℕ → Type 0
First message start =
    (p : ℕ) → checked message start ≡ Err p → (other : List ℕ) → take p other ≡ take p message → (q : ℕ) → checked other start ≡ Err q → p ≤ q

-- none of these entries has a key that passes the test
abbrev pub Other : (Said → Bool) → {V : Type 0} → List (Leaf × V) → Type 0
Other wanted es = Each (λ e. wanted (says e.0) ≡ false) es

-- in a canonical map, wherever it lies, the value of the first key that passes the test is handed out as its bytes lie in the message, and nothing where no key passes
pub record Finds (wanted : Said → Bool) (message : List ℕ) (at : ℕ) : Type 0 where
  pub some : (levels : ℕ) → levels < deepest → (front back : List (Leaf × Value levels)) (k : Leaf) (v : Value levels) (rest : List ℕ)
      → Canonical (suc levels) (map (front ++ (k, v) ∷ back)) → drop at message ≡ encode (suc levels) (map (front ++ (k, v) ∷ back)) ++ rest
      → Other wanted front → wanted (says k) ≡ true
      → (h : Held) × (field_at wanted message at ≡ Some h) × (read_at message h.found.place ≡ Ok h.found) × (h.raw ≡ encode levels v) × (drop h.found.place message ≡ h.raw ++ (flat_map (encode_entry (encode levels)) back ++ rest))
  pub none : (levels : ℕ) → levels < deepest → (es : List (Leaf × Value levels)) (rest : List ℕ)
      → Canonical (suc levels) (map es) → drop at message ≡ encode (suc levels) (map es) ++ rest
      → Other wanted es → field_at wanted message at ≡ None
