-- Slots gathered to the front.
use Rattle.std.specs.Prelude.{ℕ, ◌<◌, ◌≤◌, List, [], ◌++◌, map, length, drop, slice_index, slice_index_or}

-- each number is that of one of so many slots, and none stands before its own place
abbrev pub Ahead : ℕ → List ℕ → Type 0
Ahead slots ps = (j : ℕ) → j < length ps → (j ≤ slice_index ps j) × (slice_index ps j < slots)

-- the slots of these numbers
abbrev pub chosen : List (List ℕ) → List ℕ → List (List ℕ)
chosen ss ps = map (λ p. slice_index_or ss p []) ps

-- the slots with those of these numbers in front
unfoldable pub gathered : List (List ℕ) → List ℕ → List (List ℕ)
gathered ss ps = chosen ss ps ++ drop (length ps) ss
