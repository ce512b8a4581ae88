-- Where the listed records lie: the replay, on slot numbers.
use Rattle.std.specs.Prelude.{ℕ, suc, List, [], ◌∷◌, ◌++◌, Some, None, Option}
use Rattle.std.specs.List.{remove}
use Rattle.credential.specs.Slot.{Content, empty, holds, put, gone, content_of}

-- the slots of the listed records after slot k, which holds this
abbrev pub seen : ℕ → List ℕ → Option Content → List ℕ
seen k ps None = ps
seen k ps (Some empty) = ps
seen k ps (Some (holds (put r))) = ps ++ k ∷ []
seen k ps (Some (holds (gone place))) = remove ps place

-- the slots of the listed records after the slots from number k on
unfoldable pub places_from : ℕ → List ℕ → List (List ℕ) → List ℕ
places_from k ps [] = ps
places_from k ps (s ∷ ss) = places_from (suc k) (seen k ps (content_of s)) ss
