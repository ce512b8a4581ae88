-- The image of a table: a function of the number of slots and the records.
use Rattle.std.specs.Prelude.{◌≡◌, ℕ, ◌-◌, ◌/◌, Bool, true, List, [], ◌∷◌, ◌++◌, map, length, take, drop, is_ok}
use Rattle.std.specs.List.{remove}
use Rattle.credential.specs.Rec.{Rec}
use Rattle.credential.specs.Slot.{put, free}
use Rattle.image.specs.declared.kind.Kind.{Kind}
use Rattle.image.specs.declared.kind.Kind.TheVariants.{Table}
use Rattle.image.specs.Laws.{imaged}
use Rattle.image.specs.Opening.{opened, records_of}

-- the kind of a table
abbrev pub kind : Kind
kind = Table

-- an image is that of a table
abbrev pub is_table : List ℕ → Bool
is_table im = is_ok (opened Table im)

-- the records of a table's image
abbrev pub records_in : List ℕ → List Rec
records_in im = records_of Table im

-- the image is that of a table with so many records
pub record IsTableOf (im : List ℕ) (count : ℕ) : Type 0 where
  pub opens : is_table im ≡ true
  pub listed : length (records_in im) ≡ count

-- the image of so many slots with these records in front, and free slots behind them
abbrev pub tabled : ℕ → List Rec → List ℕ
tabled slots rs = imaged slots (map put rs)

-- an image after a record was added
abbrev pub extended : List ℕ → Rec → List ℕ
extended im r = tabled (length im / 512) (records_in im ++ r ∷ [])

-- an image after the record at a place was removed
abbrev pub reduced : List ℕ → ℕ → List ℕ
reduced im place = tabled (length im / 512) (remove (records_in im) place)

-- slots after the gap at a place was closed: those up to a count move down by one, and the last of them is free
unfoldable pub closed : List (List ℕ) → ℕ → ℕ → List (List ℕ)
closed ss place count = take (count - 1) (remove ss place) ++ free ∷ drop count ss
