-- A log of what came and went: the image after each call.
use Rattle.std.specs.Prelude.{◌≡◌, ℕ, ◌/◌, Bool, true, cond, List, [], ◌∷◌, ◌++◌, map, length, is_ok, nat_lt}
use Rattle.credential.specs.Rec.{Rec}
use Rattle.credential.specs.Slot.{Entry, put, gone}
use Rattle.image.specs.declared.kind.Kind.{Kind}
use Rattle.image.specs.declared.kind.Kind.TheVariants.{Log}
use Rattle.image.specs.Laws.{imaged}
use Rattle.image.specs.Opening.{opened, entries_of, records_of}
use Rattle.image.specs.Replay.{replay}

-- the kind of a log
abbrev pub kind : Kind
kind = Log

-- an image is that of a log
abbrev pub is_log : List ℕ → Bool
is_log im = is_ok (opened Log im)

-- the entries of a log
abbrev pub entries_in : List ℕ → List Entry
entries_in im = entries_of Log im

-- the records that a log lists
abbrev pub records_in : List ℕ → List Rec
records_in im = records_of Log im

-- the image is that of a log with so many used slots, which list so many records
pub record IsLogOf (im : List ℕ) (used count : ℕ) : Type 0 where
  pub opens : is_log im ≡ true
  pub filled : length (entries_in im) ≡ used
  pub listed : length (records_in im) ≡ count

-- the entries once a slot is free: compacted to the listed records where none is
unfoldable pub spared : ℕ → List Entry → List Entry
spared slots es = cond (nat_lt (length es) slots) es (map put (replay [] es))

-- the image after one more entry
unfoldable pub logged : List ℕ → Entry → List ℕ
logged im e = imaged (length im / 512) (spared (length im / 512) (entries_in im) ++ e ∷ [])

-- the image after a record was added
abbrev pub extended : List ℕ → Rec → List ℕ
extended im r = logged im (put r)

-- the image after the record at a place was removed
abbrev pub reduced : List ℕ → ℕ → List ℕ
reduced im place = logged im (gone place)
