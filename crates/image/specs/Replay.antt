-- The records that the entries of an image list.
use Rattle.std.specs.Prelude.{List, [], ◌∷◌, ◌++◌}
use Rattle.std.specs.List.{remove}
use Rattle.credential.specs.Rec.{Rec}
use Rattle.credential.specs.Slot.{Entry, put, gone}

-- the list after one more entry
abbrev pub after : List Rec → Entry → List Rec
after rs (put r) = rs ++ r ∷ []
after rs (gone place) = remove rs place

-- the list after all entries, in order
unfoldable pub replay : List Rec → List Entry → List Rec
replay rs [] = rs
replay rs (e ∷ es) = replay (after rs e) es
