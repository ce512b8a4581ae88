-- The store that is open, and what the steps make of it.
use Rattle.std.specs.Prelude.{ℕ, ◌*◌, Bool, if◌then◌else◌, ◌&&◌, List, length, replicate, Some, None, Ok, Err, Option, Result, Vec, vec_items, nat_lt}
use Rattle.std.specs.declared.alloc.Global.{Global}
use Rattle.credential.specs.Rec.{Rec, is_within}
use Rattle.image.specs.declared.kind.Kind.{Kind}
use Rattle.image.specs.declared.kind.Kind.TheVariants.{Table, Log}
use Rattle.image.specs.declared.opening.Refusal.{Refusal}
use Rattle.image.specs.Kinds.{capacity_of}
use Rattle.image.specs.Opening.{listing, records_of}
use Rattle.logstore.specs.Log as log
use Rattle.table.specs.Tables as table
use Rattle.storebench.specs.declared.held.Held.{Held}
use Rattle.storebench.specs.declared.held.Held.TheVariants as held

-- no store is open, or one with its kind and its image
pub data State : Type 0 where
  shut : State
  holding : Kind → List ℕ → State

-- the kind of a store
abbrev pub kind_of : Held → Kind
kind_of (held.Table t) = Table
kind_of (held.Log l) = Log

-- the image of a store
abbrev pub image_of : Held → Vec ℕ Global
image_of (held.Table t) = t
image_of (held.Log l) = l

-- the state of a store
abbrev pub store_of : Held → State
store_of h = holding (kind_of h) (vec_items (image_of h))

-- the state that the code holds
abbrev pub state_of : Option Held → State
state_of None = shut
state_of (Some h) = store_of h

-- one record more can be added
abbrev pub has_room : Kind → List ℕ → Bool
has_room kind im = nat_lt (length (records_of kind im)) (capacity_of kind im)

-- there is a record at a place
abbrev pub has_place : Kind → List ℕ → ℕ → Bool
has_place kind im place = nat_lt place (length (records_of kind im))

-- the image after a record was added
abbrev pub extended : Kind → List ℕ → Rec → List ℕ
extended Table im r = table.extended im r
extended Log im r = log.extended im r

-- the image after the record at a place was removed
abbrev pub reduced : Kind → List ℕ → ℕ → List ℕ
reduced Table im place = table.reduced im place
reduced Log im place = log.reduced im place

-- the image of so many free slots
abbrev pub blank_image : ℕ → List ℕ
blank_image slots = replicate (512 * slots) 0

-- an image that is refused leaves the store that was open
abbrev pub after_listing : Kind → List ℕ → State → Result (List Rec) Refusal → State
after_listing kind im before (Ok rs) = holding kind im
after_listing kind im before (Err why) = before

-- the state after an opening
unfoldable pub after_open : Kind → List ℕ → State → State
after_open kind im before = after_listing kind im before (listing kind im)

-- the state after a record was to be added
unfoldable pub after_add : State → Rec → State
after_add shut r = shut
after_add (holding kind im) r = holding kind (if is_within r && has_room kind im then extended kind im r else im)

-- the state after the record at a place was to be removed
unfoldable pub after_remove : State → ℕ → State
after_remove shut place = shut
after_remove (holding kind im) place = holding kind (if has_place kind im place then reduced kind im place else im)
