-- A slot of 512 bytes: free, the writing of a record, or a withdrawal.
use Rattle.std.specs.Prelude.{◌≡◌, ℕ, ◌-◌, true, if◌then◌else◌, ◌&&◌, List, ◌∷◌, ◌++◌, length, take, drop, replicate, Some, None, Option, slice_index}
use Rattle.std.specs.Str.{bytes_eq}
use Rattle.credential.specs.Rec.{Rec, is_within}

-- what a used slot says: a record comes to the end of the list, or the record at a place of the list goes
pub data Entry : Type 0 where
  put : Rec → Entry
  gone : ℕ → Entry

-- what a slot holds
pub data Content : Type 0 where
  empty : Content
  holds : Entry → Content

-- a field of a fixed size: its bytes, and zeros behind them
abbrev pub field : ℕ → List ℕ → List ℕ
field size bs = bs ++ replicate (size - length bs) 0

-- the first 16 bytes of a record's slot: mark 1, credProtect, the four lengths, zeros
abbrev pub header : Rec → List ℕ
header r =
    1 ∷ r.cred_protect ∷ length r.rp_id ∷ length r.user_id ∷ length r.name ∷ length r.display_name ∷ replicate 10 0

-- the slot of a record: the header, then from 16, 144, 208 and 272 on the texts, from 336, 368 and 400 on the credential ID, x and y
unfoldable pub slot : Rec → List ℕ
slot r =
    header r ++ (field 128 r.rp_id ++ (field 64 r.user_id ++ (field 64 r.name ++ (field 64 r.display_name ++
    (r.credential_id ++ (r.x ++ (r.y ++ replicate 80 0)))))))

-- the slot of a withdrawal: mark 2, and the place at 6
unfoldable pub withdrawal : ℕ → List ℕ
withdrawal place = 2 ∷ replicate 5 0 ++ place ∷ replicate 505 0

-- a free slot
unfoldable pub free : List ℕ
free = replicate 512 0

-- the slot of an entry
abbrev pub written : Entry → List ℕ
written (put r) = slot r
written (gone place) = withdrawal place

-- the slot of what it holds
abbrev pub slot_of : Content → List ℕ
slot_of empty = free
slot_of (holds e) = written e

-- what a slot holds is within its limits
abbrev pub Fit : Content → Type 0
Fit empty = Unit {0}
Fit (holds (put r)) = is_within r ≡ true
Fit (holds (gone place)) = Unit {0}

-- so many bytes from an offset on
abbrev pub piece : ℕ → ℕ → List ℕ → List ℕ
piece at size bs = take size (drop at bs)

-- the fields that lie in a slot
unfoldable pub fields_in : List ℕ → Rec
fields_in bs = record {
  rp_id = piece 16 (slice_index bs 2) bs;
  user_id = piece 144 (slice_index bs 3) bs;
  name = piece 208 (slice_index bs 4) bs;
  display_name = piece 272 (slice_index bs 5) bs;
  credential_id = piece 336 32 bs;
  x = piece 368 32 bs;
  y = piece 400 32 bs;
  cred_protect = slice_index bs 1;
}

-- a record, if it is within its limits and the bytes are its slot
unfoldable pub record_in : List ℕ → Rec → Option Content
record_in bs r = if is_within r && bytes_eq bs (slot r) then Some (holds (put r)) else None

-- what a slot holds; nothing can be read of bytes that are no slot
unfoldable pub content_of : List ℕ → Option Content
content_of bs =
    if bytes_eq bs free then Some empty
    else (if bytes_eq bs (withdrawal (slice_index bs 6)) then Some (holds (gone (slice_index bs 6)))
    else record_in bs (fields_in bs))

-- the record that a slot holds, if it holds one
abbrev pub record_of : Option Content → Option Rec
record_of None = None
record_of (Some empty) = None
record_of (Some (holds (put r))) = Some r
record_of (Some (holds (gone place))) = None

-- bytes are read exactly where they are the slot of something within its limits, and then as that
pub record Exactly (bs : List ℕ) : Type 0 where
  pub sound : (c : Content) → content_of bs ≡ Some c → Fit c × (bs ≡ slot_of c)
  pub complete : (c : Content) → Fit c → bs ≡ slot_of c → content_of bs ≡ Some c
