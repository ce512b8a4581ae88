-- Opening an image: the entries of its used slots, or the first rule that it breaks.
use Rattle.std.specs.Prelude.{ℕ, suc, ◌+◌, ◌-◌, ◌/◌, Bool, false, cond, List, [], ◌∷◌, length, Some, None, Ok, Err, Option, Result, nat_lt}
use Rattle.std.specs.Str.{bytes_eq}
use Rattle.credential.specs.Rec.{Rec}
use Rattle.credential.specs.Slot.{Entry, put, gone, Content, empty, holds, free, content_of}
use Rattle.image.specs.declared.kind.Kind.{Kind}
use Rattle.image.specs.declared.kind.Kind.TheVariants.{Table, Log}
use Rattle.image.specs.declared.opening.Refusal.{Refusal}
use Rattle.image.specs.declared.opening.Refusal.TheVariants.{Size, Slot}
use Rattle.image.specs.Cut.{slots_of}
use Rattle.image.specs.Kinds.{room, fits}
use Rattle.image.specs.Replay.{replay}

-- an entry may stand where so many records are listed: a record if there is room, a withdrawal in a log if it names one of them
abbrev pub is_allowed : Kind → ℕ → ℕ → Entry → Bool
is_allowed kind capacity count (put r) = nat_lt count capacity
is_allowed Table capacity count (gone place) = false
is_allowed Log capacity count (gone place) = nat_lt place count

-- how many records are listed after an entry
abbrev pub counted : ℕ → Entry → ℕ
counted count (put r) = count + 1
counted count (gone place) = count - 1

-- an entry in front of those that follow
abbrev pub before : Entry → Result (List Entry) ℕ → Result (List Entry) ℕ
before e (Ok es) = Ok (e ∷ es)
before e (Err bad) = Err bad

-- by what a slot holds: a slot that cannot be read is bad, behind a free one only free ones may follow, and an entry leads on
abbrev pub by_slot : Option Content → Result (List Entry) ℕ → Result (List Entry) ℕ → (Entry → Result (List Entry) ℕ) → Result (List Entry) ℕ
by_slot None bad behind used = bad
by_slot (Some empty) bad behind used = behind
by_slot (Some (holds e)) bad behind used = used e

-- the slots from number k on are free, or the number of the first that is not
unfoldable pub unused : ℕ → List (List ℕ) → Result (List Entry) ℕ
unused k [] = Ok []
unused k (s ∷ ss) = cond (bytes_eq s free) (unused (suc k) ss) (Err k)

-- the entries of the slots from number k on, where count records are listed before them, or the number of the first slot that breaks a rule
unfoldable pub entries : Kind → ℕ → ℕ → ℕ → List (List ℕ) → Result (List Entry) ℕ
entries kind capacity k count [] = Ok []
entries kind capacity k count (s ∷ ss) =
    by_slot (content_of s) (Err k) (unused (suc k) ss)
    (λ e. cond (is_allowed kind capacity count e) (before e (entries kind capacity (suc k) (counted count e) ss)) (Err k))

-- the number of a bad slot as a refusal
abbrev pub at_slot : Result (List Entry) ℕ → Result (List Entry) Refusal
at_slot (Ok es) = Ok es
at_slot (Err k) = Err (Slot k)

-- the entries of an image of a kind, or why it is refused
unfoldable pub opened : Kind → List ℕ → Result (List Entry) Refusal
opened kind im =
    cond (fits kind im) (at_slot (entries kind (room kind (length im / 512)) 0 0 (slots_of im))) (Err Size)

-- the entries of an image, none where it is refused
abbrev pub or_none : Result (List Entry) Refusal → List Entry
or_none (Ok es) = es
or_none (Err why) = []

-- the entries of an image of a kind
abbrev pub entries_of : Kind → List ℕ → List Entry
entries_of kind im = or_none (opened kind im)

-- the records that an image lists
abbrev pub records_of : Kind → List ℕ → List Rec
records_of kind im = replay [] (entries_of kind im)

-- entries by the records that they list
abbrev pub listed : Result (List Entry) Refusal → Result (List Rec) Refusal
listed (Ok es) = Ok (replay [] es)
listed (Err why) = Err why

-- the records of an image of a kind, or why it is refused
abbrev pub listing : Kind → List ℕ → Result (List Rec) Refusal
listing kind im = listed (opened kind im)

-- how many slots are used, and how many records they list
abbrev pub counts : {Bad : Type 0} → Result (List Entry) Bad → Result (ℕ × ℕ) Bad
counts (Ok es) = Ok (length es, length (replay [] es))
counts (Err bad) = Err bad

-- the status number of a refusal
abbrev pub code : Refusal → ℕ
code Size = 0xf2
code (Slot k) = 0xf3

-- the place of a refusal: the number of the bad slot
abbrev pub place_of : Refusal → ℕ
place_of Size = 0
place_of (Slot k) = k
