-- What opening means: exactly the images of entries that keep the rules are accepted, and a bad slot is the first.
use Rattle.std.specs.Prelude.{◌≡◌, ℕ, suc, ◌-◌, ◌*◌, ◌/◌, ◌<◌, ◌≤◌, true, List, [], ◌∷◌, ◌++◌, length, take, replicate, is_ok, Ok, Err}
use Rattle.std.specs.List.{remove, flat_map}
use Rattle.credential.specs.Rec.{Rec, is_within}
use Rattle.credential.specs.Slot.{Entry, put, gone, free, written}
use Rattle.image.specs.declared.kind.Kind.{Kind}
use Rattle.image.specs.declared.kind.Kind.TheVariants.{Log}
use Rattle.image.specs.declared.opening.Refusal.TheVariants.{Slot}
use Rattle.image.specs.Cut.{slots_of, whole}
use Rattle.image.specs.Kinds.{fewest, room}
use Rattle.image.specs.Opening.{opened}
use Rattle.image.specs.Replay.{replay}

-- the image of so many slots with these entries in front, and free slots behind them
unfoldable pub imaged : ℕ → List Entry → List ℕ
imaged slots es = flat_map written es ++ replicate (512 * (slots - length es)) 0

-- entries lead from one list of records to another: a record comes to the end where there is room, and in a log a listed record goes
pub data Leads (kind : Kind) (capacity : ℕ) : List Rec → List Entry → List Rec → Type 0 where
  done : {rs : List Rec} → Leads kind capacity rs [] rs
  came : {rs end : List Rec} {r : Rec} {es : List Entry} → length rs < capacity → is_within r ≡ true → Leads kind capacity (rs ++ r ∷ []) es end → Leads kind capacity rs (put r ∷ es) end
  went : {rs end : List Rec} {place : ℕ} {es : List Entry} → kind ≡ Log → place < length rs → Leads kind capacity (remove rs place) es end → Leads kind capacity rs (gone place ∷ es) end

-- so many slots of a kind can hold these entries, which list these records
pub record Holds (kind : Kind) (slots : ℕ) (es : List Entry) (rs : List Rec) : Type 0 where
  pub enough : fewest kind ≤ slots
  pub few : slots ≤ 64
  pub fit : length es ≤ slots
  pub leads : Leads kind (room kind slots) [] es rs

-- an image is accepted exactly where it is that of entries that keep the rules, and then for those
pub record Exactly (kind : Kind) (im : List ℕ) : Type 0 where
  pub sound : (es : List Entry) → opened kind im ≡ Ok es → Holds kind (length im / 512) es (replay [] es) × (im ≡ imaged (length im / 512) es)
  pub complete : (slots : ℕ) (es : List Entry) (rs : List Rec) → Holds kind slots es rs → im ≡ imaged slots es → (opened kind im ≡ Ok es) × (rs ≡ replay [] es)

-- a bad slot is the first that breaks a rule: the slots before it are accepted with free ones behind them, and whatever follows it, the image is refused there
pub record First (kind : Kind) (im : List ℕ) : Type 0 where
  pub before : (k : ℕ) → opened kind im ≡ Err (Slot k) → is_ok (opened kind (whole (take k (slots_of im) ++ replicate (length im / 512 - k) free))) ≡ true
  pub at : (k : ℕ) → opened kind im ≡ Err (Slot k) → (other : List ℕ) → length other ≡ length im → take (suc k) (slots_of other) ≡ take (suc k) (slots_of im) → opened kind other ≡ Err (Slot k)
