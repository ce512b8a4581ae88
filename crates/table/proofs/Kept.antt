-- What the image of a table holds, and when an image is still one.
use Rattle.std.specs.Prelude.{◌≡◌, ℕ, ◌+◌, ◌-◌, ◌/◌, ◌%◌, ◌<◌, ◌≤◌, true, List, [], ◌∷◌, ◌++◌, map, length, get_or, set, is_ok, Some, ◌≢◌, slice_index_or, slice_set}
use Rattle.std.proofs.Common.{sym, ap, ◌∙◌, arith}
use Rattle.std.specs.List.{remove}
use Rattle.std.proofs.lemmas.List.Edits.{length-remove}
use Rattle.std.proofs.ByRecursion.{All-get_or}
use Rattle.std.proofs.lemmas.List.{length-map, length_push, map_push, get_or-map}
use Rattle.credential.specs.Rec.{Rec, is_within}
use Rattle.credential.specs.Slot.{put, holds, slot, written, content_of}
use Rattle.credential.proofs.Slots.{content-written}
use Rattle.image.specs.declared.image.Image.{Image}
use Rattle.image.specs.Cut.{bytes_of, cells}
use Rattle.image.specs.Kinds.{capacity_of}
use Rattle.image.specs.Laws.{Holds}
use Rattle.image.specs.Opening.{entries_of, or_none}
use Rattle.image.specs.Replay.{replay}
use Rattle.image.proofs.Imaged.{layout, layout_more}
use Rattle.image.proofs.Leading.{leads-replay, leads_puts, leads_within}
use Rattle.image.proofs.Led.{Within, leads_table, map_removed, within_push, within_removed}
use Rattle.image.proofs.Stores.{opened_entries, opened_long, opened-cells, cells-opened, bytes_slots, capacity_slots, same_slots}
use Rattle.table.specs.Tables.{kind, is_table, IsTableOf, records_in, tabled, closed}
use Rattle.table.proofs.Fronts.{layout_less, layout_at}

-- what the image of a table holds
pub record Known (im : Image) (rs : List Rec) : Type 0 where
  pub whole : length (bytes_of im) % 512 ≡ 0
  pub enough : 1 ≤ length (cells im)
  pub most : length (cells im) ≤ 64
  pub few : length rs ≤ length (cells im)
  pub within : Within rs
  pub slots : cells im ≡ layout (length (cells im)) (map put rs)

pub known : (im : Image) → is_table (bytes_of im) ≡ true → Known im (records_in (bytes_of im))
known im ok =
    let n = length (cells im) in
    let es = entries_of kind (bytes_of im) in
    let k = opened-cells kind im es (opened_entries kind (bytes_of im) ok) in
    let t = leads_table k.0.leads in
    let same : es ≡ map put (replay [] es) = t.1 ∙ ap (map put) (sym t.2) in
    record {
      whole = opened_long kind (bytes_of im) ok;
      enough = k.0.enough;
      most = k.0.few;
      few = omega (arith, k.0.fit, ap length same, length-map (replay [] es) put);
      within = leads_within kind n k.0.leads tt;
      slots = k.1 ∙ ap (layout n) same;
    }

-- a table is not longer than its slots, they are few, and their number is its capacity
pub record Bounds (im : Image) (count : ℕ) : Type 0 where
  pub few : count ≤ length (cells im)
  pub most : length (cells im) ≤ 64
  pub room : capacity_of kind (bytes_of im) ≡ length (cells im)

pub table_bounds : (im : Image) (count : ℕ) → IsTableOf (bytes_of im) count → Bounds im count
table_bounds im count is =
    let k = known im is.opens in
    record { few = omega (arith, k.few, is.listed); most = k.most; room = capacity_slots kind im }

-- an image whose slots are those of records is that of a table, with those records
pub stays : (im : Image) (rs : List Rec) → Known im rs → (is_table (bytes_of im) ≡ true) × (records_in (bytes_of im) ≡ rs) × (bytes_of im ≡ tabled (length (cells im)) rs)
stays im rs k =
    let n = length (cells im) in
    let leads = leads_puts kind n [] rs (omega (arith, k.few)) k.within in
    let h : Holds kind n (map put rs) rs = record { enough = k.enough; few = k.most; fit = omega (arith, length-map rs put, k.few); leads = leads } in
    let o = cells-opened kind im (map put rs) rs h k.slots k.whole in
    (ap is_ok o.0, ap (λ r. replay [] (or_none r)) o.0 ∙ sym (leads-replay kind n leads), o.1)

-- the same image, known for the same records
pub known_bytes : (im : Image) → is_table (bytes_of im) ≡ true → bytes_of im ≡ tabled (length (bytes_of im) / 512) (records_in (bytes_of im))
known_bytes im ok = (stays im (records_in (bytes_of im)) (known im ok)).2 ∙ ap (λ n. tabled n (records_in (bytes_of im))) (sym (bytes_slots im))

-- what the next image of a table holds
pub record Next (im next : Image) (rs : List Rec) : Type 0 where
  pub opens : is_table (bytes_of next) ≡ true
  pub list : records_in (bytes_of next) ≡ rs
  pub bytes : bytes_of next ≡ tabled (length (bytes_of im) / 512) rs

module _ (im next : Image) (ok : is_table (bytes_of im) ≡ true) (same : length (bytes_of next) ≡ length (bytes_of im)) where
  next-is : (rs : List Rec) → Within rs → length rs ≤ length (cells im) → cells next ≡ layout (length (cells im)) (map put rs) → Next im next rs
  next-is rs within few is =
      let k = known im ok in
      let n = same_slots im next same in
      let s = stays next rs (record {
        whole = ap (λ l. l % 512) same ∙ k.whole;
        enough = omega (arith, k.enough);
        most = omega (arith, k.most);
        few = omega arith;
        within = within;
        slots = is ∙ ap (λ n. layout n (map put rs)) (sym n);
      }) in
      record { opens = s.0; list = s.1; bytes = s.2 ∙ ap (λ n. tabled n rs) (n ∙ sym (bytes_slots im)) }

  -- a record is written behind the last
  pub next-added :
      (r : Rec) → is_within r ≡ true → length (records_in (bytes_of im)) < length (cells im) → cells next ≡ slice_set (cells im) (length (records_in (bytes_of im))) (slot r)
      → Next im next (records_in (bytes_of im) ++ r ∷ [])
  next-added r w lt e =
      let rs = records_in (bytes_of im) in
      let n = length (cells im) in
      let k = known im ok in
      let count = length-map rs put in
      next-is (rs ++ r ∷ []) (within_push rs r k.within w) (omega (arith, length_push rs r))
      (e ∙ ap (λ l. set l (length rs) (slot r)) k.slots ∙ ap (λ i. set (layout n (map put rs)) i (slot r)) (sym count)
      ∙ layout_more n (map put rs) (put r) (omega arith) ∙ ap (layout n) (sym (map_push put rs r)))

  -- the gap of a record is closed
  pub next-removed :
      (place : ℕ) → place < length (records_in (bytes_of im)) → cells next ≡ closed (cells im) place (length (records_in (bytes_of im)))
      → Next im next (remove (records_in (bytes_of im)) place)
  next-removed place lt e =
      let rs = records_in (bytes_of im) in
      let n = length (cells im) in
      let k = known im ok in
      let count = length-map rs put in
      next-is (remove rs place) (within_removed rs place k.within) (omega (arith, length-remove rs place lt, k.few))
      (e ∙ ap (λ l. closed l place (length rs)) k.slots ∙ ap (closed (layout n (map put rs)) place) (sym count)
      ∙ layout_less n (map put rs) place (omega (arith, k.few)) (omega arith) ∙ ap (layout n) (map_removed put rs place))

-- the slot of a listed record is read as that record
pub reads : (im : Image) → is_table (bytes_of im) ≡ true → (place : ℕ) (d : Rec) → place < length (records_in (bytes_of im))
    → content_of (slice_index_or (cells im) place []) ≡ Some (holds (put (slice_index_or (records_in (bytes_of im)) place d)))
reads im ok place d lt =
    let rs = records_in (bytes_of im) in
    let k = known im ok in
    let r = get_or rs place d in
    let count = length-map rs put in
    ap content_of (ap (λ l. get_or l place []) k.slots ∙ layout_at (length (cells im)) (map put rs) place (put d) (omega arith) ∙ ap written (get_or-map put rs place d (put d) lt))
    ∙ content-written (put r) (All-get_or (λ r. is_within r ≡ true) rs place d lt k.within)

module _ (im next : Image) (count : ℕ) (is : IsTableOf (bytes_of im) count) (same : length (bytes_of next) ≡ length (bytes_of im)) where
  -- what `add` leaves
  pub after_add_lem :
      (r : Rec) (s : List ℕ) (n : ℕ) → is_within r ≡ true → n ≡ length (cells im) → count ≢ n → s ≡ slot r → cells next ≡ slice_set (cells im) count s
      → Next im next (records_in (bytes_of im) ++ r ∷ [])
  after_add_lem r s n w many ne e writes =
      let low = (table_bounds im count is).few in
      next-added im next is.opens same r w (omega (arith, is.listed)) (writes ∙ ap (set (cells im) count) e ∙ ap (λ k. set (cells im) k (slot r)) (sym is.listed))

  -- what `remove` leaves
  pub after_remove_lem :
      (place : ℕ) → place < count → cells next ≡ closed (cells im) place count → Next im next (remove (records_in (bytes_of im)) place)
  after_remove_lem place lt closes =
      next-removed im next is.opens same place (omega (arith, is.listed)) (closes ∙ ap (closed (cells im) place) (sym is.listed))

  -- how many records there are then
  pub counted_add : (r : Rec) → Next im next (records_in (bytes_of im) ++ r ∷ []) → IsTableOf (bytes_of next) (count + 1)
  counted_add r s = record { opens = s.opens; listed = ap length s.list ∙ length_push (records_in (bytes_of im)) r ∙ ap (λ k. k + 1) is.listed }

  pub counted-remove : (place : ℕ) → place < count → Next im next (remove (records_in (bytes_of im)) place) → IsTableOf (bytes_of next) (count - 1)
  counted-remove place lt s =
      let rs = records_in (bytes_of im) in
      record { opens = s.opens; listed = ap length s.list ∙ omega (arith, length-remove rs place (omega (arith, is.listed)), is.listed) }
