-- What a store knows of the image that it holds.
use Rattle.std.proofs.Common.{◌≡◌, ℕ, ◌/◌, ◌%◌, ◌≤◌, Bool, true, false, List, [], length, is_ok, Ok, Err, Result, sym, refl, ap, ◌∙◌, arith}
use Rattle.credential.specs.Rec.{Rec}
use Rattle.credential.specs.Slot.{Entry}
use Rattle.image.specs.declared.image.Image.{Image}
use Rattle.image.specs.declared.kind.Kind.{Kind}
use Rattle.image.specs.declared.opening.Refusal.{Refusal}
use Rattle.image.specs.Cut.{slots_of, whole, bytes_of, cells}
use Rattle.image.specs.Kinds.{room, capacity_of, fits}
use Rattle.image.specs.Opening.{opened, or_none, entries_of, records_of}
use Rattle.image.specs.Replay.{replay}
use Rattle.image.specs.Laws.{imaged, Holds}
use Rattle.image.proofs.Accepted.{opened-imaged, imaged-opened}
use Rattle.image.proofs.Cells.{length_slots, whole_slots}
use Rattle.image.proofs.Imaged.{layout, whole-imaged, slots-imaged}
use Rattle.image.proofs.Sizes.{sized, opened_unfitting}
use Rattle.image.proofs.Leading.{impossible, leads_fit, leads_bound}

opened_size : (kind : Kind) (im : List ℕ) (ok : Bool) → fits kind im ≡ ok → is_ok (opened kind im) ≡ true → length im % 512 ≡ 0
opened_size kind im true fit h = let s = (sized kind im fit).long in omega arith
opened_size kind im false fit h = impossible (sym (ap is_ok (opened_unfitting kind im fit)) ∙ h)

ok_entries : (r : Result (List Entry) Refusal) → is_ok r ≡ true → r ≡ Ok (or_none r)
ok_entries (Ok es) h = refl
ok_entries (Err why) h = impossible h

-- the entries of an accepted image
pub opened_entries : (kind : Kind) (im : List ℕ) → is_ok (opened kind im) ≡ true → opened kind im ≡ Ok (entries_of kind im)
opened_entries kind im h = ok_entries (opened kind im) h

-- an accepted image is that of its entries
pub opened_laid : (kind : Kind) (im : List ℕ) → is_ok (opened kind im) ≡ true → im ≡ imaged (length im / 512) (entries_of kind im)
opened_laid kind im h = (imaged-opened kind im _ (opened_entries kind im h)).1

-- the number of slots of an image
pub bytes_slots : (im : Image) → length (bytes_of im) / 512 ≡ length (cells im)
bytes_slots im = sym (length_slots (bytes_of im))

-- the slots of an accepted image are those of its entries, which keep the rules
pub opened-cells :
    (kind : Kind) (im : Image) (es : List Entry) → opened kind (bytes_of im) ≡ Ok es
    → Holds kind (length (cells im)) es (replay [] es) × (cells im ≡ layout (length (cells im)) es)
opened-cells kind im es h =
    let n = bytes_slots im in
    let kept = imaged-opened kind (bytes_of im) es h in
    let holds : Holds kind (length (cells im)) es (replay [] es) = rw n at kept.0 in
    let fit = leads_fit kind (room kind (length (cells im))) holds.leads in
    (holds, ap slots_of (kept.1 ∙ ap (λ k. imaged k es) n) ∙ slots-imaged (length (cells im)) es fit)

-- an accepted image has whole slots
pub opened_long : (kind : Kind) (im : List ℕ) → is_ok (opened kind im) ≡ true → length im % 512 ≡ 0
opened_long kind im h = opened_size kind im (fits kind im) refl h

-- an image of whole slots, which are those of entries that keep the rules, is accepted for those entries
pub cells-opened :
    (kind : Kind) (im : Image) (es : List Entry) (rs : List Rec) → Holds kind (length (cells im)) es rs → cells im ≡ layout (length (cells im)) es → length (bytes_of im) % 512 ≡ 0
    → (opened kind (bytes_of im) ≡ Ok es) × (bytes_of im ≡ imaged (length (cells im)) es)
cells-opened kind im es rs holds are long =
    let is : bytes_of im ≡ imaged (length (cells im)) es = sym (whole_slots (bytes_of im) long) ∙ ap whole are ∙ whole-imaged (length (cells im)) es in
    (ap (opened kind) is ∙ opened-imaged kind (length (cells im)) es rs holds, is)

none_listed : (r : Result (List Entry) Refusal) → is_ok r ≡ false → length (replay [] (or_none r)) ≡ 0
unfolding replay
none_listed (Ok es) h = impossible (sym h)
none_listed (Err why) h = refl

bounded_at : (kind : Kind) (im : List ℕ) (ok : Bool) → is_ok (opened kind im) ≡ ok → length (records_of kind im) ≤ capacity_of kind im
bounded_at kind im true h = leads_bound kind _ (imaged-opened kind im _ (opened_entries kind im h)).0.leads (omega arith)
bounded_at kind im false h = omega (arith, none_listed (opened kind im) h)

-- an image never lists more records than its capacity
pub bounded : (kind : Kind) (im : List ℕ) → length (records_of kind im) ≤ capacity_of kind im
bounded kind im = bounded_at kind im (is_ok (opened kind im)) refl

-- the capacity by the number of slots
pub capacity_slots : (kind : Kind) (im : Image) → capacity_of kind (bytes_of im) ≡ room kind (length (cells im))
capacity_slots kind im = ap (room kind) (bytes_slots im)

-- as many bytes, as many slots
pub same_slots : (im next : Image) → length (bytes_of next) ≡ length (bytes_of im) → length (cells next) ≡ length (cells im)
same_slots im next same = sym (bytes_slots next) ∙ ap (λ n. n / 512) same ∙ bytes_slots im
