-- Exactly the images of entries that keep the rules are accepted.
use Rattle.std.proofs.Common.{◌≡◌, ℕ, ◌-◌, ◌/◌, Bool, true, false, List, [], length, Ok, Err, Result, sym, refl, ap, ◌∙◌, arith}
use Rattle.credential.specs.Rec.{Rec}
use Rattle.credential.specs.Slot.{Entry}
use Rattle.image.specs.declared.kind.Kind.{Kind}
use Rattle.image.specs.Cut.{slots_of, whole}
use Rattle.image.specs.Kinds.{room, fits}
use Rattle.image.specs.Opening.{entries, at_slot, opened}
use Rattle.image.specs.Replay.{replay}
use Rattle.image.specs.Laws.{imaged, Holds, Exactly}
use Rattle.image.proofs.Cells.{length_cut, whole-cut}
use Rattle.image.proofs.Imaged.{layout, whole-imaged, slots-imaged, length-imaged}
use Rattle.image.proofs.Leading.{never, entries_sound, entries_complete, leads-replay, leads_fit}
use Rattle.image.proofs.Sizes.{sized, fitting, opened_fitting, opened_unfitting}

-- the image of entries that keep the rules is accepted, for those entries
pub opened-imaged : (kind : Kind) (slots : ℕ) (es : List Entry) (rs : List Rec) → Holds kind slots es rs → opened kind (imaged slots es) ≡ Ok es
opened-imaged kind slots es rs h =
    let im = imaged slots es in
    let fit = leads_fit kind (room kind slots) h.leads in
    let long = length-imaged slots es fit h.fit in
    let n : length im / 512 ≡ slots = omega arith in
    opened_fitting kind im (fitting kind im slots long h.enough h.few)
    ∙ ap (λ n. at_slot (entries kind (room kind n) 0 0 (slots_of im))) n
    ∙ ap (λ ss. at_slot (entries kind (room kind slots) 0 0 ss)) (slots-imaged slots es fit)
    ∙ ap at_slot (entries_complete kind (room kind slots) h.leads 0 (slots - length es))

at-slot_ok : (r : Result (List Entry) ℕ) (es : List Entry) → at_slot r ≡ Ok es → r ≡ Ok es
at-slot_ok (Ok fs) es h = cc
at-slot_ok (Err k) es h = never h

Kept : Kind → List ℕ → List Entry → Type 0
Kept kind im es = Holds kind (length im / 512) es (replay [] es) × (im ≡ imaged (length im / 512) es)

kept_at : (kind : Kind) (im : List ℕ) (es : List Entry) (ok : Bool) → fits kind im ≡ ok → opened kind im ≡ Ok es → Kept kind im es
unfolding Kept slots_of
kept_at kind im es false unfit h = never (sym (opened_unfitting kind im unfit) ∙ h)
kept_at kind im es true fit h =
    let n = length im / 512 in
    let size = sized kind im fit in
    let is = at-slot_ok _ es (sym (opened_fitting kind im fit) ∙ h) in
    let all = entries_sound kind (room kind n) 0 (slots_of im) [] es is in
    let long : length (slots_of im) ≡ n = length_cut n im in
    let are : slots_of im ≡ layout n es = all.are ∙ ap (λ n. layout n es) long in
    (record { enough = size.enough; few = size.few; fit = omega (arith, all.fit, long); leads = all.leads }, sym (whole-cut n im size.long) ∙ ap whole are ∙ whole-imaged n es)

-- an accepted image is that of its entries, which keep the rules
pub imaged-opened : (kind : Kind) (im : List ℕ) (es : List Entry) → opened kind im ≡ Ok es → Holds kind (length im / 512) es (replay [] es) × (im ≡ imaged (length im / 512) es)
unfolding Kept
imaged-opened kind im es h = kept_at kind im es (fits kind im) refl h

pub exactly : (kind : Kind) (im : List ℕ) → Exactly kind im
exactly kind im = record {
  sound = λ es h. imaged-opened kind im es h;
  complete = λ slots es rs h is. (ap (opened kind) is ∙ opened-imaged kind slots es rs h, leads-replay kind (room kind slots) h.leads);
}
