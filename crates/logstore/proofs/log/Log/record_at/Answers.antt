use Rattle.std.proofs.Common.{◌≡◌, ◌<◌, true, [], Some, length, slice_index_or, ap, sym, subst, ◌∙◌, refl, arith}
use Rattle.credential.specs.Rec.{Rec, blank, is_within}
use Rattle.credential.specs.Slot.{holds, put, content_of, record_of}
use Rattle.credential.proofs.Slots.{slot-content}
use Rattle.credential.proofs.Told.{same_read}
use Rattle.image.specs.Cut.{bytes_of, cells}
use Rattle.logstore.specs.Log.{records_in}
use Rattle.logstore.specs.Places.{places_from}
use Rattle.logstore.proofs.Standing.{record_in_lem, length_listed}
use Rattle.logstore.proofs.log.Log.record_at.Goals as goal
use Rattle.logstore.proofs.log.Log.record_at.Goals.{After-as_slice, After-slot}

are : (c : goal.After-as_slice) → c.as_slice.result.now ≡ places_from 0 [] (cells c.self.inside.image)
are c = c.as_slice.ensures.value ∙ c.places-places.ensures

there : (c : goal.After-as_slice) → c.args.place < length (records_in (bytes_of c.self.inside.image))
there c = rw (← c.self.view_is) at c.requires

below : (c : goal.After-as_slice) → c.args.place < length c.as_slice.result.now
below c = omega (arith, there c, length_listed c.self.inside.image c.as_slice.result.now c.self.invariant.opens (are c))

-- what is read of the slot
slot_content : (c : goal.After-slot) (d : Rec) → content_of c.slot.result.now ≡ Some (holds (put (slice_index_or (records_in (bytes_of c.self.inside.image)) c.args.place d)))
slot_content c d =
    let e = (goal.at.After-slot c).After-as_slice in
    record_in_lem c.self.inside.image c.as_slice.result.now c.slot.result.now c.args.place _ d c.self.invariant.opens (are e) (there e) refl c.slot.ensures.answer

slot_read : (c : goal.After-slot) (d : Rec) → record_of (content_of c.slot.result.now) ≡ Some (slice_index_or (records_in (bytes_of c.self.inside.image)) c.args.place d)
slot_read c d = ap record_of (slot_content c d)

pub offset_bounds-as_slice-place : goal.offset_bounds-as_slice-place
offset_bounds-as_slice-place c = omega (arith, below c, c.as_slice.ensures.fits)

pub bounds-as_slice-place : goal.bounds-as_slice-place
bounds-as_slice-place c = below (goal.at.bounds-as_slice-place c).After-as_slice

pub unwrap-requires : goal.unwrap-requires
unwrap-requires c = rw (c.from_slot.ensures.answer ∙ slot_read (goal.at.unwrap-requires c).After-slot blank) refl

pub returns-clause-answer : goal.returns-clause-answer
returns-clause-answer c d = rw (← c.self.view_is) (same_read _ _ _ (sym c.unwrap.ensures) (c.from_slot.ensures.answer ∙ slot_read (goal.at.returns-clause-answer c).After-slot d))

pub returns-clause-within : goal.returns-clause-within
returns-clause-within c =
    let s = (goal.at.returns-clause-within c).After-slot in
    let same = same_read _ _ _ (sym c.unwrap.ensures) (c.from_slot.ensures.answer ∙ slot_read s blank) in
    subst (λ r. is_within r ≡ true) (sym same) (slot-content _ _ (slot_content s blank)).0
