use Rattle.std.proofs.Common.{◌≡◌, true, Some, slice_index_or, ap, sym, subst, refl, ◌∙◌, arith}
use Rattle.credential.specs.Rec.{is_within}
use Rattle.credential.specs.Slot.{holds, put, content_of, record_of}
use Rattle.credential.proofs.Slots.{slot-content}
use Rattle.credential.proofs.Told.{same_read}
use Rattle.image.specs.Cut.{bytes_of}
use Rattle.table.specs.Tables.{records_in}
use Rattle.table.proofs.Kept.{reads}
use Rattle.table.proofs.table.TableStore.read.Goals as goal
use Rattle.table.proofs.table.TableStore.read.Goals.{After-slot}

-- what is read of the slot
slot_content : (c : goal.After-slot) → content_of c.slot.result.now ≡ Some (holds (put (slice_index_or (records_in (bytes_of c.self.inside.image)) c.args.place c.args.into.now)))
slot_content c =
    ap content_of c.slot.ensures.answer
    ∙ reads c.self.inside.image c.self.invariant.opens c.args.place c.args.into.now (omega (arith, c.self.invariant.listed))

slot_read : (c : goal.After-slot) → record_of (content_of c.slot.result.now) ≡ Some (slice_index_or (records_in (bytes_of c.self.inside.image)) c.args.place c.args.into.now)
slot_read c = ap record_of (slot_content c)

pub unwrap-requires : goal.unwrap-requires
unwrap-requires c = rw (c.from_slot.ensures.answer ∙ slot_read (goal.at.unwrap-requires c).After-slot) refl

pub returns-clause-found : goal.returns-clause-found
returns-clause-found c = rw (← c.self.view_is) (same_read _ _ _ (sym c.unwrap.ensures) (c.from_slot.ensures.answer ∙ slot_read (goal.at.returns-clause-found c).After-slot))

pub returns-clause-within : goal.returns-clause-within
returns-clause-within c =
    let s = (goal.at.returns-clause-within c).After-slot in
    let same = same_read _ _ _ (sym c.unwrap.ensures) (c.from_slot.ensures.answer ∙ slot_read s) in
    subst (λ r. is_within r ≡ true) (sym same) (slot-content _ _ (slot_content s)).0
