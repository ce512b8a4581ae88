use Rattle.std.proofs.Common.{length, refl, ap, sym, ◌∙◌, arith}
use Rattle.credential.specs.Slot.{header, slot}
use Rattle.credential.specs.Model.{model}
use Rattle.credential.proofs.Laid.{filled_none, filled_more, filled_field, laid}
use Rattle.credential.proofs.Slots.{limits}
use Rattle.credential.proofs.record.Record.to_slot.Goals as goal

pub returns-clause-answer : goal.returns-clause-answer
returns-clause-answer c =
    let r = model c.self.inside in
    let l = limits r c.self.invariant in
    let top = c.header.ensures ∙ ap header (sym c.self.view_is) in
    let a = filled_more 16 16 (header r) filled_none top (omega (arith, ap length top)) refl (omega arith) c.put.ensures in
    let b = filled_field 128 144 r.rp_id a c.padded.ensures l.rp refl (omega arith) c.put-2.ensures in
    let d = filled_field 64 208 r.user_id b c.padded-2.ensures l.user refl (omega arith) c.put-3.ensures in
    let e = filled_field 64 272 r.name d c.padded-3.ensures l.called refl (omega arith) c.put-4.ensures in
    let f = filled_field 64 336 r.display_name e c.padded-4.ensures l.shown refl (omega arith) c.put-5.ensures in
    let g = filled_more 32 368 r.credential_id f refl (omega (arith, l.id)) refl (omega arith) c.put-6.ensures in
    let h = filled_more 32 400 r.x g refl (omega (arith, l.x)) refl (omega arith) c.put-7.ensures in
    let i = filled_more 32 432 r.y h refl (omega (arith, l.y)) refl (omega arith) c.put-8.ensures in
    laid r c.put-8.new.into l.id l.x l.y i ∙ ap slot c.self.view_is
