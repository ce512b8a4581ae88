use Rattle.std.proofs.Common.{sym, ◌∙◌, arith}
use Rattle.image.proofs.Cells.{length_slots, slots_are, moved_is, slots_moved}
use Rattle.image.proofs.image.Image.copy_within.Goals as goal

pub returns-then-to-slots-clause-written : goal.returns-then-to-slots-clause-written
returns-then-to-slots-clause-written c =
    let bs = c.self.inside.bytes.items in
    let range = c.args.from in
    let n = slots_are c.self.inside.bytes _ _ c.self.view_is c.len-slots.ensures.answer in
    rw (← c.self.view_is)
    (slots_moved bs _ range.start range.end c.args.to (omega arith) (omega arith) (omega arith) c.copy_within.ensures.items
    ∙ sym (moved_is _ range.start range.end c.args.to (omega arith) (omega (arith, length_slots bs)) (omega (arith, length_slots bs))))
