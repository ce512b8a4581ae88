use Rattle.std.proofs.Common.{arith}
use Rattle.image.proofs.Cells.{slots_are, slot_part}
use Rattle.image.proofs.image.Image.slot.Goals as goal

pub returns : goal.returns
returns c =
    let bs = c.self.inside.bytes.items in
    let is = c.deref.ensures.value in
    let n = slots_are c.self.inside.bytes _ _ c.self.view_is c.len.ensures.answer in
    record { answer = rw (is, ← c.self.view_is) (slot_part bs c.args.k (omega arith)) }
