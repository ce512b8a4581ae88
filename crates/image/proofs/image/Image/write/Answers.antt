use Rattle.std.proofs.Common.{arith}
use Rattle.image.proofs.Cells.{slots_are, slots_written}
use Rattle.image.proofs.image.Image.write.Goals as goal

pub returns-then-k-len-clause-written : goal.returns-then-k-len-clause-written
returns-then-k-len-clause-written c =
    let v = c.self.inside.bytes in
    let n = slots_are c.self.inside.bytes _ _ c.self.view_is c.len.ensures.answer in
    rw (← c.self.view_is) (slots_written v _ _ c.args.slot.now c.args.k c.deref_mut.ensures.value c.copy_from_slice.ensures.after (omega arith) (omega arith))
