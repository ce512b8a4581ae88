use Rattle.std.proofs.Common.{arith}
use Rattle.image.proofs.Cells.{slots_are, slots_filled}
use Rattle.image.proofs.image.Image.clear_from.Goals as goal

pub returns-then-k-len-clause-written : goal.returns-then-k-len-clause-written
returns-then-k-len-clause-written c =
    let v = c.self.inside.bytes in
    let n = slots_are c.self.inside.bytes _ _ c.self.view_is c.len.ensures.answer in
    rw (← c.self.view_is) (slots_filled v _ _ c.args.k c.deref_mut.ensures.value (c.fill.ensures.after (λ y e. e)) (omega arith) c.self.invariant.whole)
