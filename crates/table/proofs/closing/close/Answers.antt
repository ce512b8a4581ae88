use Rattle.std.proofs.Common.{◌+◌, ◌-◌, set, ap, ◌∙◌, arith}
use Rattle.credential.specs.Slot.{free}
use Rattle.image.specs.Cut.{cells}
use Rattle.image.proofs.Cells.{moved_is}
use Rattle.table.proofs.Gaps.{moved_cleared}
use Rattle.table.proofs.closing.close.Goals as goal

pub returns-clause-slots : goal.returns-clause-slots
returns-clause-slots c =
    let ss = cells c.args.image.now in
    let place = c.args.place in
    let count = c.args.count in
    c.clear.ensures.written
    ∙ ap (λ l. set l (count - 1) free) (c.copy_within.ensures.written ∙ moved_is ss (place + 1) count place (omega arith) (omega arith) (omega arith))
    ∙ moved_cleared ss place count (omega arith) (omega arith)
