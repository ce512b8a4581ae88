use Rattle.std.proofs.Common.{◌∙◌, arith}
use Rattle.image.proofs.Cells.{moved_one}
use Rattle.image.proofs.image.Image.copy.Goals as goal

pub returns-then-from-len-clause-written : goal.returns-then-from-len-clause-written
returns-then-from-len-clause-written c =
    c.copy_within.ensures.written ∙ moved_one _ c.args.from c.args.to (omega (arith, c.len.ensures.answer))
