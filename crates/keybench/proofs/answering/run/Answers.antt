use Rattle.std.proofs.Common.{string_bytes, sym, subst}
use Rattle.keybench.specs.Replied.{help_lines, Due}
use Rattle.keybench.proofs.answering.run.Goals as goal

pub returns : goal.returns
unfolding help_lines
returns c =
    record { text = subst (λ due. Due due (string_bytes c.in_ok-carry_out.field-0)) (sym c.in_ok-step.ensures.answer) c.in_ok-carry_out.ensures.text }
