use Rattle.keybench_stores.specs.Replied.{help_lines}
use Rattle.keybench_stores.proofs.answering.carry_out.Goals as goal

pub returns-in_ok-carry_out-in-Plain-clause-text : goal.returns-in_ok-carry_out-in-Plain-clause-text
unfolding help_lines
returns-in_ok-carry_out-in-Plain-clause-text c = rw c.in-Plain.is c.in_ok-carry_out-in-Plain.ensures.text
