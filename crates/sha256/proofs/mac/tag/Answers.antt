use Rattle.std.proofs.Common.{take, ap, ◌∙◌}
use Rattle.sha256.specs.Hmac.{tag}
use Rattle.sha256.proofs.mac.tag.Goals as goal

pub returns-clause-answer : goal.returns-clause-answer
unfolding tag
returns-clause-answer c = (rw c.unwrap.ensures at c.first_chunk.ensures.cases).same ∙ ap (take 16) c.in_ok-whole.ensures.answer
