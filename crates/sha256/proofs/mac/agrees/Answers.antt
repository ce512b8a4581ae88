use Rattle.std.proofs.Common.{ap, ◌∙◌}
use Rattle.std.specs.Str.{bytes_eq}
use Rattle.sha256.specs.Hmac.{agreed}
use Rattle.sha256.proofs.mac.agrees.Goals as goal

pub returns-clause-answer : goal.returns-clause-answer
unfolding agreed
returns-clause-answer c = c.same.ensures.answer ∙ ap (λ t. bytes_eq t c.args.given.now) c.in_ok-expected.ensures.answer
