use Rattle.std.proofs.Common.{sym, ap, ◌∙◌}
use Rattle.bench.specs.Values.{ended}
use Rattle.lines.specs.Line.{words_of}
use Rattle.lines.proofs.Cuts.{words_some}
use Rattle.bench.proofs.values.end.Goals as goal

pub returns-in-Some : goal.returns-in-Some
returns-in-Some c = record { answer = sym (ap (λ r. ended (words_of r)) c.in-Some.is ∙ ap ended (words_some _).2) }
