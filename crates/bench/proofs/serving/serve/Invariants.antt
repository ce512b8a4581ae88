use Rattle.std.proofs.Common.{◌≡◌, List, length}
use Rattle.bench.specs.Served.{Turn, Taken}
use Rattle.bench.proofs.serving.serve.Given as goal

abbrev pub invariant-loop-turn : goal.invariant-loop-turn
invariant-loop-turn g l =
    (turns : List Turn)
    × Taken g.B.Bench.answers l.initial.bench l.bench (g.R.Read.remaining l.initial.input) (g.R.Read.remaining l.input) (g.W.Write.contents l.initial.output) (g.W.Write.contents l.output) turns
    × (length turns ≡ l._turn)
