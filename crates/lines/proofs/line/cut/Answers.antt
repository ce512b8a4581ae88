use Rattle.std.proofs.Common.{◌+◌, ◌∷◌, take, sym, ap, ◌∙◌}
use Rattle.std.proofs.lemmas.List.{take_rest}
use Rattle.lines.specs.Line.{words}
use Rattle.lines.proofs.Cuts.{words_at, words_one}
use Rattle.lines.proofs.line.cut.Goals as goal

pub returns-in-Some : goal.returns-in-Some
returns-in-Some c =
    let line = c.args.line.now in
    let i = c.in-Some.space in
    record {
      whole = words_at line i (sym c.first_space.ensures ∙ c.in-Some.is) ∙ ap (λ rest. take i line ∷ words rest) (sym (take_rest line (i + 1)));
    }

pub returns-in-None : goal.returns-in-None
returns-in-None c = record { whole = words_one _ (sym c.first_space.ensures ∙ c.in-None.is) }
