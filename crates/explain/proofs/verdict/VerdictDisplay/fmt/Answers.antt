use Rattle.std.proofs.Common.{◌≡◌, [], ◌∷◌, ◌++◌, Some, codes, decimal, refl, subst, arith}
use Rattle.std.specs.Fmt.{DisplaysOnOk, ◌++?◌}
use Rattle.std.proofs.Output.{has_written_of_eq}
use Rattle.lines.specs.Hex.{encoded}
use Rattle.lines.proofs.Written.{byte_written}
use Rattle.explain.specs.Judged.{verdict_line}
use Rattle.explain.proofs.verdict.VerdictDisplay.fmt.Goals as goal

pub returns-clause-writes : goal.returns-clause-writes
returns-clause-writes g c = λ plain ok.
    let status = c.status-status.result in
    let place = c.place-place.result in
    let text = byte_written c.in_radix.result c.laid_out.result status (omega arith) c.in_radix.ensures c.laid_out.ensures in
    let wrote = subst (λ o. DisplaysOnOk g.W.Write.write_str_gives c.args.f.now c.writeln.result (Some (codes "read: 0x") ++? (o ++? Some (codes " place " ++ (decimal place ++ codes "\n")))) c.writeln.new.self) text
    c.writeln.ensures.writes in
    let shown : codes "read: 0x" ++ (encoded (status ∷ []) ++ (codes " place " ++ (decimal place ++ codes "\n"))) ≡ verdict_line c.args.self.now.0
    = rw (c.status-status.ensures.answer, c.place-place.ensures.answer) refl in
    has_written_of_eq _ _ _ _ _ shown (wrote plain ok)
