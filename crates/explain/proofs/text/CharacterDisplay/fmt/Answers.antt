use Rattle.std.proofs.Common.{◌≡◌, false, [], ◌∷◌, ◌++◌, Some, codes, sym, refl, ◌∙◌, subst, arith}
use Rattle.std.specs.Fmt.{DisplaysOnOk, ◌++?◌}
use Rattle.std.proofs.Output.{has_written_of_eq}
use Rattle.lines.specs.Hex.{encoded}
use Rattle.lines.proofs.Written.{byte_written}
use Rattle.explain.specs.Shown.{is_plain, character}
use Rattle.explain.proofs.text.CharacterDisplay.fmt.Goals as goal

pub returns-else-is_plain-clause-writes : goal.returns-else-is_plain-clause-writes
returns-else-is_plain-clause-writes g c = λ plain ok.
    let byte = c.args.self.now.0 in
    let text = byte_written c.in_radix.result c.laid_out.result byte (omega arith) c.in_radix.ensures c.laid_out.ensures in
    let wrote = subst (λ o. DisplaysOnOk g.W.Write.write_str_gives c.args.f.now c.write-else-is_plain.result (Some (codes "\\x") ++? o) c.write-else-is_plain.new.self) text
    c.write-else-is_plain.ensures.writes in
    let shown : codes "\\x" ++ encoded (byte ∷ []) ≡ character byte = (let no : is_plain byte ≡ false = sym c.is_plain.ensures ∙ c.if-is_plain.false in rw no refl) in
    has_written_of_eq _ _ _ _ _ shown (wrote plain ok)
