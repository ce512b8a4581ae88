use Rattle.std.proofs.Common.{◌≡◌, ℕ, ◌<◌, get_or, Some, string_bytes, ap, ◌∙◌, arith}
use Rattle.std.proofs.lemmas.Result.{IfOk-weaker}
use Rattle.lines.specs.Hex.{encoded, decoded}
use Rattle.lines.proofs.Spelling.{back}
use Rattle.lines.proofs.hex.encode.Goals as goal

pub returns-clause-back : goal.returns-clause-back
returns-clause-back c =
    let bytes = c.args.bytes.now in
    let small : (i : ℕ) → get_or bytes i 0 < 256 = λ i. omega (arith, c.type_inv.bytes i) in
    IfOk-weaker c.to_string.result (λ s. string_bytes s ≡ encoded bytes) (λ s. decoded (string_bytes s) ≡ Some bytes) (λ s e. ap decoded e ∙ back bytes small) c.to_string.ensures.ok
