use Rattle.std.proofs.Common.{◌≡◌, ◌*◌, length, take, ap, sym, ◌∙◌, arith, rules}
use Rattle.std.proofs.lemmas.List.{length-set, take_all}
use Rattle.lines.specs.Hex.{digits}
use Rattle.lines.proofs.Written.{digits_ascii, digits_set}
use Rattle.lines.proofs.hex.digits_of.Goals as goal

pub loop-i-init : goal.loop-i-init
unfolding digits
loop-i-init c = search rules

pub loop-i-preserved : goal.loop-i-preserved
loop-i-preserved c = (
  simp length-set (omega arith),
  digits_set c.args.part.now c.loop-i.digits c.loop-i.i _ _ c.loop-i-test.true (omega (arith, c.type_inv.part c.loop-i.i)) (omega arith) c.loop-i.invariant.1 c.digit_of.ensures c.digit_of-in-loop-i.ensures,
)

pub returns-clause-answer : goal.returns-clause-answer
returns-clause-answer c =
    let part = c.args.part.now in
    let is : c.loop-i.i ≡ length part = omega arith in
    ap (λ n. take (2 * n) c.loop-i.digits) (sym is) ∙ c.loop-i.invariant.1 ∙ ap digits (take_all c.loop-i.i part c.loop-i-test.false)

pub returns-clause-ascii : goal.returns-clause-ascii
returns-clause-ascii c = digits_ascii c.args.part.now (λ i. omega (arith, c.type_inv.part i))
