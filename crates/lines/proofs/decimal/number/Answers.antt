use Rattle.std.proofs.Common.{◌≡◌, ◌+◌, ◌-◌, ◌*◌, get_or, drop, ap, sym, refl, ◌∙◌, arith}
use Rattle.std.proofs.lemmas.Bool.{eqb-true, eqb-false}
use Rattle.lines.specs.Decimal.{follows}
use Rattle.lines.proofs.Digits.{digit_more, digit_none, digit_over, digit_all, numbered_some, numbered_none}
use Rattle.lines.proofs.decimal.number.Goals as goal

pub returns-then-is_empty : goal.returns-then-is_empty
returns-then-is_empty c =
    record { answer = sym (numbered_none _ _ (eqb-true _ 0 (sym c.is_empty.ensures ∙ c.if-is_empty.true))); within = tt }

pub loop-c-init : goal.loop-c-init
loop-c-init c =
    let some = eqb-false _ 0 (sym c.is_empty.ensures ∙ c.if-is_empty.false) in
    (numbered_some _ _ (omega (arith, some)), omega arith)

pub returns-then-not-is_ascii_digit-clause-answer : goal.returns-then-not-is_ascii_digit-clause-answer
returns-then-not-is_ascii_digit-clause-answer c =
    sym (digit_none _ _ _ _ c.loop-c-test.true (sym c.is_ascii_digit.ensures.value ∙ c.if-not-is_ascii_digit.true)) ∙ c.loop-c.invariant.0

pub returns-in_err-checked_mul-clause-answer : goal.returns-in_err-checked_mul-clause-answer
returns-in_err-checked_mul-clause-answer c =
    let digit = sym c.is_ascii_digit.ensures.value ∙ c.if-not-is_ascii_digit.false in
    let over = digit_over _ _ (get_or c.args.text.now c.loop-c.c-index 0 - 48) _ _ c.loop-c-test.true digit refl (omega (arith, c.in_err-checked_mul.ensures)) in
    c.from_residual.ensures ∙ sym over ∙ c.loop-c.invariant.0

pub returns-in_err-total-clause-answer : goal.returns-in_err-total-clause-answer
returns-in_err-total-clause-answer c =
    let digit = sym c.is_ascii_digit.ensures.value ∙ c.if-not-is_ascii_digit.false in
    let over = digit_over _ _ _ _ _ c.loop-c-test.true digit c.from.ensures (omega (arith, c.in_err-total.ensures, c.in_ok-checked_mul.ensures)) in
    c.from_residual-in_err-total.ensures ∙ sym over ∙ c.loop-c.invariant.0

pub returns-then-total-largest-clause-answer : goal.returns-then-total-largest-clause-answer
returns-then-total-largest-clause-answer c =
    let digit = sym c.is_ascii_digit.ensures.value ∙ c.if-not-is_ascii_digit.false in
    let over = digit_over _ _ _ _ _ c.loop-c-test.true digit c.from.ensures (omega (arith, c.in_ok-total.ensures, c.in_ok-checked_mul.ensures)) in
    sym over ∙ c.loop-c.invariant.0

pub loop-c-preserved : goal.loop-c-preserved
loop-c-preserved c =
    let digit = sym c.is_ascii_digit.ensures.value ∙ c.if-not-is_ascii_digit.false in
    let more = digit_more c.args.largest c.loop-c.total c.from.result c.args.text.now c.loop-c.c-index c.loop-c-test.true digit c.from.ensures in
    let is : c.in_ok-total.total ≡ 10 * c.loop-c.total + c.from.result = omega (arith, c.in_ok-total.ensures, c.in_ok-checked_mul.ensures) in
    (ap (λ n. follows c.args.largest n (drop (c.loop-c.c-index + 1) c.args.text.now)) is ∙ sym more ∙ c.loop-c.invariant.0, c.if-total-largest.false)

pub returns : goal.returns
returns c = record { answer = sym (digit_all _ _ _ _ c.loop-c-test.false c.loop-c.invariant.1) ∙ c.loop-c.invariant.0; within = c.loop-c.invariant.1 }
