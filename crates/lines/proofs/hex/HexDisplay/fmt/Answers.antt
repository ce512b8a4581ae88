use Rattle.std.proofs.Common.{◌≡◌, ◌++◌, sym, ◌∙◌, ap, append-nil, append_assoc, arith, rules}
use Rattle.std.proofs.Output.{has_written_append, has_written_of_eq}
use Rattle.std.proofs.lemmas.Bool.{eqb-true, eqb-false}
use Rattle.std.proofs.lemmas.List.{nil_from_length}
use Rattle.std.proofs.lemmas.Result.{MatchResult-at_ok}
use Rattle.std.proofs.lemmas.Str.{IsUtf8-from_ascii}
use Rattle.std.specs.Slice.Iter.{chunks_rest}
use Rattle.lines.specs.Hex.{digits}
use Rattle.lines.proofs.Spelling.{encoded_none, encoded_some}
use Rattle.lines.proofs.Written.{digits-append, digits_none, no_error}
use Rattle.lines.proofs.hex.HexDisplay.fmt.Goals as goal

pub returns-then-is_empty-clause-writes : goal.returns-then-is_empty-clause-writes
returns-then-is_empty-clause-writes g c = λ plain ok.
    has_written_of_eq _ _ _ _ _ (sym (encoded_none _ (eqb-true _ 0 (sym c.is_empty.ensures ∙ c.if-is_empty.true)))) (c.write.ensures.writes plain ok)

pub unwrap-requires : goal.unwrap-requires
unwrap-requires g c =
    no_error c.from_utf8.result _ _ c.from_utf8.ensures.cases (λ e broken. broken.0 (rw c.digits_of-digits.ensures.answer (IsUtf8-from_ascii _ c.digits_of-digits.ensures.ascii)))

pub loop-part-preserved : goal.loop-part-preserved
loop-part-preserved g c =
    let part = c.in-Some.part.now in
    let steps = c.in-Some.ensures.steps in
    let text : c.unwrap.result.now ≡ digits part = (MatchResult-at_ok _ _ c.unwrap.result c.unwrap.ensures c.from_utf8.ensures.cases).0 ∙ c.digits_of-digits.ensures.answer in (
      search rules,
      tt,
      steps.0 ∙ c.loop-part.invariant.2,
      λ plain.
          let so_far = c.loop-part.invariant.3 plain in (
            so_far.0 ++ c.unwrap.result.now,
            has_written_append _ _ _ _ _ _ so_far.1 (search rules),
            append_assoc so_far.0 _ _
                ∙ ap (λ t. so_far.0 ++ t) (rw text (sym (digits-append part (chunks_rest c.next.new.self)) ∙ ap digits (sym steps.1.0)))
                ∙ so_far.2,
          ),
    )

pub returns-clause-writes : goal.returns-clause-writes
returns-clause-writes g c = λ plain _.
    let so_far = c.loop-part.invariant.3 plain in
    let some = eqb-false _ 0 (sym c.is_empty.ensures ∙ c.if-is_empty.false) in
    let none = nil_from_length _ c.in-None.ensures.steps.1.0 in
    has_written_of_eq _ _ _ _ _ ((rw (none, digits_none, append-nil) at so_far.2) ∙ sym (encoded_some _ (omega (arith, some)))) so_far.1
