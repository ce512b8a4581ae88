use Rattle.std.proofs.Common.{◌≡◌, ◌++◌, string_bytes, ap, ◌∙◌, arith}
use Rattle.storebench.specs.Text.{record_line}
use Rattle.storebench.proofs.Texts.{lines_more, lines_all}
use Rattle.storebench.proofs.text.list_text.Goals as goal

pub loop-place-preserved : goal.loop-place-preserved
loop-place-preserved g c =
    let place = c.loop-place.place in
    let line : c.deref.result.now ≡ record_line place c.read.new.into = c.deref.ensures ∙ c.in_ok-line.ensures.ok ∙ ap (record_line place) c.fields-fields.ensures.answer in (
      lines_more _ _ _ _ _ _ _ (omega (arith, c.loop-place.invariant.1)) c.read.ensures.found
          (c.in_ok-push_str.ensures.bytes ∙ ap (λ l. string_bytes c.loop-place.text ++ l) line) c.loop-place.invariant.0,
      c.loop-place.invariant.1,
    )

pub returns : goal.returns
returns g c =
    let fill = c.of-fill.ensures in
    record {
      text =
          lines_all _ _ _ _ _ _ _ _ _ (omega (arith, c.loop-place.invariant.1)) c.loop-place.invariant.0 fill.count fill.capacity
          c.deref-2.ensures c.in_ok-last.ensures.ok c.in_ok-push_str-2.ensures.bytes;
    }
