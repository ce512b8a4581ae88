use Rattle.std.proofs.Common.{◌/◌, ◌<◌, length, vec_items, sym, ◌∙◌, arith}
use Rattle.std.proofs.lemmas.Bool.{eqb-true, eqb-false}
use Rattle.lines.proofs.Spelling.{is_dash, no_dash, read_dash, read-empty, read_odd, read_none, read_no_high, read_no_low, read_more, read_all, spells, chunk_high, chunk_low}
use Rattle.lines.proofs.hex.decode.Goals as goal
use Rattle.lines.proofs.hex.decode.Goals.{then-is_empty-via-then-is_empty, then-is_empty-via-else-is_empty+then-text-ne0}

pub returns-then-eq : goal.returns-then-eq
returns-then-eq c =
    let d = read_dash _ _ (is_dash _ _ _ c.eq.ensures c.as_slice.ensures c.if-eq.true) c.new-bytes.ensures.items in
    record { answer = sym d; exact = spells _ _ d }

pub returns-then-is_empty : goal.returns-then-is_empty
returns-then-is_empty c =
    record {
      answer =
          sym
          (elim c.then-is_empty.branch [
            | then-is_empty-via-then-is_empty w ↦ read-empty _ (eqb-true _ 0 (sym c.is_empty.ensures ∙ w.if-is_empty.true))
            | then-is_empty-via-else-is_empty+then-text-ne0 w ↦ read_odd _ (omega (arith, w.if-text-ne0.true)) (no_dash _ _ _ c.eq.ensures c.as_slice.ensures c.if-eq.false)
          ]);
      exact = tt;
    }

pub loop-high-init : goal.loop-high-init
loop-high-init c =
    let some = eqb-false _ 0 (sym c.is_empty.ensures ∙ c.if-is_empty.false) in
    rw c.new-bytes.ensures.items (read_none _ (omega (arith, some)) (no_dash _ _ _ c.eq.ensures c.as_slice.ensures c.if-eq.false))

pub returns-in_default-clause-answer : goal.returns-in_default-clause-answer
returns-in_default-clause-answer c =
    let at : c.loop-high.high-index < length c.args.text.now / 2 = omega (arith, c.as_chunks.ensures.front_len) in
    let high = sym (chunk_high _ _ _ _ c.as_chunks.ensures.front at) ∙ sym c.value_of.ensures ∙ c.in_default.is in
    sym (read_no_high _ _ _ (omega arith) high c.loop-high.invariant)

pub returns-in_default-value_of-clause-answer : goal.returns-in_default-value_of-clause-answer
returns-in_default-value_of-clause-answer c =
    let at : c.loop-high.high-index < length c.args.text.now / 2 = omega (arith, c.as_chunks.ensures.front_len) in
    let high = sym (chunk_high _ _ _ _ c.as_chunks.ensures.front at) ∙ sym c.in-Some.ensures in
    let low = sym (chunk_low _ _ _ _ c.as_chunks.ensures.front at) ∙ sym c.value_of-in-loop-high.ensures ∙ c.in_default-value_of.is in
    sym (read_no_low _ _ _ _ (omega arith) high low c.loop-high.invariant)

pub loop-high-preserved : goal.loop-high-preserved
loop-high-preserved c =
    let at : c.loop-high.high-index < length c.args.text.now / 2 = omega (arith, c.as_chunks.ensures.front_len) in
    read_more _ _ _ _ _ _ (omega arith) (sym (chunk_high _ _ _ _ c.as_chunks.ensures.front at) ∙ sym c.in-Some.ensures) (sym (chunk_low _ _ _ _ c.as_chunks.ensures.front at) ∙ sym c.in-Some-value_of.ensures)
    c.in_ok-push.ensures.items c.loop-high.invariant

pub returns : goal.returns
returns c =
    let d = read_all (vec_items c.loop-high.bytes) c.args.text.now c.loop-high.high-index (omega (arith, c.as_chunks.ensures.front_len)) c.loop-high.invariant in
    record { answer = sym d; exact = spells _ _ d }
