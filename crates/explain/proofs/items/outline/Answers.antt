use Rattle.std.proofs.Common.{reverse, vec_items, ap, refl, sym, ◌∙◌, subst, inl, inr, arith}
use Rattle.explain.proofs.Levels.{outlined_none, outlined_more, entered_first, entered-next, chain_none, chain_more, too_deep}
use Rattle.cbor.proofs.Fields.{no_item}
use Rattle.explain.specs.Outlined.{Outlined, Chained, entered}
use Rattle.explain.proofs.items.outline.Goals as goal
use Rattle.explain.proofs.items.outline.Goals.{then-loop-at-test+else-len-le-MAX_LEVELS, else-loop-at-test, then-loop-at-test+then-len-le-MAX_LEVELS+in_default}

pub loop-at-init : goal.loop-at-init
loop-at-init c =
    let none = c.new-entries.ensures.items in
    (outlined_none _ _ none, outlined_none _ _ none, entered_first _ _ none c.new-awaited.ensures.items, chain_none _ _ _ none)

pub loop-at-preserved : goal.loop-at-preserved
loop-at-preserved c =
    let pushed = c.in_ok-push.ensures.items in
    let outer = vec_items c.loop-at.awaited in
    let level = c.len-level.ensures ∙ c.loop-at.awaited.ok.0 in
    let inv = c.loop-at.invariant in
    let read = c.in-Ok.ensures in
    let before = vec_items c.loop-at.entries in
    let after = vec_items c.push.new.self in (
      outlined_more before after _ outer _ pushed level (omega arith) read.within.0 inv.2 inv.0,
      outlined_more before after _ outer _ pushed level (omega arith) c.loop-at-test.true inv.2 inv.0,
      entered-next before after _ outer (vec_items c.enter.new.awaited) pushed (c.in_ok-enter.ensures.after ∙ ap (λ n. entered n (reverse outer)) c.held_by.ensures) inv.2,
      chain_more _ _ before after _ _ pushed inv.3 read.answer refl,
    )

pub returns : goal.returns
returns c =
    let inv = c.loop-at.invariant in
    let es = vec_items c.loop-at.entries in
    let message = c.args.message.now in
    record {
      listed = subst (Outlined es) c.min-stop.ensures inv.1;
      chained = subst (Chained message es) c.min-stop.ensures (record {
        end = c.loop-at.at;
        chain = inv.3;
        whole = λ less. elim c.loop-at-test.branch [
          | then-loop-at-test+else-len-le-MAX_LEVELS w ↦ inr (too_deep _ _ _ inv.2 (w.len.ensures ∙ c.loop-at.awaited.ok.0) w.if-len-le-MAX_LEVELS.false)
          | else-loop-at-test w ↦ absurd (omega (arith, w.loop-at-test.false))
          | then-loop-at-test+then-len-le-MAX_LEVELS+in_default w ↦ inl (let n = no_item _ _ w.read.ensures.answer w.in_default.not-Ok in (n.0, sym n.1))
        ];
      });
    }
