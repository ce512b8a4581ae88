use Rattle.std.proofs.Common.{◌≡◌, [], vec_items, sym, ◌∙◌, arith}
use Rattle.std.proofs.lemmas.List.{nil_from_length}
use Rattle.explain.proofs.Levels.{opened, entered_none, awaits_less, awaits_none, finished_none}
use Rattle.explain.proofs.items.enter.Goals as goal

pub returns-then-inside-gt0 : goal.returns-then-inside-gt0
returns-then-inside-gt0 c =
    record { after = opened _ _ _ c.if-inside-gt0.true c.in_ok-push.ensures.items }

pub loop-count-preserved : goal.loop-count-preserved
loop-count-preserved c =
    awaits_none _ _ _ c.if-count-gt1.false c.in-Some.ensures.items ∙ c.loop-count.invariant

pub returns-in_ok-push-2 : goal.returns-in_ok-push-2
returns-in_ok-push-2 c =
    record {
      after =
          awaits_less _ _ _ _ c.if-count-gt1.true c.in-Some.ensures.items c.in_ok-push-2.ensures.items
          ∙ c.loop-count.invariant ∙ sym (entered_none _ _ c.if-inside-gt0.false);
    }

pub returns-in_default : goal.returns-in_default
returns-in_default c =
    let none = c.in_default.ensures.cases in
    let before : vec_items c.loop-count.awaited ≡ [] = nil_from_length _ (omega (arith, c.loop-count.awaited.ok.0, none.0)) in
    let after : vec_items c.pop.new.self ≡ [] = nil_from_length _ (omega (arith, c.pop.new.self.ok.0, none.1)) in
    record { after = finished_none _ _ before after ∙ c.loop-count.invariant ∙ sym (entered_none _ _ c.if-inside-gt0.false) }
