use Rattle.std.proofs.Common.{◌≡◌, min, List, ℕ, ◌++◌, length, ap, ◌∙◌, subst}
use Rattle.std.specs.List.{flat_map}
use Rattle.std.proofs.lemmas.List.{take_all}
use Rattle.cbor.specs.Meaning.{meant}
use Rattle.explain.specs.declared.items.Entry.{Entry}
use Rattle.explain.specs.Judged.{judged, reach, verdict_line}
use Rattle.explain.specs.Outlined.{Outlined, Chained}
use Rattle.explain.specs.Shown.{item_line, entry_line}
use Rattle.explain.proofs.Texts.{entries_found}
use Rattle.explain.proofs.explaining.explanation.Goals as goal

abbrev line : Entry → List ℕ
line e = item_line e.place e.level (meant e.item)

pub returns : goal.returns
returns c =
    let message = c.args.message.now in
    let size = length message in
    let es = c.in_ok-entries.entries.items in
    let made = c.in_ok-entries.ensures in
    let stop : min c.reach.result size ≡ min (reach (judged message) size) size
    = ap (λ n. min n size) (c.reach.ensures.answer ∙ ap (λ v. reach v size) c.judge.ensures.answer) in
    let all = c.loop-entry.invariant ∙ ap (flat_map line) (take_all _ _ c.loop-entry-test.false ∙ c.deref-entry-items.ensures.value) ∙ entries_found message 1 _ es made.chained.chain in
    record {
      text = record {
        entries = es;
        listed = subst (Outlined es) stop made.listed;
        chained = subst (Chained message es) stop made.chained;
        is = c.in_ok-write-2.ensures.bytes ∙ ap (λ t. t ++ verdict_line c.judge.result) all ∙ ap (λ v. flat_map (entry_line message) es ++ verdict_line v) c.judge.ensures.answer;
      };
    }
