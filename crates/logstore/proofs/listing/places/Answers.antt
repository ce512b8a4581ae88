use Rattle.std.proofs.Common.{◌≡◌, ◌+◌, length, sym, ap, ◌∙◌, arith}
use Rattle.std.specs.Iterator.Adapters.{enumerate_source, enumerate_count}
use Rattle.credential.specs.Model.{told}
use Rattle.credential.specs.Slot.{content_of}
use Rattle.image.specs.Cut.{cells}
use Rattle.image.proofs.Chunks.{gives_more, gives_no_more}
use Rattle.logstore.proofs.Numbers.{places_more, places_all, length_seen}
use Rattle.logstore.proofs.listing.places.Goals as goal

pub loop-k-preserved : goal.loop-k-preserved
loop-k-preserved c =
    let ss = cells c.args.image.now in
    let k = enumerate_count c.loop-k.k-iterator in
    let step = c.in-Some.ensures.steps in
    let g = gives_more ss k (enumerate_source c.loop-k.k-iterator) (enumerate_source c.next.new.self) c.in-Some.slot c.loop-k.invariant.gives step.0 in
    let at : c.in-Some.k ≡ k = step.1 in
    let on : enumerate_count c.next.new.self ≡ k + 1 = step.2 in
    let o = told c.from_bytes.result in
    let read = c.from_bytes.ensures.answer ∙ ap content_of g.1 in
    let seen-is = rw at at c.follow.ensures in
    record {
      size = step.0.0 ∙ c.loop-k.invariant.size;
      gives = rw on g.2;
      few = rw on (omega (arith, ap length seen-is, length_seen k c.loop-k.places.items o, c.loop-k.invariant.few));
      left = rw on (places_more k c.loop-k.places.items c.follow.new.places.items ss o g.0 read seen-is ∙ c.loop-k.invariant.left);
    }

pub returns : goal.returns
returns c =
    let ss = cells c.args.image.now in
    let k = enumerate_count c.loop-k.k-iterator in
    let end = gives_no_more ss k (enumerate_source c.loop-k.k-iterator) (enumerate_source c.next.new.self) c.loop-k.invariant.gives c.in-None.ensures.steps.0 in
    sym (places_all k c.loop-k.places.items ss end) ∙ c.loop-k.invariant.left
