use Rattle.std.proofs.Common.{get_or, refl, ◌∙◌, arith}
use Rattle.image.specs.Cut.{cells}
use Rattle.logstore.proofs.Gathering.{gathered_more, gathered_all}
use Rattle.logstore.proofs.compaction.gather.Goals as goal

pub loop-j-preserved : goal.loop-j-preserved
loop-j-preserved c =
    let ps = c.args.places.now in
    let j = c.loop-j.j in
    let ahead = c.requires j c.loop-j-test.true in
    record {
      slots = c.copy.ensures.written
          ∙ gathered_more (cells c.loop-j.image) (cells c.args.image.now) ps j (get_or ps j 0) c.loop-j.invariant.slots c.loop-j-test.true refl ahead.0 ahead.1;
      kept = c.copy.ensures.kept ∙ c.loop-j.invariant.kept;
    }

pub returns-clause-slots : goal.returns-clause-slots
returns-clause-slots c = gathered_all (cells c.loop-j.image) (cells c.args.image.now) c.args.places.now c.loop-j.j c.loop-j.invariant.slots (omega arith)
