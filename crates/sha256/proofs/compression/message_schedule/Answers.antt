use Rattle.std.proofs.Common.{◌≡◌, ◌/◌, length, ap, ◌∙◌, arith}
use Rattle.std.specs.Simd.{first_chunks}
use Rattle.std.proofs.lemmas.List.{length-set}
use Rattle.sha256.specs.Sha256.{extend, schedule}
use Rattle.sha256.proofs.Blocks.{words_all, extend_more, extend_none}
use Rattle.sha256.proofs.compression.message_schedule.Goals as goal

pub loop-t-2-init : goal.loop-t-2-init
loop-t-2-init c =
    let n : length c.args.block.now / 4 ≡ 16 = omega arith in
    let front = c.as_chunks.ensures.front ∙ ap (λ n. first_chunks 4 n c.args.block.now) n in
    (c.loop-t.invariant.0, ap (extend 48) (words_all c.args.block.now c.loop-t.w c.as_chunks.result.0.now c.loop-t.t front (omega arith) (omega arith) c.loop-t.invariant.1))

pub loop-t-2-preserved : goal.loop-t-2-preserved
loop-t-2-preserved c = (simp length-set (omega arith), extend_more c.loop-t-2.w c.loop-t-2.t _ (omega arith) (omega arith) (omega arith) (cc) ∙ c.loop-t-2.invariant.1)

pub returns : goal.returns
unfolding schedule
returns c = extend_none c.loop-t-2.w _ c.loop-t-2.t (omega arith) (omega arith) (omega arith) c.loop-t-2.invariant.1
