use Rattle.std.proofs.Common.{refl, arith}
use lib.Bits.{bit_xor}
use Rattle.std.proofs.lemmas.List.{get_or_default}
use Rattle.std.proofs.lemmas.List.Edits.{map_over_more}
use Rattle.sha256.specs.Hmac.{xor}
use Rattle.sha256.proofs.mac.xor_each.Goals as goal

pub loop-x-init : goal.loop-x-init
unfolding xor
loop-x-init c = refl

pub loop-x-preserved : goal.loop-x-preserved
unfolding xor
loop-x-preserved c = map_over_more (λ b. bit_xor b c.args.by) c.args.pad.now c.loop-x.pad c.loop-x.x-index _ (omega arith) c.loop-x.invariant (get_or_default c.loop-x.pad c.loop-x.x-index 0 _ (omega arith))
