use Rattle.std.proofs.Common.{refl}
use Rattle.cbor.proofs.Open.{reading}
use Rattle.cbor.proofs.examples.examples_hold.Goals as goal

pub returns : goal.returns
unfolding reading
returns c = record { examples = refl }
