use Rattle.std.proofs.Common.{refl}
use Rattle.sha256.specs.Sha256.{plus}
use Rattle.sha256.proofs.state.State.plus.Goals as goal

pub returns : goal.returns
unfolding plus
returns c = refl
