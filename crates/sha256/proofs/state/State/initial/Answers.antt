use Rattle.std.proofs.Common.{refl}
use Rattle.sha256.specs.Sha256.{H0}
use Rattle.sha256.proofs.state.State.initial.Goals as goal

pub returns : goal.returns
unfolding H0
returns c = refl
