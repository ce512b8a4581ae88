use Rattle.std.proofs.Common.{refl}
use Rattle.sha256.proofs.Open.{hashes}
use Rattle.sha256.proofs.vectors.vectors_hold.Goals as goal

pub returns : goal.returns
unfolding hashes
returns c = record { vectors = refl }
