use Rattle.std.proofs.Common.{refl}
use Rattle.sha256.specs.Sha256.{blocks}
use Rattle.sha256.proofs.hasher.Hasher.new.Goals as goal

pub returns : goal.returns
unfolding blocks
returns c = record { compressed = c.initial.ensures; kept = refl; counted = refl }
