use Rattle.sha256.specs.Sha256.{compress, K}
use Rattle.sha256.proofs.compression.compress_block.Goals as goal

pub returns : goal.returns
unfolding compress K
returns c = cc
