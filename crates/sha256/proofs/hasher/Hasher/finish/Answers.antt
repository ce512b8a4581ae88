use Rattle.std.proofs.Common.{◌∙◌}
use Rattle.sha256.specs.Sha256.{length_field}
use Rattle.sha256.proofs.Streams.{padded_is, digest_is}
use Rattle.sha256.proofs.hasher.Hasher.finish.Goals as goal

pub returns : goal.returns
unfolding length_field
returns c m fed =
    let first = c.update.ensures m fed in
    let second = c.update-2.ensures _ first in
    c.to_bytes.ensures ∙ digest_is c.update-2.new.self m _ second (padded_is c.args.self m _ _ fed (rw c.used.ensures) c.to_be_bytes.ensures)
