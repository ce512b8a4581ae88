use Rattle.std.proofs.Common.{[], ap, ◌∙◌}
use Rattle.std.proofs.lemmas.List.{append_assoc}
use Rattle.sha256.specs.Sha256.{sha256}
use Rattle.sha256.proofs.mac.digest_parts.Goals as goal

pub returns : goal.returns
returns c =
    c.finish.ensures _ (c.update-3.ensures _ (c.update-2.ensures _ (c.update.ensures [] c.new-hasher.ensures)))
    ∙ ap sha256 (append_assoc c.args.pad.now c.args.first.now c.args.rest.now)
