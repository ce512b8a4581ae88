use Rattle.std.proofs.Common.{sym, ap, ◌∙◌, rules}
use Rattle.std.specs.List.{fold}
use Rattle.std.proofs.lemmas.Iterator.{YieldsList-from_slice}
use Rattle.std.proofs.lemmas.Iterator.Consumers.{fold_from_yields_List}
use Rattle.sha256.specs.Sha256.{compress}
use Rattle.sha256.specs.Feeding.{whole}
use Rattle.sha256.proofs.Streams.{blocks_fold}
use Rattle.sha256.proofs.hasher.Hasher.absorb.Goals as goal

pub returns-clause-compressed : goal.returns-clause-compressed
returns-clause-compressed c =
    let chunks = c.as_chunks.result.0.now in
    let run = fold_from_yields_List _ compress c.args.self.now.state c.fold-self.result c.fold-self.ensures.ran (YieldsList-from_slice chunks cc) (λ s b r q k. search rules) in
    run ∙ (ap (fold compress c.args.self.now.state) c.as_chunks.ensures.front ∙ sym (blocks_fold (whole c.args.input.now) c.args.self.now.state c.args.input.now))
