use Rattle.std.proofs.Common.{sym, ◌∙◌, rules}
use Rattle.std.proofs.lemmas.Iterator.{YieldsList-from_slice, YieldsList-from_zip}
use Rattle.std.proofs.lemmas.Iterator.Consumers.{fold_from_yields_List}
use Rattle.sha256.specs.Sha256.{round}
use Rattle.sha256.proofs.Blocks.{rounds_fold}
use Rattle.sha256.proofs.compression.all_rounds.Goals as goal

pub returns : goal.returns
returns c =
    let ks = c.args.constants.now in
    let ws = c.args.words.now in
    fold_from_yields_List _ (λ v p. round p.0 p.1 v) c.args.state c.fold.result c.fold.ensures.ran
    (YieldsList-from_zip (YieldsList-from_slice ks cc) (YieldsList-from_slice ws cc)) (λ v p r q k. search rules)
    ∙ sym (rounds_fold ks ws c.args.state)
