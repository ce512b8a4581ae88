use Rattle.std.proofs.Common.{[]}
use Rattle.sha256.proofs.hasher.digest.Goals as goal

pub returns : goal.returns
returns c = record { answer = c.finish.ensures c.args.message.now (c.update.ensures [] c.new-hasher.ensures) }
