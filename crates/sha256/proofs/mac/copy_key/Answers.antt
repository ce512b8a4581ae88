use Rattle.std.proofs.Common.{◌∙◌, ap}
use Rattle.sha256.specs.Hmac.{filled}
use Rattle.sha256.proofs.Pads.{shortened_long, shortened_short}
use Rattle.sha256.proofs.mac.copy_key.Goals as goal

pub returns-then-key-gt-BLOCK : goal.returns-then-key-gt-BLOCK
returns-then-key-gt-BLOCK c = rw (shortened_long c.args.key.now c.if-key-gt-BLOCK.true) (c.copy_and_fill.ensures ∙ ap filled c.digest.ensures.answer)

pub returns-else-key-gt-BLOCK : goal.returns-else-key-gt-BLOCK
returns-else-key-gt-BLOCK c = rw (shortened_short c.args.key.now c.if-key-gt-BLOCK.false) c.copy_and_fill-else-key-gt-BLOCK.ensures
