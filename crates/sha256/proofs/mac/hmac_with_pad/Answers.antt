use Rattle.std.proofs.Common.{◌++◌}
use Rattle.sha256.proofs.Pads.{hmac_is}
use Rattle.sha256.proofs.mac.hmac_with_pad.Goals as goal

pub returns-clause-answer : goal.returns-clause-answer
returns-clause-answer c = hmac_is c.args.key.now (c.args.first.now ++ c.args.rest.now) c.copy_key.new.pad c.xor_each.new.pad c.digest_parts-inner.result c.xor_each-2.new.pad c.digest_parts.result c.copy_key.ensures c.xor_each.ensures c.digest_parts-inner.ensures c.xor_each-2.ensures c.digest_parts.ensures
