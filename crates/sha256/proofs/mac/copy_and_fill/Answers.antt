use Rattle.std.proofs.Common.{◌≡◌, length, arith}
use Rattle.sha256.proofs.Pads.{over_zeros}
use Rattle.sha256.specs.Hmac.{filled}
use Rattle.sha256.proofs.mac.copy_and_fill.Goals as goal

pub returns : goal.returns
unfolding filled
returns c =
    let n : length c.args.pad.now ≡ 64 = omega arith in
    over_zeros c.args.bytes.now c.copy_from_slice.new.self c.fill.new.self 64 c.copy_from_slice.ensures.after (rw n at (c.fill.ensures.after (λ y e. e)))
