use Rattle.cbor.proofs.Numbers.{number_follows}
use Rattle.cbor.proofs.reading.following.Goals as goal

pub returns : goal.returns
returns c =
    let got = c.in_ok-digits.ensures.lookup.0 in
    number_follows _ _ _ _ _ _ _ c.requires got.1 got.2 c.copy_from_slice.ensures.after c.from_be_bytes-value.ensures c.then_some.ensures
