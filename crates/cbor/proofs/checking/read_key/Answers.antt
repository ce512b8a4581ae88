use Rattle.cbor.proofs.Tokens.{read_some, spelled_some}
use Rattle.cbor.proofs.checking.read_key.Goals as goal

pub comes_after-requires : goal.comes_after-requires
comes_after-requires c = spelled_some _ _ _ _ (read_some _ _ _ c.read_token.ensures _ c.in_ok-key.was)
