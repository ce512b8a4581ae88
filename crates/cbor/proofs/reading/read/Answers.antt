use Rattle.std.proofs.Common.{sym}
use Rattle.cbor.proofs.Fields.{read_found, read_within}
use Rattle.cbor.proofs.Tokens.{read_some}
use Rattle.cbor.proofs.reading.read.Goals as goal

pub returns-clause-answer : goal.returns-clause-answer
returns-clause-answer c =
    rw c.place_of.ensures (read_found _ _ _ (sym c.unread.ensures) _ _ _ (read_some _ _ _ c.read_token.ensures _ c.in_ok-item.ensures.ok_part))

pub returns-clause-within : goal.returns-clause-within
returns-clause-within c =
    rw c.place_of.ensures (read_within _ _ _ (sym c.unread.ensures) _ _ _ (read_some _ _ _ c.read_token.ensures _ c.in_ok-item.ensures.ok_part))
