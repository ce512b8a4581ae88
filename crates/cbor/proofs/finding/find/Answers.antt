use Rattle.std.proofs.Common.{sym}
use Rattle.cbor.proofs.Fields.{no_map, read_found, field_other}
use Rattle.cbor.proofs.Lookup.{finds}
use Rattle.cbor.proofs.Tokens.{read_some}
use Rattle.cbor.proofs.finding.find.Goals as goal

pub returns-in_err-item-clause-finds : goal.returns-in_err-item-clause-finds
returns-in_err-item-clause-finds c = finds _ _ _

pub returns-in_default : goal.returns-in_default
returns-in_default c =
    let has = read_some _ _ _ c.read_token.ensures _ c.in_ok-item.was in
    record { answer = field_other _ _ _ _ (read_found _ _ _ (sym c.unread.ensures) _ _ _ has) (no_map _ c.in_default.not-Map); finds = finds _ _ _ }

pub returns-in_err-value-clause-finds : goal.returns-in_err-value-clause-finds
returns-in_err-value-clause-finds c = finds _ _ _

pub returns-clause-finds : goal.returns-clause-finds
returns-clause-finds c = finds _ _ _
