use Rattle.std.proofs.Common.{sym, ap, ◌∙◌}
use Rattle.cbor.specs.Unread.{told_rest}
use Rattle.cbor.proofs.Fields.{ok_some}
use Rattle.cbor.proofs.Rests.{item_rest, rest_short}
use Rattle.cbor.proofs.finding.held.Goals as goal

pub place_of-requires-2 : goal.place_of-requires-2
place_of-requires-2 c =
    rest_short _ _ (item_rest _ _ _ (sym (ap told_rest (ok_some _ _ c.in_ok-rest.ensures.value)) ∙ c.check_item.ensures))
