use Rattle.std.proofs.Common.{◌∙◌, arith}
use Rattle.cbor.proofs.Checks.{items_more, entries_more}
use Rattle.cbor.proofs.Rests.{item_rest, rest_short}
use Rattle.cbor.proofs.Tokens.{behind_less, behind_short, read_some}
use Rattle.cbor.proofs.checking.+check_entries_check_item_check_items.Goals as goal

pub check_entries-check_item-requires : goal.check_entries-check_item-requires
check_entries-check_item-requires t c =
    let key = read_some _ _ _ c.read_key.ensures _ c.in_ok-spelled.ensures.ok_part in
    omega (arith, c.decreases, c.loop-i.invariant.0, behind_short _ _ _ _ _ key)

pub check_entries-loop-i-preserved : goal.check_entries-loop-i-preserved
check_entries-loop-i-preserved t c =
    let key = read_some _ _ _ c.read_key.ensures _ c.in_ok-spelled.ensures.ok_part in (
      omega (arith, c.loop-i.invariant.0, behind_short _ _ _ _ _ key, rest_short _ _ (item_rest _ _ _ c.in_ok-rest.ensures)),
      entries_more _ _ _ _ c.loop-i-test.true _ _ _ _ _ key c.in_ok-rest.ensures ∙ c.loop-i.invariant.1,
    )

pub check_item-check_items-requires : goal.check_item-check_items-requires
check_item-check_items-requires t c = omega (arith, c.decreases, behind_less _ _ _ _ (read_some _ _ _ c.read_token.ensures _ c.in_ok-item.ensures.ok_part))

pub check_item-check_entries-requires : goal.check_item-check_entries-requires
check_item-check_entries-requires t c = omega (arith, c.decreases, behind_less _ _ _ _ (read_some _ _ _ c.read_token.ensures _ c.in_ok-item.ensures.ok_part))

pub check_items-check_item-requires : goal.check_items-check_item-requires
check_items-check_item-requires t c = omega (arith, c.decreases, c.loop-i.invariant.0)

pub check_items-loop-i-preserved : goal.check_items-loop-i-preserved
check_items-loop-i-preserved t c = (
  omega (arith, c.loop-i.invariant.0, rest_short _ _ (item_rest _ _ _ c.in_ok-rest.ensures)),
  items_more _ _ _ _ c.loop-i-test.true _ c.in_ok-rest.ensures ∙ c.loop-i.invariant.1,
)
