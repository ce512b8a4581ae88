use Rattle.std.proofs.Common.{sym, ap, ◌∙◌}
use Rattle.cbor.specs.Unread.{told_rest}
use Rattle.cbor.proofs.Fields.{ok_none, ok_some, value_at, seek_none, seek_lost, seek_found, seek_cut, seek_more}
use Rattle.cbor.proofs.Tokens.{read_some, read_none}
use Rattle.cbor.proofs.finding.seek.Goals as goal

pub returns-in_err-item : goal.returns-in_err-item
returns-in_err-item c message at e =
    let i = c.loop-i.invariant message at e in
    rw c.from_residual.ensures (sym i.2 ∙ seek_lost _ _ _ _ _ _ i.1 c.loop-i-test.true (read_none _ _ _ c.read_token.ensures c.in_err-item.was))

pub returns-then-is_named : goal.returns-then-is_named
returns-then-is_named c message at e =
    let i = c.loop-i.invariant message at e in
    let has = read_some _ _ _ c.read_token.ensures _ c.in_ok-item.was in (
      value_at _ _ _ i.1 _ _ _ has,
      sym i.2 ∙ seek_found _ _ _ _ _ _ i.1 c.loop-i-test.true _ _ _ has (sym c.if-is_named.ensures),
    )

pub returns-in_err-rest : goal.returns-in_err-rest
returns-in_err-rest c message at e =
    let i = c.loop-i.invariant message at e in
    let has = read_some _ _ _ c.read_token.ensures _ c.in_ok-item.was in
    let rest = sym (ap told_rest (ok_none _ c.in_err-rest.ensures.value).1) ∙ c.check_item.ensures in
    rw c.from_residual-in_err-rest.ensures (sym i.2 ∙ seek_cut _ _ _ _ _ _ i.1 c.loop-i-test.true _ _ _ has _ (sym c.if-is_named.ensures) rest)

pub loop-i-preserved : goal.loop-i-preserved
loop-i-preserved c message at e =
    let i = c.loop-i.invariant message at e in
    let has = read_some _ _ _ c.read_token.ensures _ c.in_ok-item.was in
    let rest = sym (ap told_rest (ok_some _ _ c.in_ok-rest.ensures.value)) ∙ c.check_item.ensures in
    let m = seek_more _ _ _ _ _ _ i.1 c.loop-i-test.true _ _ _ has _ (sym c.if-is_named.ensures) rest in
    (m.0, m.1, m.2 ∙ i.2)

pub returns : goal.returns
returns c message at e =
    let i = c.loop-i.invariant message at e in
    sym i.2 ∙ seek_none _ _ _ _ _ c.loop-i-test.false
