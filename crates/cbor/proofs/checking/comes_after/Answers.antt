use Rattle.std.proofs.Common.{ap, ◌∙◌, sym}
use Rattle.std.specs.Ordering.{is_lt}
use Rattle.cbor.specs.Reader.{precedes}
use Rattle.cbor.specs.Unread.{earlier}
use Rattle.cbor.proofs.Orders.{precedes_none, precedes_by_rank}
use Rattle.cbor.proofs.checking.comes_after.Goals as goal

pub returns-in-None : goal.returns-in-None
returns-in-None c = rw c.in-None.is (precedes_none _)

pub returns-in-Some : goal.returns-in-Some
returns-in-Some c =
    let a = c.rank.ensures in
    let b = c.rank-in-Some.ensures in
    c.is_lt.ensures ∙ ap is_lt c.cmp.ensures
    ∙ precedes_by_rank c.rank.result c.rank-in-Some.result _ _ a.major a.len a.bytes b.major b.len b.bytes c.requires
    ∙ ap (λ o. precedes (earlier o) c.args.key.now) (sym c.in-Some.is)
