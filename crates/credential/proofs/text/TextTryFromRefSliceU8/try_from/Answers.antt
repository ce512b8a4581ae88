use Rattle.std.proofs.Common.{◌≡◌, ℕ, ◌-◌, ◌++◌, length, drop, replicate, ap, ◌∙◌, arith}
use Rattle.std.proofs.lemmas.Bool.Decides.{nat_tests}
use Rattle.std.proofs.lemmas.List.{drop_at, drop-replicate, length-append, length-drop, length-replicate}
use Rattle.credential.proofs.text.TextTryFromRefSliceU8.try_from.Goals as goal

pub invariant_of-result : goal.invariant_of-result
invariant_of-result g c =
    let text = c.args.text.now in
    let new = c.copy_from_slice.new.self in
    let long : length new ≡ length text = ap length c.copy_from_slice.ensures.after in
    let zeros : drop (length text) (replicate {A = ℕ} g.row.MAX 0) ≡ replicate (g.row.MAX - length text) 0 = drop-replicate (length text) g.row.MAX 0 in (
      length-append new (drop (length text) (replicate {A = ℕ} g.row.MAX 0)) ∙ omega (arith, long, ap length zeros, length-replicate {A = ℕ} (g.row.MAX - length text) 0, c.if-len-2.false),
      omega (arith, c.if-len-2.false),
      grind (arith, nat_tests),
      drop_at new (drop (length text) (replicate {A = ℕ} g.row.MAX 0)) (length text) long ∙ zeros,
    )
