use Rattle.std.proofs.Common.{eqb, ◌∙◌, ap, rules}
use lib.Bits.{bit_or, bit_xor}
use Rattle.std.proofs.lemmas.Slice.Eq.{bytes_eq-Decides}
use Rattle.std.proofs.lemmas.Iterator.{YieldsList-from_slice, YieldsList-from_zip}
use Rattle.std.proofs.lemmas.Iterator.Consumers.{fold_from_yields_List}
use Rattle.sha256.proofs.Differences.{same_fold}
use Rattle.sha256.proofs.bytes.same.Goals as goal

pub returns : goal.returns
returns c =
    let a = c.args.a.now in
    let b = c.args.b.now in
    let f =
    fold_from_yields_List _ (λ d p. bit_or d (bit_xor p.0 p.1)) 0 c.fold-difference.result c.fold-difference.ensures.ran
    (YieldsList-from_zip (YieldsList-from_slice a cc) (YieldsList-from_slice b cc)) (λ d p r q k. search rules) in
    let e = ap (λ d. eqb d 0) f ∙ same_fold 0 a b c.if-a-b.false in
    record { answer = e; exactly = rw e (bytes_eq-Decides a b) }
