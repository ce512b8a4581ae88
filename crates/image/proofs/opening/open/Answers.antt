use Rattle.std.proofs.Common.{◌≡◌, ℕ, Bool, List, sym, ap, ◌∙◌, arith}
use Rattle.image.specs.declared.kind.Kind.{Kind}
use Rattle.image.specs.Kinds.{fits}
use Rattle.image.specs.Opening.{counts}
use Rattle.image.proofs.Sizes.{sized, opened_unfitting, opened-image}
use Rattle.image.proofs.opening.open.Goals as goal

-- whether the image fits, by the bytes that were lent
fits_told : {lent im : List ℕ} {ok : Bool} (kind : Kind) → lent ≡ im → ok ≡ fits kind lent → fits kind im ≡ ok
fits_told kind same is = ap (fits kind) (sym same) ∙ sym is

pub returns-then-not-fits-clause-answer : goal.returns-then-not-fits-clause-answer
returns-then-not-fits-clause-answer c =
    let kind = c.args.kind in
    let unfit = fits_told kind c.deref.ensures.value c.if-not-fits.ensures in
    sym (ap counts (opened_unfitting kind _ unfit))

pub invariant_of-image : goal.invariant_of-image
invariant_of-image c =
    let kind = c.args.kind in
    let fit = fits_told kind c.deref.ensures.value c.if-not-fits.ensures in
    let size = sized kind _ fit in
    record { whole = omega (arith, size.long); few = size.few }

pub returns-in-Ok-clause-answer : goal.returns-in-Ok-clause-answer
returns-in-Ok-clause-answer c =
    let kind = c.args.kind in
    let fit = fits_told kind c.deref.ensures.value c.if-not-fits.ensures in
    c.in-Ok.ensures ∙ sym (ap counts (opened-image kind c.args.bytes fit))

pub returns-in-Err-clause-answer : goal.returns-in-Err-clause-answer
returns-in-Err-clause-answer c =
    let kind = c.args.kind in
    let fit = fits_told kind c.deref.ensures.value c.if-not-fits.ensures in
    c.in-Err.ensures ∙ sym (ap counts (opened-image kind c.args.bytes fit))
