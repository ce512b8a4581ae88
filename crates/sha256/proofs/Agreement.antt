-- What agreement means: what was given is the tag.
use Rattle.std.proofs.Common.{◌≡◌, ℕ, Bool, List, Decides, sym}
use Rattle.sha256.specs.Hmac.{tag, agreed}
use Rattle.sha256.proofs.Differences.{same_decides}

pub agreed_decides : (r : Bool) (token covered given : List ℕ) → r ≡ agreed token covered given → Decides r (given ≡ tag token covered)
unfolding agreed
agreed_decides r token covered given e =
    let d = same_decides r (tag token covered) given e in
    (λ t. sym (d.0 t), λ p. d.1 (sym p))
