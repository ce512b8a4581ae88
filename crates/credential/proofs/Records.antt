-- Records are equal field by field.
use Rattle.std.proofs.Common.{◌≡◌, ℕ, List}
use Rattle.credential.specs.Rec.{Rec}

-- a record by its fields
of : List ℕ → List ℕ → List ℕ → List ℕ → List ℕ → List ℕ → List ℕ → ℕ → Rec
of a b c d e f g h = record { rp_id = a; user_id = b; name = c; display_name = d; credential_id = e; x = f; y = g; cred_protect = h }

same_of :
    (a a' b b' c c' d d' e e' f f' g g' : List ℕ) (h h' : ℕ) → a ≡ a' → b ≡ b' → c ≡ c' → d ≡ d' → e ≡ e' → f ≡ f' → g ≡ g' → h ≡ h'
    → of a b c d e f g h ≡ of a' b' c' d' e' f' g' h'
same_of a a' b b' c c' d d' e e' f f' g g' h h' p q r s t u v w = cc

pub same_rec :
    (r s : Rec) → r.rp_id ≡ s.rp_id → r.user_id ≡ s.user_id → r.name ≡ s.name → r.display_name ≡ s.display_name
    → r.credential_id ≡ s.credential_id → r.x ≡ s.x → r.y ≡ s.y → r.cred_protect ≡ s.cred_protect → r ≡ s
unfolding of
same_rec r s p q t u v w y z = same_of _ _ _ _ _ _ _ _ _ _ _ _ _ _ _ _ p q t u v w y z
