-- What a slot was read as, where it holds a record.
use Rattle.std.proofs.Common.{◌≡◌, ℕ, Some, None, Option, arith}
use Rattle.credential.specs.Rec.{Rec}

pub none_read : (r : Rec) (o : Option Rec) → None ≡ o → o ≡ Some r → ⊥
none_read r o e f = let z : ◌≡◌ {A = ℕ} 0 1 = cc in omega arith

pub same_read : (r s : Rec) (o : Option Rec) → Some s ≡ o → o ≡ Some r → s ≡ r
same_read r s o e f = cc
