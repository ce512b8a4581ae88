-- A credential record, the limits of its fields, and its party.
use Rattle.std.specs.Prelude.{ℕ, Bool, ◌&&◌, List, [], ◌∷◌, length, replicate, ◌==◌, nat_le}
use Rattle.sha256.specs.Sha256.{sha256}

-- a discoverable credential: whose it is, its name, its public key and its protection
pub record Rec : Type 0 where
  pub rp_id : List ℕ
  pub user_id : List ℕ
  pub name : List ℕ
  pub display_name : List ℕ
  pub credential_id : List ℕ
  pub x : List ℕ
  pub y : List ℕ
  pub cred_protect : ℕ

-- a number lies between two limits, both allowed
abbrev pub between : ℕ → ℕ → ℕ → Bool
between low high n = nat_le low n && nat_le n high

-- every field is within its limits
unfoldable pub is_within : Rec → Bool
is_within r =
    between 1 128 (length r.rp_id) && (between 1 64 (length r.user_id) &&
    (nat_le (length r.name) 64 && (nat_le (length r.display_name) 64 &&
    (length r.credential_id == 32 && (length r.x == 32 && (length r.y == 32 &&
    between 1 3 r.cred_protect))))))

-- the party of a record: the SHA-256 of its RP ID
unfoldable pub party : Rec → List ℕ
party r = sha256 r.rp_id

-- the smallest record
abbrev pub blank : Rec
blank = record {
  rp_id = 0 ∷ [];
  user_id = 0 ∷ [];
  name = [];
  display_name = [];
  credential_id = replicate 32 0;
  x = replicate 32 0;
  y = replicate 32 0;
  cred_protect = 1;
}
