-- The key's block, and its pads.
use Rattle.std.proofs.Common.{◌≡◌, ℕ, ◌-◌, ◌<◌, ◌≤◌, List, [], ◌∷◌, ◌++◌, length, replicate, refl, arith}
use lib.Bits.{xor_assoc}
use borrow.Rule.Slice.PartMut.{post_of}
use Rattle.std.proofs.lemmas.List.{append-nil, drop-replicate}
use Rattle.std.proofs.lemmas.Bool.{lt-ltb, le-ltb}
use Rattle.sha256.specs.Sha256.{sha256}
use Rattle.sha256.specs.Hmac.{shortened, filled, xor, hmac}

pub shortened_long : (K : List ℕ) → 64 < length K → shortened K ≡ sha256 K
unfolding shortened
shortened_long K lt = rw (lt-ltb 64 (length K) lt)

pub shortened_short : (K : List ℕ) → length K ≤ 64 → shortened K ≡ K
unfolding shortened
shortened_short K le = rw (le-ltb 64 (length K) le)

-- the outer pad from the inner
xor-xor : (bs : List ℕ) → xor 0x6a (xor 0x36 bs) ≡ xor 0x5c bs
unfolding xor
xor-xor [] = refl
xor-xor (b ∷ bs) = rw (xor_assoc b 0x36 0x6a, xor-xor bs)

pub hmac_is : (K text k inner-pad inner outer-pad outer : List ℕ) → k ≡ filled (shortened K) → inner-pad ≡ xor 0x36 k → inner ≡ sha256 (inner-pad ++ text) → outer-pad ≡ xor 0x6a inner-pad → outer ≡ sha256 (outer-pad ++ (inner ++ [])) → outer ≡ hmac K text
unfolding hmac
hmac_is K text k inner-pad inner outer-pad outer a b c d e = rw (e, d, c, b, a, append-nil, xor-xor)

-- bytes that are laid over zeros
pub over_zeros : (bs ys zs : List ℕ) (n : ℕ) → ys ≡ bs → zs ≡ replicate n 0 → ys ++ post_of 0 (length bs - 0) zs ≡ bs ++ replicate (n - length bs) 0
over_zeros bs ys zs n e f =
    let k : length bs - 0 ≡ length bs = omega arith in
    rw (e, f, k, drop-replicate {X = ℕ} (length bs) n 0)
