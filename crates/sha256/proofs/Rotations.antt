-- The library's rotation is the standard's.
use Rattle.std.proofs.Common.{◌≡◌, ℕ, zero, suc, ◌-◌, ◌*◌, ◌/◌, ◌%◌, ◌^◌, ◌<◌, sym, ◌∙◌, arith}
use Rattle.std.specs.Int.{rotate_right, w32}
use Rattle.std.specs.Int.Bits.{or_self, or_zero_r}
use Rattle.sha256.specs.Sha256.{ROTR}

pub rotated : (n x : ℕ) → n < 32 → x < 2 ^ 32 → rotate_right w32 x n ≡ ROTR n x
rotated zero x lt fits =
    let a : x / 1 ≡ x = omega arith in
    let b : x * 1 % 2 ^ 32 ≡ x = omega arith in
    let c : x * 2 ^ 32 % 2 ^ 32 ≡ 0 = omega arith in
    rw (a, b, c) (or_self x ∙ sym (or_zero_r x))
rotated (suc n) x lt fits =
    let a : suc n % 32 ≡ suc n = omega arith in
    let b : (32 - suc n) % 32 ≡ 32 - suc n = omega arith in
    rw (a, b)
