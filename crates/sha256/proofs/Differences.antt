-- Differences of bytes that are gathered by `|` and `^`.
use Rattle.std.proofs.Common.{◌≡◌, ℕ, Bool, ◌&&◌, eqb, List, [], ◌∷◌, length, Decides, sym, ◌∙◌, arith}
use lib.Bits.{bit_or, bit_xor, or_add_and, xor_add_and, xor_self}
use Rattle.std.specs.List.{fold, zip}
use Rattle.std.specs.Str.{bytes_eq}
use Rattle.std.proofs.lemmas.Nat.{and_le_l, and_le_r}
use Rattle.std.proofs.Math.Bool.{and_assoc, and-true}
use Rattle.std.proofs.lemmas.Bool.Decides.{nat_tests}
use Rattle.std.proofs.lemmas.Slice.Eq.{bytes_eq-Decides}

-- no difference is gathered where there was none and the bytes are equal
none-gathered : (d x y : ℕ) → eqb (bit_or d (bit_xor x y)) 0 ≡ (eqb d 0 && eqb x y)
none-gathered d x y = grind (arith, nat_tests, or_add_and d (bit_xor x y), xor_add_and x y, and_le_l d (bit_xor x y), and_le_r d (bit_xor x y), and_le_l x y, and_le_r x y, xor_self x)

-- the differences of two strings of one length
pub same_fold : (d : ℕ) (xs ys : List ℕ) → length xs ≡ length ys → eqb (fold (λ e p. bit_or e (bit_xor p.0 p.1)) d (zip xs ys)) 0 ≡ (eqb d 0 && bytes_eq xs ys)
same_fold d [] [] e = sym (and-true (eqb d 0))
same_fold d [] (y ∷ ys) e = cc
same_fold d (x ∷ xs) [] e = cc
same_fold d (x ∷ xs) (y ∷ ys) e = same_fold (bit_or d (bit_xor x y)) xs ys (omega arith) ∙ rw none-gathered (and_assoc (eqb d 0) (eqb x y) (bytes_eq xs ys))

-- what the comparison answers decides equality
pub same_decides : (r : Bool) (a b : List ℕ) → r ≡ bytes_eq a b → Decides r (a ≡ b)
same_decides r a b e = rw e (bytes_eq-Decides a b)
