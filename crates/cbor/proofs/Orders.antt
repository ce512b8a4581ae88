-- The order of encoded keys, as std compares them: major type, length, bytes.
use Rattle.std.proofs.Common.{◌≡◌, ℕ, ◌/◌, ◌<◌, Bool, true, cond, eqb, ltb, List, [], ◌∷◌, length, Some, Option, Bor, refl, arith}
use Rattle.std.specs.Cmp.Lexicographic.{slice_cmp}
use Rattle.std.specs.Ordering.{nat_cmp, is_lt, ordering_then}
use Rattle.std.specs.Option.{option_cmp}
use Rattle.std.specs.declared.cmp.Ordering.{Ordering}
use Rattle.std.proofs.lemmas.Bool.Decides.{nat_tests}
use Rattle.cbor.specs.Reader.{below, precedes}
use Rattle.cbor.specs.Unread.{major_of}

-- by the first numbers, then by what is left
first_then : (m n : ℕ) (rest : Ordering) (t : Bool) → (m ≡ n → is_lt rest ≡ t) → is_lt (ordering_then (nat_cmp m n) rest) ≡ cond (eqb m n) t (ltb m n)
first_then m n rest t h = grind (arith, nat_tests)

-- strings of equal length
below_same : (xs ys : List ℕ) → length xs ≡ length ys → is_lt (slice_cmp nat_cmp xs ys) ≡ below xs ys
unfolding below
below_same [] [] h = refl
below_same [] (y ∷ ys) h = absurd (omega arith)
below_same (x ∷ xs) [] h = absurd (omega arith)
below_same (x ∷ xs) (y ∷ ys) h = first_then x y _ _ (λ _. below_same xs ys (omega arith))

two_then : (m n j k : ℕ) (rest : Ordering) (t : Bool) → (j ≡ k → is_lt rest ≡ t) → is_lt (ordering_then (ordering_then (nat_cmp m n) (nat_cmp j k)) rest) ≡ cond (eqb m n) (cond (eqb j k) t (ltb j k)) (ltb m n)
two_then m n j k rest t h = grind (arith, nat_tests)

-- keys by their ranks
ranks_lt : (a b : List ℕ) → 0 < length b → is_lt (ordering_then (ordering_then (option_cmp nat_cmp (major_of a) (major_of b)) (nat_cmp (length a) (length b))) (slice_cmp nat_cmp a b)) ≡ precedes a b
unfolding precedes
ranks_lt a [] h = absurd (omega arith)
ranks_lt [] (y ∷ ys) h = refl
ranks_lt (x ∷ xs) (y ∷ ys) h = two_then (x / 32) (y / 32) (length (x ∷ xs)) (length (y ∷ ys)) _ _ (λ e. below_same (x ∷ xs) (y ∷ ys) e)

module _ (p q : Option ℕ × ℕ × Bor (List ℕ)) (a b : List ℕ) where
  pub precedes_by_rank : p.0 ≡ major_of a → p.1 ≡ length a → p.2.now ≡ a → q.0 ≡ major_of b → q.1 ≡ length b → q.2.now ≡ b → 0 < length b → is_lt (ordering_then (ordering_then (option_cmp nat_cmp p.0 q.0) (nat_cmp p.1 q.1)) (slice_cmp nat_cmp p.2.now q.2.now)) ≡ precedes a b
  precedes_by_rank m n x j k y h = rw (m, n, x, j, k, y) (ranks_lt a b h)

pub precedes_none : (b : List ℕ) → true ≡ precedes [] b
unfolding precedes
precedes_none b = refl
