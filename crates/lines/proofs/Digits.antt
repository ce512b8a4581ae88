-- Facts on decimal text, over plain lists.
use Rattle.std.proofs.Common.{◌≡◌, ℕ, ◌+◌, ◌-◌, ◌*◌, ◌<◌, ◌≤◌, true, false, List, [], ◌∷◌, length, get_or, drop, Some, None, refl, ◌∙◌, arith}
use Rattle.std.proofs.lemmas.List.{drop_more, drop_all}
use Rattle.std.proofs.lemmas.Bool.{le-leb, lt-leb, cond-false, and_right}
use Rattle.lines.specs.Decimal.{is_digit, all_digits, total, follows, numbered}

-- more digits make no less
total_grows : (n : ℕ) (cs : List ℕ) → n ≤ total n cs
unfolding total
total_grows n [] = omega arith
total_grows n (c ∷ cs) = omega (arith, total_grows (10 * n + (c - 48)) cs)

pub digit_more : (m n d : ℕ) (t : List ℕ) (i : ℕ) → i < length t → is_digit (get_or t i 0) ≡ true → d ≡ get_or t i 0 - 48 → follows m n (drop i t) ≡ follows m (10 * n + d) (drop (i + 1) t)
unfolding follows all_digits total
digit_more m n d t i h digit e = rw (e, drop_more t i 0 h, digit) refl

pub digit_none : (m n : ℕ) (t : List ℕ) (i : ℕ) → i < length t → is_digit (get_or t i 0) ≡ false → follows m n (drop i t) ≡ None
unfolding follows all_digits
digit_none m n t i h e = rw (drop_more t i 0 h, e) refl

pub digit_past : (m n : ℕ) (cs : List ℕ) → m < n → follows m n cs ≡ None
unfolding follows
digit_past m n cs h =
    cond-false _ _ _ (and_right (all_digits cs) _ (lt-leb (total n cs) m (omega (arith, total_grows n cs))))

-- a digit more is too many
pub digit_over : (m n d : ℕ) (t : List ℕ) (i : ℕ) → i < length t → is_digit (get_or t i 0) ≡ true → d ≡ get_or t i 0 - 48 → m < 10 * n + d → follows m n (drop i t) ≡ None
digit_over m n d t i h digit e more = digit_more m n d t i h digit e ∙ digit_past m (10 * n + d) _ more

pub digit_all : (m n : ℕ) (t : List ℕ) (i : ℕ) → length t ≤ i → n ≤ m → follows m n (drop i t) ≡ Some n
unfolding follows all_digits total
digit_all m n t i h small = rw (drop_all i t h, le-leb n m small) refl

pub numbered_some : (m : ℕ) (t : List ℕ) → 0 < length t → follows m 0 t ≡ numbered m t
unfolding numbered
numbered_some m [] h = absurd (omega arith)
numbered_some m (c ∷ cs) h = refl

pub numbered_none : (m : ℕ) (t : List ℕ) → length t ≡ 0 → numbered m t ≡ None
unfolding numbered
numbered_none m [] h = refl
numbered_none m (c ∷ cs) h = absurd (omega arith)
