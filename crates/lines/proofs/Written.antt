-- Facts on bytes as they are written, over plain numbers.
use Rattle.std.proofs.Common.{◌≡◌, ℕ, zero, suc, Result, Ok, Err, ◌+◌, ◌*◌, ◌/◌, ◌%◌, ◌<◌, true, false, ◌==◌, List, [], ◌∷◌, ◌++◌, length, get_or, take, set, Some, sym, refl, ap, ◌∙◌, ⊎_elim, append_assoc, arith}
use Rattle.std.specs.Option.{option_map}
use Rattle.std.specs.Result.{IsOk, MatchResult}
use Rattle.std.specs.Str.{IsAscii}
use Rattle.std.specs.Fmt.{digits as numeral, digits_output, styled_digits_output, padded_integral, format_spec, char_count}
use Rattle.std.proofs.lemmas.Bool.{eq-eqb, eqb-true, eqb-false, cases_Bool}
use Rattle.std.proofs.lemmas.Bool.Decides.{nat_tests}
use Rattle.std.proofs.lemmas.List.{length-set, take_more, take_more_set}
use Rattle.lines.specs.Hex.{digit, digits, encoded}

one_digit : (b : ℕ) → (b / 16 == 0) ≡ true → numeral 16 false b ≡ digit (b % 16) ∷ []
unfolding numeral
one_digit b e = rw e refl

two_digits : (b : ℕ) → (b / 16 == 0) ≡ false → (b / 16 / 16 == 0) ≡ true → numeral 16 false b ≡ digit (b / 16 % 16) ∷ digit (b % 16) ∷ []
unfolding numeral
two_digits b e f = rw (e, f) refl

-- what `{:02x}` writes of a byte
two_written : (b : ℕ) → b < 256 → padded_integral (format_spec 32 0 4 2 18446744073709551615) false [] (numeral 16 false b) ≡ digits (b ∷ [])
unfolding padded_integral char_count digits
two_written b small =
    ⊎_elim
    (λ e.
    let zero : b / 16 ≡ 0 = eqb-true _ 0 e in
    rw (one_digit b e, zero) refl)
    (λ e.
    let more = eqb-false _ 0 e in
    let last : b / 16 / 16 ≡ 0 = omega arith in
    let low : b / 16 % 16 ≡ b / 16 = omega arith in
    rw (two_digits b e (eq-eqb _ 0 last), low) refl)
    (cases_Bool (b / 16 == 0))

pub byte_written : (d : _) (s : _) (b : ℕ) → b < 256 → digits_output d ≡ Some (numeral 16 false b) → s ≡ format_spec 32 0 4 2 18446744073709551615 → styled_digits_output d s ≡ Some (encoded (b ∷ []))
unfolding encoded
byte_written d s b small radix laid =
    ap (styled_digits_output d) laid ∙ ap (option_map (padded_integral (format_spec 32 0 4 2 18446744073709551615) false [])) radix ∙ ap (λ ds. Some ds) (two_written b small)

pub digits-append : (xs ys : List ℕ) → digits (xs ++ ys) ≡ digits xs ++ digits ys
unfolding digits
digits-append [] ys = refl
digits-append (x ∷ xs) ys = ap (λ ds. digit (x / 16) ∷ digit (x % 16) ∷ ds) (digits-append xs ys)

-- a byte more has been written
pub digits_more : (bs : List ℕ) (i : ℕ) → i < length bs → digits (take i bs) ++ encoded (get_or bs i 0 ∷ []) ≡ digits (take (i + 1) bs)
unfolding encoded
digits_more bs i h = sym (digits-append (take i bs) (get_or bs i 0 ∷ [])) ∙ ap digits (sym (take_more bs i 0 h))

-- a byte's two digits are written behind those of the bytes before it
pub digits_set : (bs xs : List ℕ) (i d e : ℕ) → i < length bs → get_or bs i 0 < 256 → 2 * i + 1 < length xs → take (2 * i) xs ≡ digits (take i bs) → d ≡ digit (get_or bs i 0 / 16 % 16) → e ≡ digit (get_or bs i 0 % 16) → take (2 * (i + 1)) (set (set xs (2 * i) d) (2 * i + 1) e) ≡ digits (take (i + 1) bs)
unfolding encoded digits
digits_set bs xs i d e h small room before high low =
    let b = get_or bs i 0 in
    let whole : b / 16 % 16 ≡ b / 16 = omega arith in
    let next : 2 * (i + 1) ≡ 2 * i + 1 + 1 = omega arith in
    let one = take_more_set xs (2 * i) d (omega arith) in
    let two = take_more_set (set xs (2 * i) d) (2 * i + 1) e (omega (arith, length-set xs (2 * i) d)) in
    rw (next, two, one, before, high, whole, low) (append_assoc (digits (take i bs)) (digit (b / 16) ∷ []) (digit (b % 16) ∷ []) ∙ digits_more bs i h)

-- a digit is an ASCII character
digit_ascii : (n : ℕ) → n < 16 → digit n < 128
digit_ascii n h = grind (arith, nat_tests)

pub digits_ascii : (bs : List ℕ) → ((i : ℕ) → get_or bs i 0 < 256) → IsAscii (digits bs)
unfolding digits
digits_ascii [] h i = omega arith
digits_ascii (b ∷ bs) h zero = let small : b < 256 = h 0 in digit_ascii (b / 16) (omega arith)
digits_ascii (b ∷ bs) h (suc zero) = digit_ascii (b % 16) (omega arith)
digits_ascii (b ∷ bs) h (suc (suc i)) = digits_ascii bs (λ k. h (suc k)) i

-- a result of which an error would be absurd is no error
pub no_error : {T E : Type 0} (r : Result T E) (P : T → Type 0) (Q : E → Type 0) → MatchResult r P Q → ((e : E) → Q e → ⊥) → IsOk r
no_error (Ok x) P Q told none = refl
no_error (Err e) P Q told none = absurd (none e told)

pub digits_none : digits [] ≡ []
unfolding digits
digits_none = refl
