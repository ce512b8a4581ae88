-- The shortest head: what is written is read again, and what is read was written so.
use Rattle.std.proofs.Common.{◌≡◌, ℕ, zero, suc, ◌+◌, ◌*◌, ◌/◌, ◌%◌, ◌^◌, ◌<◌, ◌≤◌, Bool, true, false, cond, leb, List, [], ◌∷◌, ◌++◌, reverse, length, take, drop, Some, None, Option, sym, refl, ap, ◌∙◌, subst, ⊎_elim, arith, length-append}
use mathlib.Core.List.{reverse_aux}
use Rattle.std.proofs.lemmas.List.{take_at, length-reverse, reverse-reverse, length-take-le}
use Rattle.std.proofs.lemmas.Bool.{le-leb, lt-ltb, le-ltb, cases_lt, cases_eq, leb-true}
use Rattle.cbor.specs.Head.{Argument, argument, following, big_endian, little_endian}
use Rattle.cbor.specs.Grammar.{digits, head}
use Rattle.cbor.proofs.Heads.{argument_low, argument_reserved}

-- a list of bytes
abbrev pub Bytes : List ℕ → Type 0
Bytes [] = Unit {0}
Bytes (b ∷ bs) = (b < 256) × Bytes bs

pub bytes_take : (w : ℕ) (bs : List ℕ) → Bytes bs → Bytes (take w bs)
bytes_take zero bs h = tt
bytes_take (suc w) [] h = tt
bytes_take (suc w) (b ∷ bs) h = (h.0, bytes_take w bs h.1)

pub bytes_drop : (w : ℕ) (bs : List ℕ) → Bytes bs → Bytes (drop w bs)
bytes_drop zero bs h = h
bytes_drop (suc w) [] h = tt
bytes_drop (suc w) (b ∷ bs) h = bytes_drop w bs h.1

bytes-reverse_aux : (bs rest : List ℕ) → Bytes bs → Bytes rest → Bytes (reverse_aux bs rest)
bytes-reverse_aux [] rest h k = k
bytes-reverse_aux (b ∷ bs) rest h k = bytes-reverse_aux bs (b ∷ rest) h.1 (h.0, k)

-- n has at most w digits in base 256
abbrev Below : ℕ → ℕ → Type 0
Below zero n = n ≡ 0
Below (suc w) n = Below w (n / 256)

length_digits : (w n : ℕ) → length (digits w n) ≡ w
length_digits zero n = refl
length_digits (suc w) n = ap suc (length_digits w (n / 256))

read-digits : (w n : ℕ) → Below w n → little_endian (digits w n) ≡ n
read-digits zero n e = sym e
read-digits (suc w) n b = let e = read-digits w (n / 256) b in omega arith

quotient : (d n : ℕ) → d < 256 → (d + 256 * n) / 256 ≡ n
quotient d n h = omega arith

remainder : (d n : ℕ) → d < 256 → (d + 256 * n) % 256 ≡ d
remainder d n h = omega arith

write-digits : (ds : List ℕ) → Bytes ds → digits (length ds) (little_endian ds) ≡ ds
write-digits [] h = refl
write-digits (d ∷ ds) h =
    rw (quotient d (little_endian ds) h.0, remainder d (little_endian ds) h.0) (ap (λ l. d ∷ l) (write-digits ds h.1))

few-digits : (ds : List ℕ) → Bytes ds → Below (length ds) (little_endian ds)
few-digits [] h = refl
few-digits (d ∷ ds) h = subst (Below (length ds)) (sym (quotient d (little_endian ds) h.0)) (few-digits ds h.1)

-- a head as it is read
pub record Headed (major n : ℕ) : Type 0 where
  pub initial : ℕ
  pub behind : List ℕ
  pub is : head major n ≡ initial ∷ behind
  pub type : initial / 32 ≡ major
  pub reads : (rest : List ℕ) → argument (initial % 32) (behind ++ rest) ≡ Some (record { value = n; width = length behind })

-- a head with an argument of w bytes
module _ (info w least : ℕ) (announces : (bs : List ℕ) → following w least bs ≡ argument info bs) (small : info < 32) where
  whole : (n : ℕ) (rest : List ℕ) → Below w n → least ≤ n → argument info (reverse (digits w n) ++ rest) ≡ Some (record { value = n; width = length (reverse (digits w n)) })
  unfolding following big_endian
  whole n rest b l =
      let long : length (reverse (digits w n)) ≡ w = length-reverse (digits w n) ∙ length_digits w n in
      let fits : leb w (length (reverse (digits w n) ++ rest)) ≡ true = le-leb _ _ (omega (arith, length-append (reverse (digits w n)) rest)) in
      let value : little_endian (reverse (reverse (digits w n))) ≡ n = ap little_endian (reverse-reverse (digits w n)) ∙ read-digits w n b in
      sym (announces (reverse (digits w n) ++ rest)) ∙ rw (fits, take_at (reverse (digits w n)) rest w long, value, le-leb least n l, long) refl

  pub wide : (major n : ℕ) → head major n ≡ (32 * major + info) ∷ reverse (digits w n) → Below w n → least ≤ n → Headed major n
  wide major n e b l =
      let type : (32 * major + info) / 32 ≡ major = omega arith in
      let low : (32 * major + info) % 32 ≡ info = omega arith in
      record { initial = 32 * major + info; behind = reverse (digits w n); is = e; type = type; reads = λ rest. rw low (whole n rest b l) }

pub headed : (major n : ℕ) → n < 2 ^ 64 → Headed major n
unfolding head argument
headed major n h =
    ⊎_elim (λ l. low l) (λ g0. ⊎_elim
    (λ l. wide 24 1 24 (λ bs. refl) (omega arith) major n (rw (le-ltb n 24 g0, lt-ltb n 256 l) refl) (omega arith) (omega arith)) (λ g1. ⊎_elim
    (λ l. wide 25 2 256 (λ bs. refl) (omega arith) major n (rw (le-ltb n 24 g0, le-ltb n 256 g1, lt-ltb n 65536 l) refl) (omega arith) (omega arith)) (λ g2. ⊎_elim
    (λ l. wide 26 4 65536 (λ bs. refl) (omega arith) major n (rw (le-ltb n 24 g0, le-ltb n 256 g1, le-ltb n 65536 g2, lt-ltb n 4294967296 l) refl) (omega arith) (omega arith))
    (λ g3. wide 27 8 4294967296 (λ bs. refl) (omega arith) major n (rw (le-ltb n 24 g0, le-ltb n 256 g1, le-ltb n 65536 g2, le-ltb n 4294967296 g3) refl) (omega arith) (omega arith))
    (cases_lt n 4294967296)) (cases_lt n 65536)) (cases_lt n 256)) (cases_lt n 24)
  where
    low : n < 24 → Headed major n
    low l =
        let type : (32 * major + n) / 32 ≡ major = omega arith in
        let info : (32 * major + n) % 32 ≡ n = omega arith in
        record { initial = 32 * major + n; behind = []; is = rw (lt-ltb n 24 l) refl; type = type; reads = λ rest. rw info (sym (argument_low n rest l)) }

-- an argument of w bytes that was read
pub record Followed (w least : ℕ) (bs : List ℕ) (a : Argument) : Type 0 where
  pub within : w ≤ length bs
  pub least_is : least ≤ a.value
  pub value_is : a.value ≡ big_endian (take w bs)
  pub width_is : a.width ≡ w

-- where two tests let something through, both held
pub both_hold : {A : Type 0} (x y : Bool) (o : Option A) (a : A) → cond x (cond y o None) None ≡ Some a → (x ≡ true) × (y ≡ true) × (o ≡ Some a)
both_hold true true o a e = (refl, refl, e)
both_hold true false o a e = cc
both_hold false y o a e = cc

followed : (w least : ℕ) (bs : List ℕ) (a : Argument) → following w least bs ≡ Some a → Followed w least bs a
unfolding following
followed w least bs a e =
    let h = both_hold (leb w (length bs)) (leb least (big_endian (take w bs))) _ a e in
    let o = h.2 in
    let v : a.value ≡ big_endian (take w bs) = cc in
    let i : a.width ≡ w = cc in
    record { within = leb-true _ _ h.0; least_is = rw v (leb-true _ _ h.1); value_is = v; width_is = i }

-- the bytes of an argument are its digits
module _ (w : ℕ) (bs : List ℕ) (within : w ≤ length bs) (each : Bytes bs) where
  ds : List ℕ
  ds = reverse (take w bs)

  long : length ds ≡ w
  unfolding ds
  long = length-reverse (take w bs) ∙ length-take-le w bs within

  fine : Bytes ds
  unfolding ds
  fine = bytes-reverse_aux (take w bs) [] (bytes_take w bs each) tt

  pub respelled : reverse (digits w (big_endian (take w bs))) ≡ take w bs
  unfolding big_endian ds
  respelled =
      ap (λ k. reverse (digits k (little_endian ds))) (sym long) ∙ ap reverse (write-digits ds fine) ∙ reverse-reverse (take w bs)

  pub bounded : Below w (big_endian (take w bs))
  unfolding big_endian ds
  bounded = subst (λ k. Below k (little_endian ds)) long (few-digits ds fine)

-- a head that was read
pub record Written (b : ℕ) (bs : List ℕ) (a : Argument) : Type 0 where
  pub fits : a.value < 2 ^ 64
  pub within : a.width ≤ length bs
  pub is : head (b / 32) a.value ≡ b ∷ take a.width bs

module _ (b : ℕ) (bs : List ℕ) (a : Argument) (each : Bytes bs) where
  long-written : (info w least : ℕ) → b % 32 ≡ info → following w least bs ≡ Some a → ((n : ℕ) → Below w n → least ≤ n → (n < 2 ^ 64) × (head (b / 32) n ≡ (32 * (b / 32) + info) ∷ reverse (digits w n))) → Written b bs a
  long-written info w least low e form =
      let f = followed w least bs a e in
      let k = form a.value (rw f.value_is (bounded w bs f.within each)) f.least_is in
      let initial : 32 * (b / 32) + info ≡ b = omega arith in
      record {
        fits = k.0;
        within = omega (arith, f.width_is, f.within);
        is = k.1 ∙ rw (initial, f.value_is, respelled w bs f.within each, f.width_is) refl;
      }

  none_written : None ≡ Some a → Written b bs a
  none_written p = cc

  pub written : argument (b % 32) bs ≡ Some a → Written b bs a
  unfolding head argument
  written e =
      ⊎_elim (λ l. low l) (λ g0.
      ⊎_elim (λ i. long-written 24 1 24 i (announced i) (λ n u l. let h : n < 256 = omega arith in (omega arith, rw (le-ltb n 24 l, lt-ltb n 256 h) refl))) (λ n24.
      ⊎_elim (λ i. long-written 25 2 256 i (announced i) (λ n u l. let h : n < 65536 = omega arith in let k : 24 ≤ n = omega arith in (omega arith, rw (le-ltb n 24 k, le-ltb n 256 l, lt-ltb n 65536 h) refl))) (λ n25.
      ⊎_elim (λ i. long-written 26 4 65536 i (announced i) (λ n u l. let h : n < 4294967296 = omega arith in let k : 24 ≤ n = omega arith in let k' : 256 ≤ n = omega arith in (omega arith, rw (le-ltb n 24 k, le-ltb n 256 k', le-ltb n 65536 l, lt-ltb n 4294967296 h) refl))) (λ n26.
      ⊎_elim (λ i. long-written 27 8 4294967296 i (announced i) (λ n u l. let k : 24 ≤ n = omega arith in let k' : 256 ≤ n = omega arith in let k'' : 65536 ≤ n = omega arith in (omega arith, rw (le-ltb n 24 k, le-ltb n 256 k', le-ltb n 65536 k'', le-ltb n 4294967296 l) refl))) (λ n27.
      none_written (argument_reserved (b % 32) bs (omega arith) ∙ e))
      (cases_eq (b % 32) 27)) (cases_eq (b % 32) 26)) (cases_eq (b % 32) 25)) (cases_eq (b % 32) 24)) (cases_lt (b % 32) 24)
    where
      announced : {info : ℕ} → b % 32 ≡ info → argument info bs ≡ Some a
      announced i = sym (ap (λ k. argument k bs) i) ∙ e

      low : b % 32 < 24 → Written b bs a
      low l =
          let p = argument_low (b % 32) bs l ∙ e in
          let v : a.value ≡ b % 32 = cc in
          let i : a.width ≡ 0 = cc in
          let m : a.value < 24 = omega arith in
          let initial : 32 * (b / 32) + a.value ≡ b = omega arith in
          record { fits = omega arith; within = omega arith; is = rw (lt-ltb a.value 24 m, initial, i) refl }
