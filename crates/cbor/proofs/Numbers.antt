-- The number that an argument's bytes stand for, read as eight bytes with zeros before them.
use Rattle.std.proofs.Common.{◌≡◌, ℕ, zero, suc, ◌+◌, ◌-◌, ◌≤◌, ◌*◌, Bool, true, false, cond, leb, List, [], ◌∷◌, ◌++◌, reverse, replicate, length, take, Some, None, Option, refl, ap, ◌∙◌, append-nil, w64, arith, length-append}
use borrow.Rule.Slice.PartMut.{put_mid}
use Rattle.std.specs.Bool.{then_some}
use Rattle.std.specs.List.{slice_range}
use Rattle.std.specs.Int.{from_be_bytes}
use Rattle.std.proofs.lemmas.Bool.{le-leb}
use Rattle.std.proofs.lemmas.Grind.{reverse_onto}
use Rattle.std.proofs.lemmas.List.{take-replicate, drop-replicate, length-replicate, length-take-le}
use Rattle.cbor.specs.declared.reading.Argument as code
use Rattle.cbor.specs.Head.{little_endian, big_endian, following}
use Rattle.cbor.specs.Unread.{argument_told}

-- eight bytes, as the machine reads them
eight : (bs : List ℕ) → length bs ≡ 8 → from_be_bytes w64 bs ≡ big_endian bs
unfolding big_endian
eight [] l = absurd (omega arith)
eight (a ∷ []) l = absurd (omega arith)
eight (a ∷ b ∷ []) l = absurd (omega arith)
eight (a ∷ b ∷ c ∷ []) l = absurd (omega arith)
eight (a ∷ b ∷ c ∷ d ∷ []) l = absurd (omega arith)
eight (a ∷ b ∷ c ∷ d ∷ e ∷ []) l = absurd (omega arith)
eight (a ∷ b ∷ c ∷ d ∷ e ∷ f ∷ []) l = absurd (omega arith)
eight (a ∷ b ∷ c ∷ d ∷ e ∷ f ∷ g ∷ []) l = absurd (omega arith)
eight (a ∷ b ∷ c ∷ d ∷ e ∷ f ∷ g ∷ h ∷ []) l = omega arith
eight (a ∷ b ∷ c ∷ d ∷ e ∷ f ∷ g ∷ h ∷ x ∷ bs) l = absurd (omega arith)

little_zero : (ds : List ℕ) → little_endian (ds ++ 0 ∷ []) ≡ little_endian ds
little_zero [] = refl
little_zero (d ∷ ds) = ap (λ n. d + 256 * n) (little_zero ds)

-- zeros before the digits change nothing
big_zeros : (k : ℕ) (ds : List ℕ) → big_endian (replicate k 0 ++ ds) ≡ big_endian ds
unfolding big_endian
big_zeros zero ds = refl
big_zeros (suc k) ds =
    ap little_endian (reverse_onto (replicate k 0 ++ ds) 0 []) ∙ little_zero (reverse (replicate k 0 ++ ds)) ∙ big_zeros k ds

module _ (w : ℕ) (few : w ≤ 8) (ds : List ℕ) (long : length ds ≡ w) where
  written : put_mid (8 - w) (8 - (8 - w)) (replicate 8 0) ds ≡ replicate (8 - w) 0 ++ ds
  written =
      let all : 8 - (8 - w) ≡ w = omega arith in
      let none : w - w ≡ 0 = omega arith in
      rw (take-replicate {X = ℕ} (8 - w) 8 0 (omega arith), drop-replicate {X = ℕ} (8 - w) 8 0, all, drop-replicate {X = ℕ} w w 0, none, append-nil ds) refl

  pub padded : from_be_bytes w64 (put_mid (8 - w) (8 - (8 - w)) (replicate 8 0) ds) ≡ big_endian ds
  padded =
      rw written (eight (replicate (8 - w) 0 ++ ds) (omega (arith, length-append (replicate (8 - w) 0) ds, length-replicate {A = ℕ} (8 - w) 0)) ∙ big_zeros (8 - w) ds)

told_some : (b : Bool) (n w : ℕ) → argument_told (then_some b (record { value = n; width = w })) ≡ cond b (Some (record { value = n; width = w })) None
told_some true n w = refl
told_some false n w = refl

pub number_follows : (w least n : ℕ) (bs ds new : List ℕ) (o : Option code.Argument) → w ≤ 8 → w ≤ length bs → ds ≡ slice_range bs 0 w → new ≡ ds → n ≡ from_be_bytes w64 (put_mid (8 - w) (8 - (8 - w)) (replicate 8 0) new) → o ≡ then_some (leb least n) (record { value = n; width = w }) → argument_told o ≡ following w least bs
unfolding following
number_follows w least n bs ds new o few enough front same is e =
    let all : w - 0 ≡ w = omega arith in
    let value : n ≡ big_endian (take w bs) = is ∙ rw (same, front, all) (padded w few (take w bs) (length-take-le w bs enough)) in
    rw (e, le-leb w (length bs) enough, ← value) (told_some (leb least n) n w)
