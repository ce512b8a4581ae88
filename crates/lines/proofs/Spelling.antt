-- Facts on hex text, over plain lists.
use Rattle.std.proofs.Common.{◌≡◌, ℕ, zero, suc, ◌+◌, ◌*◌, ◌/◌, ◌%◌, ◌<◌, ◌≤◌, Bool, true, false, ◌&&◌, eqb, List, [], ◌∷◌, ◌++◌, length, get_or, take, drop, lit<, add-zero, drop-drop, Some, None, codes, Option, sym, refl, ap, ◌∙◌, ⊎_elim, append_assoc, append-nil, arith}
use Rattle.std.specs.Simd.{first_chunks}
use Rattle.std.specs.Str.{bytes_eq}
use Rattle.std.proofs.lemmas.List.{drop_more, drop_all, get_or-take, get_or-drop}
use Rattle.std.proofs.lemmas.Slice.Eq.{bytes_eq-Decides}
use Rattle.std.proofs.lemmas.Bool.{cases_Bool}
use Rattle.std.proofs.lemmas.Bool.Decides.{nat_tests}
use Rattle.lines.specs.Hex.{digit, digits, encoded, value, joins, pairs, decoded}

-- what follows, behind what is there
abbrev pub after : List ℕ → Option (List ℕ) → Option (List ℕ)
after xs (Some ys) = Some (xs ++ ys)
after xs None = None

pub after_none : (o : Option (List ℕ)) → after [] o ≡ o
after_none (Some ys) = refl
after_none None = refl

pub encoded_some : (bs : List ℕ) → 0 < length bs → encoded bs ≡ digits bs
unfolding encoded
encoded_some [] h = absurd (omega arith)
encoded_some (b ∷ bs) h = refl

pub encoded_none : (bs : List ℕ) → length bs ≡ 0 → encoded bs ≡ codes "-"
unfolding encoded
encoded_none [] h = refl
encoded_none (b ∷ bs) h = absurd (omega arith)

value-digit : (n : ℕ) → n < 16 → value (digit n) ≡ Some n
value-digit n h = grind (arith, nat_tests)

digit_value : (c n : ℕ) → value c ≡ Some n → (digit n ≡ c) × (n < 16)
digit_value c n e = grind (arith, nat_tests)

and_false : (b : Bool) → (b && false) ≡ false
and_false true = refl
and_false false = refl

-- the digits of bytes spell them
pairs-digits : (bs : List ℕ) → ((i : ℕ) → get_or bs i 0 < 256) → pairs (digits bs) ≡ Some bs
unfolding pairs digits
pairs-digits [] h = refl
pairs-digits (b ∷ bs) h =
    let small : b < 256 = h 0 in
    rw (value-digit (b / 16) (omega arith), value-digit (b % 16) (omega arith), pairs-digits bs (λ i. h (suc i)))
    (ap (λ n. Some (n ∷ bs)) (let e : 16 * (b / 16) + b % 16 ≡ b = omega arith in e))

pub back_some : (bs : List ℕ) → ((i : ℕ) → get_or bs i 0 < 256) → 0 < length bs → decoded (digits bs) ≡ Some bs
unfolding decoded digits
back_some [] h n = absurd (omega arith)
back_some (b ∷ bs) h n = rw (and_false (eqb (digit (b / 16)) 45)) (pairs-digits (b ∷ bs) h)

pub back_none : (bs : List ℕ) → length bs ≡ 0 → decoded (codes "-") ≡ Some bs
unfolding decoded
back_none [] n = refl
back_none (b ∷ bs) n = absurd (omega arith)

-- the chunks of a text are its characters, two by two
chunk_at : (t : List ℕ) (n i : ℕ) (d : List ℕ) → i < n → get_or (first_chunks 2 n t) i d ≡ take 2 (drop (2 * i) t)
chunk_at t zero i d h = absurd (omega arith)
chunk_at t (suc n) zero d h = refl
chunk_at t (suc n) (suc i) d h =
    let e : 2 + 2 * i ≡ 2 * suc i = omega arith in
    chunk_at (drop 2 t) n i d (omega arith) ∙ ap (take 2) (drop-drop (2 * i) 2 t) ∙ ap (λ k. take 2 (drop k t)) e

chunk_char : (t : List ℕ) (cs : List (List ℕ)) (d : List ℕ) (i k : ℕ) → cs ≡ first_chunks 2 (length t / 2) t → i < length t / 2 → k < 2 → get_or (get_or cs i d) k 0 ≡ get_or t (2 * i + k) 0
chunk_char t cs d i k is h small =
    ap (λ xs. get_or (get_or xs i d) k 0) is ∙ ap (λ xs. get_or xs k 0) (chunk_at t (length t / 2) i d h) ∙ get_or-take 2 (drop (2 * i) t) k 0 small
    ∙ get_or-drop (2 * i) t k 0

pub chunk_high : (t : List ℕ) (cs : List (List ℕ)) (d : List ℕ) (i : ℕ) → cs ≡ first_chunks 2 (length t / 2) t → i < length t / 2 → value (get_or (get_or cs i d) 0 0) ≡ value (get_or t (2 * i) 0)
chunk_high t cs d i is h = ap value (chunk_char t cs d i 0 is h (lit< tt) ∙ ap (λ n. get_or t n 0) (add-zero (2 * i)))

pub chunk_low : (t : List ℕ) (cs : List (List ℕ)) (d : List ℕ) (i : ℕ) → cs ≡ first_chunks 2 (length t / 2) t → i < length t / 2 → value (get_or (get_or cs i d) 1 0) ≡ value (get_or t (2 * i + 1) 0)
chunk_low t cs d i is h = ap value (chunk_char t cs d i 1 is h (lit< tt))

-- a pair more is read
after-joins : (xs : List ℕ) (h l : ℕ) (o : Option (List ℕ)) → after xs (joins (Some h) (Some l) o) ≡ after (xs ++ (16 * h + l) ∷ []) o
after-joins xs h l (Some ys) = ap (λ zs. Some zs) (sym (append_assoc xs ((16 * h + l) ∷ []) ys))
after-joins xs h l None = refl

pairs_more : (t : List ℕ) (i : ℕ) → 2 * i + 1 < length t → pairs (drop (2 * i) t) ≡ joins (value (get_or t (2 * i) 0)) (value (get_or t (2 * i + 1) 0)) (pairs (drop (2 * (i + 1)) t))
unfolding pairs
pairs_more t i h =
    let e : 2 * i + 1 + 1 ≡ 2 * (i + 1) = omega arith in
    let one : 2 * i < length t = omega arith in
    rw (drop_more t (2 * i) 0 one, drop_more t (2 * i + 1) 0 h, e) refl

pub read_more : (xs ys t : List ℕ) (i h l : ℕ) → 2 * i + 1 < length t → value (get_or t (2 * i) 0) ≡ Some h → value (get_or t (2 * i + 1) 0) ≡ Some l → ys ≡ xs ++ (16 * h + l) ∷ [] → after xs (pairs (drop (2 * i) t)) ≡ decoded t → after ys (pairs (drop (2 * (i + 1)) t)) ≡ decoded t
read_more xs ys t i h l n p q e inv =
    ap (λ zs. after zs (pairs (drop (2 * (i + 1)) t))) e ∙ sym (after-joins xs h l (pairs (drop (2 * (i + 1)) t))) ∙ ap (λ a. after xs (joins a (Some l) (pairs (drop (2 * (i + 1)) t)))) (sym p) ∙ ap (λ a. after xs (joins (value (get_or t (2 * i) 0)) a (pairs (drop (2 * (i + 1)) t)))) (sym q) ∙ ap (after xs) (sym (pairs_more t i n)) ∙ inv

pub read_no_high : (xs t : List ℕ) (i : ℕ) → 2 * i + 1 < length t → value (get_or t (2 * i) 0) ≡ None → after xs (pairs (drop (2 * i) t)) ≡ decoded t → decoded t ≡ None
read_no_high xs t i n p inv =
    sym inv ∙ ap (after xs) (pairs_more t i n ∙ ap (λ a. joins a (value (get_or t (2 * i + 1) 0)) (pairs (drop (2 * (i + 1)) t))) p)

pub read_no_low : (xs t : List ℕ) (i h : ℕ) → 2 * i + 1 < length t → value (get_or t (2 * i) 0) ≡ Some h → value (get_or t (2 * i + 1) 0) ≡ None → after xs (pairs (drop (2 * i) t)) ≡ decoded t → decoded t ≡ None
read_no_low xs t i h n p q inv =
    sym inv ∙ ap (after xs) (pairs_more t i n ∙ ap (λ a. joins a (value (get_or t (2 * i + 1) 0)) (pairs (drop (2 * (i + 1)) t))) p ∙ ap (λ a. joins (Some h) a (pairs (drop (2 * (i + 1)) t))) q)

pub read_all : (xs t : List ℕ) (i : ℕ) → length t ≤ 2 * i → after xs (pairs (drop (2 * i) t)) ≡ decoded t → decoded t ≡ Some xs
unfolding pairs
read_all xs t i n inv = sym inv ∙ ap (λ zs. after xs (pairs zs)) (drop_all (2 * i) t n) ∙ ap (λ zs. Some zs) (append-nil xs)

-- a text that is no dash
pub read_none : (t : List ℕ) → 0 < length t → (t ≡ codes "-" → ⊥) → after [] (pairs t) ≡ decoded t
unfolding decoded
read_none [] n d = absurd (omega arith)
read_none (c ∷ cs) n d = rw (apart (c ∷ cs) d) (after_none (pairs (c ∷ cs)))
  where
    apart : (t : List ℕ) → (t ≡ codes "-" → ⊥) → bytes_eq t (codes "-") ≡ false
    apart t d = ⊎_elim (λ e. absurd (d ((bytes_eq-Decides t (codes "-")).0 e))) (λ e. e) (cases_Bool (bytes_eq t (codes "-")))

-- what a comparison with a dash says
pub is_dash : (t d : List ℕ) (r : Bool) → r ≡ bytes_eq t d → d ≡ codes "-" → r ≡ true → t ≡ codes "-"
is_dash t d r e f is = (bytes_eq-Decides t d).0 (sym e ∙ is) ∙ f

pub no_dash : (t d : List ℕ) (r : Bool) → r ≡ bytes_eq t d → d ≡ codes "-" → r ≡ false → t ≡ codes "-" → ⊥
no_dash t d r e f apart is = let z : true ≡ false = sym ((bytes_eq-Decides t d).1 (is ∙ sym f)) ∙ sym e ∙ apart in cc

pub read_dash : (t xs : List ℕ) → t ≡ codes "-" → xs ≡ [] → decoded t ≡ Some xs
unfolding decoded
read_dash t xs e f = rw (e, f) refl

pub read-empty : (t : List ℕ) → length t ≡ 0 → decoded t ≡ None
unfolding decoded
read-empty [] n = refl
read-empty (c ∷ cs) n = absurd (omega arith)

pairs_odd : (t : List ℕ) → length t % 2 ≡ 1 → pairs t ≡ None
unfolding pairs
pairs_odd [] n = absurd (omega arith)
pairs_odd (c ∷ []) n = refl
pairs_odd (h ∷ l ∷ rest) n = rw (pairs_odd rest (omega arith)) (no-rest (value h) (value l))
  where
    no-rest : (a b : Option ℕ) → joins a b None ≡ None
    no-rest (Some h) (Some l) = refl
    no-rest (Some h) None = refl
    no-rest None b = refl

pub read_odd : (t : List ℕ) → length t % 2 ≡ 1 → (t ≡ codes "-" → ⊥) → decoded t ≡ None
read_odd t n d = sym (read_none t (omega arith) d) ∙ ap (after []) (pairs_odd t n)

-- what a text spells has that text
joins_parts : (a b : Option ℕ) (o : Option (List ℕ)) (bs : List ℕ) → joins a b o ≡ Some bs → (x : ℕ) × (y : ℕ) × (ys : List ℕ) × (a ≡ Some x) × (b ≡ Some y) × (o ≡ Some ys) × (bs ≡ (16 * x + y) ∷ ys)
joins_parts (Some x) (Some y) (Some ys) bs e = (x, y, ys, refl, refl, refl, cc)
joins_parts (Some x) (Some y) None bs e = absurd (let z : ◌≡◌ {A = ℕ} 0 1 = cc in omega arith)
joins_parts (Some x) None o bs e = absurd (let z : ◌≡◌ {A = ℕ} 0 1 = cc in omega arith)
joins_parts None b o bs e = absurd (let z : ◌≡◌ {A = ℕ} 0 1 = cc in omega arith)

digits-pairs : (t bs : List ℕ) → pairs t ≡ Some bs → digits bs ≡ t
unfolding pairs digits
digits-pairs [] bs e = let none : bs ≡ [] = cc in rw none refl
digits-pairs (c ∷ []) bs e = absurd (let z : ◌≡◌ {A = ℕ} 0 1 = cc in omega arith)
digits-pairs (h ∷ l ∷ rest) bs e =
    let p = joins_parts (value h) (value l) (pairs rest) bs e in
    let x = p.0 in
    let y = p.1 in
    let hi = digit_value h x p.3 in
    let lo = digit_value l y p.4 in
    let q : (16 * x + y) / 16 ≡ x = omega (arith, lo.1) in
    let m : (16 * x + y) % 16 ≡ y = omega (arith, lo.1) in
    let ih = digits-pairs rest p.2 p.5 in
    rw (p.6, q, m, hi.0, lo.0, ih) refl

-- the text of bytes spells them
pub back : (bs : List ℕ) → ((i : ℕ) → get_or bs i 0 < 256) → decoded (encoded bs) ≡ Some bs
unfolding encoded
back [] h = back_none [] refl
back (b ∷ bs) h = back_some (b ∷ bs) h (omega arith)

pub spells : (t bs : List ℕ) → decoded t ≡ Some bs → encoded bs ≡ t
unfolding decoded encoded digits
spells [] bs e = absurd (let z : ◌≡◌ {A = ℕ} 0 1 = cc in omega arith)
spells (c ∷ cs) bs e =
    ⊎_elim
    (λ y.
    let none : bs ≡ [] = (let f : Some [] ≡ Some bs = rw y at e in cc) in
    rw none (sym ((bytes_eq-Decides (c ∷ cs) (codes "-")).0 y)))
    (λ n.
    let f : pairs (c ∷ cs) ≡ Some bs = rw n at e in
    let g = digits-pairs (c ∷ cs) bs f in
    encoded_some bs (longer bs g) ∙ g)
    (cases_Bool (bytes_eq (c ∷ cs) (codes "-")))
  where
    longer : (bs : List ℕ) → digits bs ≡ c ∷ cs → 0 < length bs
    longer [] g = absurd (let z : ◌≡◌ {A = ℕ} 0 1 = cc in omega arith)
    longer (b ∷ bs) g = omega arith
