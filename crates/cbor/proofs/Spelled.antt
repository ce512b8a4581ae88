-- One item, read and written: head and string.
use Rattle.std.proofs.Common.{◌≡◌, ℕ, suc, ◌+◌, ◌/◌, ◌%◌, ◌^◌, ◌<◌, ◌≤◌, eqb, ltb, leb, List, [], ◌∷◌, ◌++◌, length, take, drop, IfSome, Some, None, Option, sym, refl, ap, ◌∙◌, subst, ⊎_elim, append_assoc, arith, length-append, take-append-drop}
use Rattle.std.proofs.lemmas.List.{take_at, drop_at, drop-drop, length-take-le}
use Rattle.std.proofs.lemmas.Bool.{le-leb, cond_both, cases_eq, leb-true, ltb-true, eqb-true}
use Rattle.cbor.specs.Steps.{given}
use Rattle.cbor.specs.Head.{Argument, argument}
use Rattle.cbor.specs.Reader.{Said, number, negative, bytes, text, array, map, simple, Token, token, by_major, string, simple_at, string_size}
use Rattle.cbor.specs.Grammar.{head, spelled, FineSaid}
use Rattle.cbor.proofs.Heads.{argument_low}
use Rattle.cbor.proofs.Shortest.{Bytes, headed, Written, written}

-- a head is read, and then what lies behind it
token-head : (major n : ℕ) (rest : List ℕ) (s : Said) → n < 2 ^ 64 → ((info : ℕ) → by_major major info n rest ≡ Some s) → token (head major n ++ rest) ≡ Some (record { said = s; size = length (head major n) + string_size s })
unfolding token given
token-head major n rest s fits says =
    let h = headed major n fits in
    rw (h.is, h.reads rest, h.type, drop_at h.behind rest (length h.behind) refl, says (h.initial % 32))
    (ap (λ k. Some (record { said = s; size = k })) (omega arith))

string_whole : (kind : List ℕ → Said) (bs rest : List ℕ) → string kind (length bs) (bs ++ rest) ≡ Some (kind bs)
unfolding string
string_whole kind bs rest =
    let l : length bs ≤ length (bs ++ rest) = omega (arith, length-append bs rest) in
    rw (le-leb (length bs) (length (bs ++ rest)) l, take_at bs rest (length bs) refl) refl

token-string : (kind : List ℕ → Said) (major : ℕ) (bs rest : List ℕ) → length bs < 2 ^ 64 → string_size (kind bs) ≡ length bs → ((info : ℕ) → by_major major info (length bs) (bs ++ rest) ≡ string kind (length bs) (bs ++ rest)) → token ((head major (length bs) ++ bs) ++ rest) ≡ Some (record { said = kind bs; size = length (head major (length bs) ++ bs) })
token-string kind major bs rest fits size says =
    ap token (append_assoc (head major (length bs)) bs rest)
    ∙ token-head major (length bs) (bs ++ rest) (kind bs) fits (λ info. says info ∙ string_whole kind bs rest)
    ∙ ap (λ k. Some (record { said = kind bs; size = k })) (omega (arith, length-append (head major (length bs)) bs))

token-simple : (n : ℕ) → (20 ≤ n) × (n ≤ 22) → (rest : List ℕ) → token ((224 + n) ∷ rest) ≡ Some (record { said = simple n; size = 1 })
unfolding token given argument by_major simple_at
token-simple n h rest =
    ⊎_elim (λ e. rw e refl) (λ n20. ⊎_elim (λ e. rw e refl) (λ n21. let e : n ≡ 22 = omega arith in rw e refl) (cases_eq n 21)) (cases_eq n 20)

-- what is written is read
pub token_complete : (s : Said) → FineSaid s → (rest : List ℕ) → token (spelled s ++ rest) ≡ Some (record { said = s; size = length (spelled s) })
unfolding by_major
token_complete (number n) h rest = token-head 0 n rest (number n) h (λ info. refl) ∙ ap (λ k. Some (record { said = number n; size = k })) (omega arith)
token_complete (negative n) h rest = token-head 1 n rest (negative n) h (λ info. refl) ∙ ap (λ k. Some (record { said = negative n; size = k })) (omega arith)
token_complete (bytes bs) h rest = token-string bytes 2 bs rest h refl (λ info. refl)
token_complete (text bs) h rest = token-string text 3 bs rest h refl (λ info. refl)
token_complete (array n) h rest = token-head 4 n rest (array n) h (λ info. refl) ∙ ap (λ k. Some (record { said = array n; size = k })) (omega arith)
token_complete (map n) h rest = token-head 5 n rest (map n) h (λ info. refl) ∙ ap (λ k. Some (record { said = map n; size = k })) (omega arith)
token_complete (simple n) h rest = token-simple n h rest

-- what an item says of its head
Says : ℕ → ℕ → ℕ → List ℕ → Said → Type 0
Says major info n rest (number m) = (major ≡ 0) × (m ≡ n)
Says major info n rest (negative m) = (major ≡ 1) × (m ≡ n)
Says major info n rest (bytes bs) = (major ≡ 2) × (n ≤ length rest) × (bs ≡ take n rest)
Says major info n rest (text bs) = (major ≡ 3) × (n ≤ length rest) × (bs ≡ take n rest)
Says major info n rest (array m) = (major ≡ 4) × (m ≡ n)
Says major info n rest (map m) = (major ≡ 5) × (m ≡ n)
Says major info n rest (simple m) = (major ≡ 7) × (m ≡ info) × (20 ≤ info) × (info ≤ 22)

says_cases : (major info n : ℕ) (rest : List ℕ) → IfSome (by_major major info n rest) (Says major info n rest)
unfolding by_major string simple_at Says
says_cases major info n rest =
    let P : Option Said → Type 0 = λ o. IfSome o (Says major info n rest) in
    cond_both (eqb major 0) _ _ P (λ e. (eqb-true _ _ e, refl)) (λ _.
    cond_both (eqb major 1) _ _ P (λ e. (eqb-true _ _ e, refl)) (λ _.
    cond_both (eqb major 2) _ _ P (λ e. cond_both (leb n (length rest)) _ _ P (λ l. (eqb-true _ _ e, leb-true _ _ l, refl)) (λ _. tt)) (λ _.
    cond_both (eqb major 3) _ _ P (λ e. cond_both (leb n (length rest)) _ _ P (λ l. (eqb-true _ _ e, leb-true _ _ l, refl)) (λ _. tt)) (λ _.
    cond_both (eqb major 4) _ _ P (λ e. (eqb-true _ _ e, refl)) (λ _.
    cond_both (eqb major 5) _ _ P (λ e. (eqb-true _ _ e, refl)) (λ _.
    cond_both (eqb major 7) _ _ P (λ e. cond_both (leb 20 info) _ _ P (λ l. cond_both (ltb info 23) _ _ P (λ m. (eqb-true _ _ e, refl, leb-true _ _ l, omega (arith, ltb-true _ _ m))) (λ _. tt)) (λ _. tt)) (λ _. tt)))))))

pub given_some : {A B : Type 0} (o : Option A) (go : A → Option B) (b : B) → given o go ≡ Some b → (a : A) × (o ≡ Some a) × (go a ≡ Some b)
unfolding given
given_some None go b e = cc
given_some (Some a) go b e = (a, refl, e)

-- an item that was read, as it is written
pub record Spelled (us : List ℕ) (t : Token) : Type 0 where
  pub fine : FineSaid t.said
  pub size_is : t.size ≡ length (spelled t.said)
  pub is : us ≡ spelled t.said ++ drop t.size us

module _ (b : ℕ) (bs : List ℕ) (a : Argument) (w : Written b bs a) where
  -- an item that is a head alone
  plain : (s : Said) (major : ℕ) → b / 32 ≡ major → spelled s ≡ head major a.value → string_size s ≡ 0 → (a.value < 2 ^ 64 → FineSaid s) → Spelled (b ∷ bs) (record { said = s; size = 1 + a.width + string_size s })
  plain s major m is none fine =
      let e : spelled s ≡ b ∷ take a.width bs = is ∙ ap (λ k. head k a.value) (sym m) ∙ w.is in
      let l = length-take-le a.width bs w.within in
      let k : 1 + a.width + string_size s ≡ suc a.width = omega arith in
      record {
        fine = fine w.fits;
        size_is = k ∙ sym (ap length e ∙ ap suc l);
        is = rw (e, k) (ap (λ r. b ∷ r) (sym (take-append-drop a.width bs)));
      }

  -- an item that is a string
  stringed : (s : Said) (xs : List ℕ) (major : ℕ) → b / 32 ≡ major → spelled s ≡ head major (length xs) ++ xs → string_size s ≡ length xs → a.value ≤ length (drop a.width bs) → xs ≡ take a.value (drop a.width bs) → (length xs < 2 ^ 64 → FineSaid s) → Spelled (b ∷ bs) (record { said = s; size = 1 + a.width + string_size s })
  stringed s xs major m is size within x fine =
      let n : length xs ≡ a.value = ap length x ∙ length-take-le a.value (drop a.width bs) within in
      let h : head major (length xs) ≡ b ∷ take a.width bs = ap (head major) n ∙ ap (λ k. head k a.value) (sym m) ∙ w.is in
      let e : spelled s ≡ (b ∷ take a.width bs) ++ xs = is ∙ ap (λ r. r ++ xs) h in
      let l = length-take-le a.width bs w.within in
      let k : 1 + a.width + string_size s ≡ suc (a.width + a.value) = omega arith in
      let tail : xs ++ drop (a.width + a.value) bs ≡ drop a.width bs = ap (λ r. xs ++ r) (sym (drop-drop a.value a.width bs)) ∙ ap (λ r. r ++ drop a.value (drop a.width bs)) x ∙ take-append-drop a.value (drop a.width bs) in
      record {
        fine = fine (rw n w.fits);
        size_is = k ∙ (let j = length-append (take a.width bs) xs in let q = ap length e in omega arith);
        is = rw (e, k) (ap (λ r. b ∷ r) (sym (append_assoc (take a.width bs) xs _ ∙ ap (λ r. take a.width bs ++ r) tail ∙ take-append-drop a.width bs)));
      }

-- each kind of item, as it is written
spelled_by : (b : ℕ) (bs : List ℕ) (a : Argument) → argument (b % 32) bs ≡ Some a → Written b bs a → (s : Said) → Says (b / 32) (b % 32) a.value (drop a.width bs) s → Spelled (b ∷ bs) (record { said = s; size = 1 + a.width + string_size s })
unfolding Says
spelled_by b bs a p w (number m) h = plain b bs a w (number m) 0 h.0 (ap (head 0) h.1) refl (λ l. omega (arith, h.1))
spelled_by b bs a p w (negative m) h = plain b bs a w (negative m) 1 h.0 (ap (head 1) h.1) refl (λ l. omega (arith, h.1))
spelled_by b bs a p w (bytes xs) h = stringed b bs a w (bytes xs) xs 2 h.0 refl refl h.1 h.2 (λ l. l)
spelled_by b bs a p w (text xs) h = stringed b bs a w (text xs) xs 3 h.0 refl refl h.1 h.2 (λ l. l)
spelled_by b bs a p w (array m) h = plain b bs a w (array m) 4 h.0 (ap (head 4) h.1) refl (λ l. omega (arith, h.1))
spelled_by b bs a p w (map m) h = plain b bs a w (map m) 5 h.0 (ap (head 5) h.1) refl (λ l. omega (arith, h.1))
spelled_by b bs a p w (simple m) h =
    let q = argument_low (b % 32) bs (omega (arith, h.3)) ∙ p in
    let i : a.width ≡ 0 = cc in
    let n : b % 32 < 24 = omega (arith, h.3) in
    let initial : 224 + m ≡ b = omega (arith, h.0, h.1) in
    record {
      fine = (omega (arith, h.1, h.2), omega (arith, h.1, h.3));
      size_is = omega arith;
      is = rw (initial, i) refl;
    }

-- what is read was written so
pub token_sound : (us : List ℕ) (t : Token) → Bytes us → token us ≡ Some t → Spelled us t
unfolding token
token_sound [] t each e = cc
token_sound (b ∷ bs) t each e =
    let g = given_some (argument (b % 32) bs) _ t e in
    let a = g.0 in
    let k = given_some (by_major (b / 32) (b % 32) a.value (drop a.width bs)) _ t g.2 in
    let last = k.2 in
    let whole : t ≡ record { said = k.0; size = 1 + a.width + string_size k.0 } = cc in
    subst (Spelled (b ∷ bs)) (sym whole) (spelled_by b bs a g.1 (written b bs a each.1 g.1) k.0 (at_some k.0 a k.1))
  where
    at_some : (s : Said) (a : Argument) → by_major (b / 32) (b % 32) a.value (drop a.width bs) ≡ Some s → Says (b / 32) (b % 32) a.value (drop a.width bs) s
    at_some s a p = subst (λ o. IfSome o (Says (b / 32) (b % 32) a.value (drop a.width bs))) p (says_cases (b / 32) (b % 32) a.value (drop a.width bs))
