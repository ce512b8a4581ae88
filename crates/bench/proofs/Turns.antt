-- Facts on the turns of a bench, over plain lists.
use Rattle.std.proofs.Common.{◌≡◌, ℕ, List, [], ◌∷◌, ◌++◌, map, length, Some, None, Option, refl, sym, ap, ◌∙◌, subst, append_assoc, append-nil, arith}
use Rattle.std.specs.Option.{IfSome}
use Rattle.std.specs.List.{FoldsTo, concat}
use Rattle.std.specs.Io.BufRead.{take_through, drop_through, DropsThrough}
use Rattle.std.specs.Io.KnownBytes.{Consumes, Appends, Keeps, IsAtEnd}
use Rattle.std.proofs.slice.Lists.{all_by_recursion_push}
use Rattle.std.proofs.lemmas.Fn.{FoldsTo-push}
use Rattle.std.proofs.lemmas.List.{map_push}
use Rattle.std.proofs.lemmas.List.Folds.{concat-append}
use Rattle.bench.specs.Served.{Turn, IsLine, IsFirst, Taken}

consumes_more : (a b c : Option (List ℕ)) (xs ys : List ℕ) → Consumes a b xs → Consumes b c ys → Consumes a c (xs ++ ys)
consumes_more None b c xs ys p q = tt
consumes_more (Some x) None c xs ys p q = absurd p
consumes_more (Some x) (Some y) None xs ys p q = q
consumes_more (Some x) (Some y) (Some z) xs ys p q = p ∙ ap (λ l. xs ++ l) q ∙ sym (append_assoc xs ys z)

appends_more : (a b c d : Option (List ℕ)) (xs ys : List ℕ) → Appends a b xs → Appends b c ys → Keeps c d → Appends a d (xs ++ ys)
appends_more None b c d xs ys p q r = tt
appends_more (Some x) None c d xs ys p q r = absurd p
appends_more (Some x) (Some y) None d xs ys p q r = absurd q
appends_more (Some x) (Some y) (Some z) None xs ys p q r = r
appends_more (Some x) (Some y) (Some z) (Some w) xs ys p q r = r ∙ q ∙ ap (λ l. l ++ ys) p ∙ append_assoc x xs ys

-- the bytes of one turn more
all_more : (f : Turn → List ℕ) (ts : List Turn) (t : Turn) → concat (map f ts) ++ f t ≡ concat (map f (ts ++ t ∷ []))
all_more f ts t =
    ap (λ l. concat (map f ts) ++ l) (sym (append-nil (f t))) ∙ sym (concat-append (map f ts) (f t ∷ [])) ∙ ap concat (sym (map_push f ts t))

-- the lines of known bytes that lie one behind the other
abbrev Cuts : Option (List ℕ) → List Turn → Option (List ℕ) → Type 0
Cuts a ts c = IfSome a (λ bytes. IfSome c (λ rest. FoldsTo (λ xs t ys. IsFirst xs t.line ys) bytes ts rest))

-- what a read into an empty buffer gave
pub line_of_read : (a : Option (List ℕ)) (line all old : List ℕ) → line ≡ all → old ≡ [] → IfSome a (λ xs. all ≡ old ++ take_through 10 xs) → IfSome a (λ xs. line ≡ take_through 10 xs)
line_of_read None line all old same none is = tt
line_of_read (Some xs) line all old same none is = same ∙ is ∙ ap (λ l. l ++ take_through 10 xs) none

some_same : (a b : List ℕ) → Some a ≡ Some b → a ≡ b
some_same a b e = cc

-- the first line of what is left is one line more
cut_more : (a b c : Option (List ℕ)) (bs : List ℕ) (ts : List Turn) (t : Turn) → Consumes a b bs → Cuts a ts b → IfSome b (λ xs. t.line ≡ take_through 10 xs) → DropsThrough b c 10 → Cuts a (ts ++ t ∷ []) c
cut_more None b c bs ts t p cut first rest = tt
cut_more (Some x) None c bs ts t p cut first rest = absurd p
cut_more (Some x) (Some y) None bs ts t p cut first rest = tt
cut_more (Some x) (Some y) (Some z) bs ts t p cut first rest =
    FoldsTo-push (λ xs s ys. IsFirst xs s.line ys) x ts y t z cut (first, some_same z _ rest)

-- at the end no byte more is dropped
cut_end : (a b c : Option (List ℕ)) (bs : List ℕ) (ts : List Turn) → Consumes a b bs → Cuts a ts b → IsAtEnd b → DropsThrough b c 10 → Cuts a ts c
cut_end None b c bs ts p cut end rest = tt
cut_end (Some x) None c bs ts p cut end rest = absurd p
cut_end (Some x) (Some y) None bs ts p cut end rest = tt
cut_end (Some x) (Some y) (Some z) bs ts p cut end rest =
    subst (λ l. FoldsTo (λ xs s ys. IsFirst xs s.line ys) x ts l) (end ∙ sym (ap (drop_through 10) end) ∙ sym (some_same z _ rest)) cut

-- one turn more
pub taken_more : {B : Type 0} (answers : B → List ℕ → List ℕ → B → Type 0) (b0 b1 b2 : B) (r0 r1 r2 w0 w1 w2 w3 : Option (List ℕ)) (ts : List Turn) (t : Turn) → Taken answers b0 b1 r0 r1 w0 w1 ts → answers b1 t.line t.shown b2 → IsLine t.line → IfSome r1 (λ xs. t.line ≡ take_through 10 xs) → DropsThrough r1 r2 10 → Consumes r1 r2 t.line → Appends w1 w2 t.shown → Keeps w2 w3 → Taken answers b0 b2 r0 r2 w0 w3 (ts ++ t ∷ [])
taken_more answers b0 b1 b2 r0 r1 r2 w0 w1 w2 w3 ts t taken answered line first rest read printed kept =
    record {
      answered = FoldsTo-push (λ b s next. answers b s.line s.shown next) b0 ts b1 t b2 taken.answered answered;
      lines = all_by_recursion_push (λ s. IsLine s.line) ts t taken.lines line;
      cut = cut_more r0 r1 r2 _ ts t taken.read taken.cut first rest;
      read = subst (Consumes r0 r2) (all_more (λ s. s.line) ts t) (consumes_more r0 r1 r2 _ _ taken.read read);
      printed = subst (Appends w0 w3) (all_more (λ s. s.shown) ts t) (appends_more w0 w1 w2 w3 _ _ taken.printed printed kept);
    }

no_bytes : (bs : List ℕ) → length bs ≡ 0 → bs ≡ []
no_bytes [] e = refl
no_bytes (b ∷ bs) e = absurd (omega arith)

-- nothing more was read
pub taken_end : {B : Type 0} (answers : B → List ℕ → List ℕ → B → Type 0) (b0 b1 : B) (r0 r1 r2 w0 w1 : Option (List ℕ)) (ts : List Turn) (bs : List ℕ) → Taken answers b0 b1 r0 r1 w0 w1 ts → Consumes r1 r2 bs → length bs ≡ 0 → IsAtEnd r1 → DropsThrough r1 r2 10 → Taken answers b0 b1 r0 r2 w0 w1 ts
taken_end answers b0 b1 r0 r1 r2 w0 w1 ts bs taken read none end rest =
    let all = concat (map (λ s. s.line) ts) in
    record {
      answered = taken.answered;
      lines = taken.lines;
      cut = cut_end r0 r1 r2 all ts taken.read taken.cut end rest;
      read = subst (Consumes r0 r2) (ap (λ l. all ++ l) (no_bytes bs none) ∙ append-nil all) (consumes_more r0 r1 r2 all bs taken.read read);
      printed = taken.printed;
    }

last_of_none : (xs ys : List ℕ) → [] ≡ xs ++ ys → ys ≡ []
last_of_none [] ys e = sym e
last_of_none (x ∷ xs) ys e = cc

-- what is read to its end was known throughout
pub at_end : (a b c : Option (List ℕ)) (xs bs : List ℕ) → Consumes a b xs → IsAtEnd b → Consumes b c bs → IfSome a (λ zs. IsAtEnd c)
at_end None b c xs bs p e r = tt
at_end (Some x) None c xs bs p e r = absurd p
at_end (Some x) (Some y) None xs bs p e r = absurd r
at_end (Some x) (Some y) (Some z) xs bs p e r = last_of_none bs z (sym e ∙ r)
