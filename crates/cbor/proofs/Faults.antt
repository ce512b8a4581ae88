-- A fault is the first: what was read before it is read alike whatever follows.
use Rattle.std.proofs.Common.{◌≡◌, ℕ, zero, suc, ◌≤◌, Bool, true, false, cond, ◌⊎◌, List, [], ◌∷◌, ◌++◌, length, take, drop, Some, None, Ok, Err, Option, Result, sym, refl, ap, ◌∙◌, subst, inl, inr, ⊎_elim, append_assoc, arith}
use Rattle.std.proofs.lemmas.List.{take_at, drop_at}
use Rattle.cbor.specs.Steps.{or_fail, and_then}
use Rattle.cbor.specs.Reader.{Said, number, negative, bytes, text, array, map, simple, token, container, key, items, entries, inside, item, deepest, ended, whole}
use Rattle.cbor.specs.Grammar.{Value, Canonical, encode, encode_leaf, spelled}
use Rattle.cbor.proofs.Shortest.{Bytes, bytes_drop}
use Rattle.cbor.proofs.Spelled.{token_complete, token_sound}
use Rattle.cbor.proofs.Rests.{Reader, Leaves, left_of, rest_short, items_leave, entries_leave, item_leaves, ended_leaves, whole_leaves}
use Rattle.cbor.proofs.Exact.{Reads, bytes_behind, keyed, key_complete, item_reads}

-- how many bytes a reader leaves
abbrev pub leftover : Result (List ℕ) (List ℕ) → ℕ
leftover r = length (left_of r)

-- a reader never leaves more than it was given
abbrev Shrinks : Reader → Type 0
Shrinks read = (us : List ℕ) → leftover (read us) ≤ length us

shrinks : (read : Reader) → Leaves read → Shrinks read
shrinks read L us = rest_short us (left_of (read us)) (L us)

item_shrink : (levels : ℕ) → Shrinks (item levels)
item_shrink levels = shrinks (item levels) (item_leaves levels)

ended_shrinks : Shrinks ended
ended_shrinks = shrinks ended ended_leaves

then_shrinks : (r : Result (List ℕ) (List ℕ)) (go : Reader) (n : ℕ) → leftover r ≤ n → Shrinks go → leftover (and_then r go) ≤ n
unfolding and_then
then_shrinks (Ok us) go n h k = omega (arith, k us)
then_shrinks (Err us) go n h k = h

-- behind xs lies the fault, and whatever follows xs, nothing in xs is at fault
abbrev pub Behind : Reader → List ℕ → List ℕ → Type 0
Behind read us ws = (xs : List ℕ) × (us ≡ xs ++ ws) × ((ys : List ℕ) → leftover (read (xs ++ ys)) ≤ length ys)

abbrev Faults : Reader → Type 0
Faults read = (us ws : List ℕ) → Bytes us → read us ≡ Err ws → Behind read us ws

pub then_err : {A B E : Type 0} (r : Result A E) (go : A → Result B E) (e : E) → and_then r go ≡ Err e → (r ≡ Err e) ⊎ ((a : A) × (r ≡ Ok a) × (go a ≡ Err e))
unfolding and_then
then_err (Ok a) go e p = inr (a, refl, p)
then_err (Err d) go e p = inl (let q : d ≡ e = cc in ap Err q)

pub or_err : {A B E : Type 0} (o : Option A) (d : E) (go : A → Result B E) (e : E) → or_fail o d go ≡ Err e → ((o ≡ None) × (d ≡ e)) ⊎ ((a : A) × (o ≡ Some a) × (go a ≡ Err e))
unfolding or_fail
or_err None d go e p = inl (refl, cc)
or_err (Some a) d go e p = inr (a, refl, p)

-- a fault at the very first item
at_once : (read : Reader) → Shrinks read → (us ws : List ℕ) → us ≡ ws → Behind read us ws
at_once read S us ws e = ([], e, S)

-- what was read whole may stand in front
module _ (next read : Reader) (front us ws : List ℕ) (passes : (ys : List ℕ) → leftover (read (front ++ ys)) ≤ leftover (next ys)) where
  past : (all : List ℕ) → all ≡ front ++ us → Behind next us ws → Behind read all ws
  past all e b = (
    front ++ b.0,
    e ∙ ap (λ r. front ++ r) b.1 ∙ sym (append_assoc front b.0 ws),
    λ ys. let k = passes (b.0 ++ ys) in let m = b.2 ys in let j = ap (λ l. leftover (read l)) (append_assoc front b.0 ys) in omega arith,
  )

-- a later step does not go back
then_behind : (read go : Reader) (us ws : List ℕ) → Shrinks go → Behind read us ws → Behind (λ zs. and_then (read zs) go) us ws
then_behind read go us ws S b = (b.0, b.1, λ ys. then_shrinks (read (b.0 ++ ys)) go (length ys) (b.2 ys) S)

le_self : (n : ℕ) → n ≤ n
le_self n = omega arith

module _ (read : Reader) (V : Type 0) (enc : V → List ℕ) (Fine : V → Type 0) (R : Reads read V enc Fine) (L : Leaves read) (F : Faults read) where
  items-faults : (n : ℕ) → Faults (items read n)
  unfolding items and_then
  items-faults zero us ws each e = cc
  items-faults (suc n) us ws each e =
      ⊎_elim
      (λ p. then_behind read (items read n) us ws (shrinks (items read n) (items_leave read L n)) (F us ws each p))
      (λ h.
      let v = R.sound us h.0 each h.1 in
      past (items read n) (items read (suc n)) (enc v.0) h.0 ws (λ ys. rw (R.complete v.0 v.1 ys) (le_self (leftover (items read n ys)))) us v.2
      (items-faults n h.0 ws (bytes_behind (enc v.0) h.0 (subst Bytes v.2 each)) h.2))
      (then_err (read us) (items read n) ws e)

  -- behind a key, its value and the entries after it
  entry-faults : (n : ℕ) → ((before : List ℕ) → Faults (entries read before n)) → (before : List ℕ) → Faults (λ us. and_then (read us) (entries read before n))
  unfolding and_then
  entry-faults n after before us ws each e =
      ⊎_elim
      (λ p. then_behind read (entries read before n) us ws (shrinks (entries read before n) (entries_leave read L n before)) (F us ws each p))
      (λ h.
      let v = R.sound us h.0 each h.1 in
      past (entries read before n) (λ zs. and_then (read zs) (entries read before n)) (enc v.0) h.0 ws (λ ys. rw (R.complete v.0 v.1 ys) (le_self (leftover (entries read before n ys)))) us v.2
      (after before h.0 ws (bytes_behind (enc v.0) h.0 (subst Bytes v.2 each)) h.2))
      (then_err (read us) (entries read before n) ws e)

  entries-faults : (n : ℕ) (before : List ℕ) → Faults (entries read before n)
  unfolding entries or_fail
  entries-faults zero before us ws each e = cc
  entries-faults (suc n) before us ws each e =
      ⊎_elim
      (λ p. at_once (entries read before (suc n)) (shrinks (entries read before (suc n)) (entries_leave read L (suc n) before)) us ws p.1)
      (λ h.
      let t = h.0 in
      let k = keyed before us t each h.1 in
      let name = encode_leaf k.name in
      let spelt : take t.size us ≡ name = ap (take t.size) k.is ∙ take_at name (drop t.size us) t.size (sym k.size_is) in
      let rest = entry-faults n (λ b. entries-faults n b) name (drop t.size us) ws (bytes_drop t.size us each) (subst (λ b. and_then (read (drop t.size us)) (entries read b n) ≡ Err ws) spelt h.2) in
      past (λ zs. and_then (read zs) (entries read name n)) (entries read before (suc n)) name (drop t.size us) ws
      (λ ys. rw (key_complete before k.name k.is_key k.fine k.after ys, drop_at name ys (length name) refl, take_at name ys (length name) refl) (le_self (leftover (and_then (read ys) (entries read name n)))))
      us k.is rest)
      (or_err (key before us) us _ ws e)

  inside-faults : (s : Said) → Faults (inside read s)
  unfolding inside
  inside-faults (number n) us ws each e = cc
  inside-faults (negative n) us ws each e = cc
  inside-faults (bytes bs) us ws each e = cc
  inside-faults (text bs) us ws each e = cc
  inside-faults (array n) us ws each e = items-faults n us ws each e
  inside-faults (map n) us ws each e = entries-faults n [] us ws each e
  inside-faults (simple n) us ws each e = cc

pub err_if : (b : Bool) (us xs ws : List ℕ) → cond b (Err us) (Ok xs) ≡ Err ws → us ≡ ws
err_if true us xs ws e = cc
err_if false us xs ws e = cc

item_faults : (levels : ℕ) → Faults (item levels)
unfolding item or_fail
item_faults zero us ws each e =
    ⊎_elim
    (λ p. at_once (item zero) (item_shrink zero) us ws p.1)
    (λ h. at_once (item zero) (item_shrink zero) us ws (err_if (container h.0.said) us (drop h.0.size us) ws h.2))
    (or_err (token us) us _ ws e)
item_faults (suc levels) us ws each e =
    ⊎_elim
    (λ p. at_once (item (suc levels)) (item_shrink (suc levels)) us ws p.1)
    (λ h.
    let t = h.0 in
    let s = token_sound us t each h.1 in
    let front = spelled t.said in
    past (inside (item levels) t.said) (item (suc levels)) front (drop t.size us) ws
    (λ ys. rw (token_complete t.said s.fine ys, drop_at front ys (length front) refl) (le_self (leftover (inside (item levels) t.said ys))))
    us s.is
    (inside-faults (item levels) (Value levels) (encode levels) (Canonical levels) (item_reads levels) (item_leaves levels) (item_faults levels) t.said (drop t.size us) ws (bytes_drop t.size us each) h.2))
    (or_err (token us) us _ ws e)

pub ended_err : (us ws : List ℕ) → ended us ≡ Err ws → us ≡ ws
unfolding ended
ended_err [] ws e = cc
ended_err (b ∷ bs) ws e = cc

pub whole_shrinks : Shrinks whole
whole_shrinks = shrinks whole whole_leaves

then-ended : (r : Result (List ℕ) (List ℕ)) (ys : List ℕ) → r ≡ Ok ys → leftover (and_then r ended) ≤ leftover (ended ys)
unfolding and_then
then-ended r ys e = rw e (le_self (leftover (ended ys)))

pub whole_faults : Faults whole
unfolding whole
whole_faults us ws each e =
    ⊎_elim
    (λ p. then_behind (item deepest) ended us ws ended_shrinks (item_faults deepest us ws each p))
    (λ h.
    let v = (item_reads deepest).sound us h.0 each h.1 in
    past ended whole (encode deepest v.0) h.0 ws (λ ys. surplus v.0 v.1 ys) us v.2 (at_once ended ended_shrinks h.0 ws (ended_err h.0 ws h.2)))
    (then_err (item deepest us) ended ws e)
  where
    surplus : (v : Value deepest) → Canonical deepest v → (ys : List ℕ) → leftover (and_then (item deepest (encode deepest v ++ ys)) ended) ≤ leftover (ended ys)
    surplus v fine ys = then-ended (item deepest (encode deepest v ++ ys)) ys ((item_reads deepest).complete v fine ys)
