-- A reader leaves the last bytes of those that it was given.
use Rattle.std.proofs.Common.{◌≡◌, ℕ, zero, suc, ◌+◌, ◌-◌, ◌≤◌, Bool, true, false, cond, List, [], ◌∷◌, length, take, drop, min, None, Some, Ok, Err, Option, Result, sym, refl, ap, ◌∙◌, arith, length-drop}
use Rattle.std.proofs.lemmas.List.{drop-drop, drop_min}
use Rattle.cbor.specs.Steps.{or_fail, and_then}
use Rattle.cbor.specs.Reader.{Said, number, negative, bytes, text, array, map, simple, Token, token, container, key, items, entries, inside, item, deepest, ended, whole}

-- the last bytes of some bytes
pub record Rest (us rest : List ℕ) : Type 0 where
  pub skipped : ℕ
  pub is : drop skipped us ≡ rest

abbrev pub Reader : Type 0
Reader = List ℕ → Result (List ℕ) (List ℕ)

-- what is left, behind what was read or from the fault on
abbrev pub left_of : Result (List ℕ) (List ℕ) → List ℕ
left_of (Ok rest) = rest
left_of (Err rest) = rest

abbrev pub Leaves : Reader → Type 0
Leaves read = (us : List ℕ) → Rest us (left_of (read us))

pub dropped : (n : ℕ) (us : List ℕ) → Rest us (drop n us)
dropped n us = record { skipped = n; is = refl }

pub rest_of_rest : (us mid rest : List ℕ) → Rest us mid → Rest mid rest → Rest us rest
rest_of_rest us mid rest a b =
    record { skipped = a.skipped + b.skipped; is = sym (drop-drop b.skipped a.skipped us) ∙ ap (drop b.skipped) a.is ∙ b.is }

pub rest_short : (us rest : List ℕ) → Rest us rest → length rest ≤ length us
rest_short us rest r = let e = ap length r.is in omega (arith, length-drop r.skipped us)

-- the place where the last bytes begin
pub rest_place : (us rest : List ℕ) → Rest us rest → drop (length us - length rest) us ≡ rest
rest_place us rest r =
    let e = ap length r.is in
    let n : length us - length rest ≡ min r.skipped (length us) = omega (arith, length-drop r.skipped us) in
    ap (λ k. drop k us) n ∙ drop_min r.skipped us ∙ r.is

then_leaves : (us : List ℕ) (r : Result (List ℕ) (List ℕ)) (go : Reader) → Rest us (left_of r) → Leaves go → Rest us (left_of (and_then r go))
unfolding and_then
then_leaves us (Ok mid) go h k = rest_of_rest us mid (left_of (go mid)) h (k mid)
then_leaves us (Err rest) go h k = h

or_leaves : (o : Option Token) (us : List ℕ) (go : Token → Result (List ℕ) (List ℕ)) → ((t : Token) → Rest (drop t.size us) (left_of (go t))) → Rest us (left_of (or_fail o us go))
unfolding or_fail
or_leaves None us go h = dropped 0 us
or_leaves (Some t) us go h = rest_of_rest us (drop t.size us) (left_of (go t)) (dropped t.size us) (h t)

module _ (read : Reader) (L : Leaves read) where
  pub items_leave : (n : ℕ) → Leaves (items read n)
  unfolding items
  items_leave zero us = dropped 0 us
  items_leave (suc n) us = then_leaves us (read us) (items read n) (L us) (items_leave n)

  pub entries_leave : (n : ℕ) (before : List ℕ) → Leaves (entries read before n)
  unfolding entries
  entries_leave zero before us = dropped 0 us
  entries_leave (suc n) before us =
      or_leaves (key before us) us _ (λ t.
      then_leaves (drop t.size us) (read (drop t.size us)) (entries read (take t.size us) n) (L (drop t.size us)) (entries_leave n (take t.size us)))

  inside_leaves : (s : Said) → Leaves (inside read s)
  unfolding inside
  inside_leaves (number n) us = dropped 0 us
  inside_leaves (negative n) us = dropped 0 us
  inside_leaves (bytes bs) us = dropped 0 us
  inside_leaves (text bs) us = dropped 0 us
  inside_leaves (array n) us = items_leave n us
  inside_leaves (map n) us = entries_leave n [] us
  inside_leaves (simple n) us = dropped 0 us

leaf_leaves : (o : Option Token) (us : List ℕ) → Rest us (left_of (or_fail o us (λ t. cond (container t.said) (Err us) (Ok (drop t.size us)))))
unfolding or_fail
leaf_leaves None us = dropped 0 us
leaf_leaves (Some t) us = by (container t.said)
  where
    by : (b : Bool) → Rest us (left_of (cond b (Err us) (Ok (drop t.size us))))
    by true = dropped 0 us
    by false = dropped t.size us

pub item_leaves : (levels : ℕ) → Leaves (item levels)
unfolding item
item_leaves zero us = leaf_leaves (token us) us
item_leaves (suc levels) us = or_leaves (token us) us _ (λ t. inside_leaves (item levels) (item_leaves levels) t.said (drop t.size us))

pub ended_leaves : Leaves ended
unfolding ended
ended_leaves [] = dropped 0 []
ended_leaves (b ∷ bs) = dropped 0 (b ∷ bs)

pub whole_leaves : Leaves whole
unfolding whole
whole_leaves us = then_leaves us (item deepest us) ended (item_leaves deepest us) ended_leaves

-- what an item leaves, read whole or not
pub item_rest : (levels : ℕ) (us rest : List ℕ) → Ok rest ≡ item levels us → Rest us rest
item_rest levels us rest e = rw (← e) at (item_leaves levels us)

pub fault_rest : (levels : ℕ) (us rest : List ℕ) → Err rest ≡ item levels us → Rest us rest
fault_rest levels us rest e = rw (← e) at (item_leaves levels us)
