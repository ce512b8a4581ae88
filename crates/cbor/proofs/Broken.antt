-- At the place of a fault the message is broken, and nowhere before.
use Rattle.std.proofs.Common.{◌≡◌, ℕ, zero, suc, ◌+◌, ◌-◌, ◌<◌, Bool, true, false, cond, ◌⊎◌, List, [], ◌∷◌, ◌++◌, length, take, drop, None, Ok, Err, sym, refl, ap, ◌∙◌, subst, inl, inr, ⊎_elim, append_assoc, arith, length-append, take-append-drop}
use Rattle.std.specs.List.{flat_map}
use Rattle.std.proofs.lemmas.List.{take_at, drop_at}
use Rattle.cbor.specs.Fault.{NoItem, NoKey, last_key, Within, unread, in_array, at_key, in_value, Broken, Surplus, Placed}
use Rattle.cbor.specs.Reader.{Said, number, negative, bytes, text, array, map, simple, token, container, precedes, key, items, entries, inside, item, deepest, ended, whole, checked}
use Rattle.cbor.specs.Grammar.{Leaf, Value, head, encode_leaf, encode_entry, encode, FineLeaf, IsKey, Each, Entries, Canonical, spelled, FineSaid}
use Rattle.cbor.proofs.Shortest.{Bytes, bytes_drop}
use Rattle.cbor.proofs.Spelled.{token_complete, token_sound}
use Rattle.cbor.proofs.Rests.{Reader}
use Rattle.cbor.proofs.Exact.{Reads, bytes_behind, keyed, key_complete, item_reads}
use Rattle.cbor.proofs.Faults.{then_err, or_err, ended_err, whole_faults}
use Rattle.cbor.proofs.Laws.{placed_err}

no_item : (us : List ℕ) → token us ≡ None → NoItem us
no_item us e s fine rest is =
    let p = sym (token_complete s fine rest) ∙ ap token (sym is) ∙ e in
    cc

no_key : (before us : List ℕ) → key before us ≡ None → NoKey before us
no_key before us e k is_key fine after rest is =
    let p = sym (key_complete before k is_key fine after rest) ∙ ap (key before) (sym is) ∙ e in
    cc

module _ (read : Reader) (V : Type 0) (enc : V → List ℕ) (Fine : V → Type 0) (R : Reads read V enc Fine) where
  -- some values, then a fault
  items-broken : (n : ℕ) (us ws : List ℕ) → Bytes us → items read n us ≡ Err ws → (vs : List V) × (rest : List ℕ) × (us ≡ flat_map enc vs ++ rest) × Each Fine vs × (length vs < n) × Bytes rest × (read rest ≡ Err ws)
  unfolding items
  items-broken zero us ws each e = cc
  items-broken (suc n) us ws each e =
      ⊎_elim
      (λ p. ([], us, refl, tt, omega arith, each, p))
      (λ h.
      let v = R.sound us h.0 each h.1 in
      let g = items-broken n h.0 ws (bytes_behind (enc v.0) h.0 (subst Bytes v.2 each)) h.2 in
      let less = g.4 in
      (v.0 ∷ g.0, g.1, v.2 ∙ ap (λ r. enc v.0 ++ r) g.2 ∙ sym (append_assoc (enc v.0) (flat_map enc g.0) g.1), (v.1, g.3), omega arith, g.5, g.6))
      (then_err (read us) (items read n) ws e)

  -- some entries, then a key that may not stand there, or a key and a fault in its value
  pub record Wrong (before : List ℕ) (n : ℕ) (us ws : List ℕ) : Type 0 where
    pub es : List (Leaf × V)
    pub fine : Entries Fine before es
    pub less : length es < n
    pub how : ((us ≡ flat_map (encode_entry enc) es ++ ws) × NoKey (last_key before es) ws) ⊎ ((k : Leaf) × (rest : List ℕ) × (us ≡ flat_map (encode_entry enc) es ++ (encode_leaf k ++ rest)) × IsKey k × FineLeaf k × (precedes (last_key before es) (encode_leaf k) ≡ true) × Bytes rest × (read rest ≡ Err ws))

  -- one more entry in front
  in-front : (before : List ℕ) (n : ℕ) (k : Leaf) (v : V) (us rest ws : List ℕ) → IsKey k → FineLeaf k → precedes before (encode_leaf k) ≡ true → Fine v → us ≡ encode_leaf k ++ (enc v ++ rest) → Wrong (encode_leaf k) n rest ws → Wrong before (suc n) us ws
  unfolding encode_entry
  in-front before n k v us rest ws is_key fine after canon e w =
      let less = w.less in
      record {
        es = (k, v) ∷ w.es;
        fine = (is_key, fine, after, canon, w.fine);
        less = omega arith;
        how = ⊎_elim
            (λ h. inl (e ∙ ap (λ r. encode_leaf k ++ (enc v ++ r)) h.0 ∙ sym (regroup (encode_leaf k) (enc v) (flat_map (encode_entry enc) w.es) ws), h.1))
            (λ h. inr (h.0, h.1, e ∙ ap (λ r. encode_leaf k ++ (enc v ++ r)) h.2 ∙ sym (regroup (encode_leaf k) (enc v) (flat_map (encode_entry enc) w.es) (encode_leaf h.0 ++ h.1)), h.3, h.4, h.5, h.6, h.7))
            w.how;
      }
    where
      regroup : (a b c d : List ℕ) → ((a ++ b) ++ c) ++ d ≡ a ++ (b ++ (c ++ d))
      regroup a b c d = append_assoc (a ++ b) c d ∙ append_assoc a b (c ++ d)

  entries-broken : (n : ℕ) (before us ws : List ℕ) → Bytes us → entries read before n us ≡ Err ws → Wrong before n us ws
  unfolding entries
  entries-broken zero before us ws each e = cc
  entries-broken (suc n) before us ws each e =
      ⊎_elim
      (λ p. record { es = []; fine = tt; less = omega arith; how = inl (p.1, subst (NoKey before) p.1 (no_key before us p.0)) })
      (λ g.
      let t = g.0 in
      let k = keyed before us t each g.1 in
      let name = encode_leaf k.name in
      let behind = bytes_drop t.size us each in
      let spelt : take t.size us ≡ name = ap (take t.size) k.is ∙ take_at name (drop t.size us) t.size (sym k.size_is) in
      ⊎_elim
      (λ p. record { es = []; fine = tt; less = omega arith; how = inr (k.name, drop t.size us, k.is, k.is_key, k.fine, k.after, behind, p) })
      (λ h.
      let v = R.sound (drop t.size us) h.0 behind h.1 in
      let w = entries-broken n name h.0 ws (bytes_behind (enc v.0) h.0 (subst Bytes v.2 behind)) (subst (λ b. entries read b n h.0 ≡ Err ws) spelt h.2) in
      in-front before n k.name v.0 us h.0 ws k.is_key k.fine k.after v.1 (k.is ∙ ap (λ r. name ++ r) v.2) w)
      (then_err (read (drop t.size us)) (entries read (take t.size us) n) ws g.2))
      (or_err (key before us) us _ ws e)

-- what lies inside a map or an array, with what is known of the level below
module _ (levels : ℕ) (under : (us ws : List ℕ) → Bytes us → item levels us ≡ Err ws → Broken levels us ws) where
  inside-broken : (s : Said) (us rest ws : List ℕ) → FineSaid s → us ≡ spelled s ++ rest → Bytes rest → inside (item levels) s rest ≡ Err ws → Within levels (Broken levels) us ws
  unfolding inside
  inside-broken (number n) us rest ws fine is each e = cc
  inside-broken (negative n) us rest ws fine is each e = cc
  inside-broken (bytes bs) us rest ws fine is each e = cc
  inside-broken (text bs) us rest ws fine is each e = cc
  inside-broken (array n) us rest ws fine is each e =
      let g = items-broken (item levels) (Value levels) (encode levels) (Canonical levels) (item_reads levels) n rest ws each e in
      in_array n g.0 g.1 fine (is ∙ ap (λ r. head 4 n ++ r) g.2) g.3 g.4 (under g.1 ws g.5 g.6)
  inside-broken (map n) us rest ws fine is each e =
      let g = entries-broken (item levels) (Value levels) (encode levels) (Canonical levels) (item_reads levels) n [] rest ws each e in
      ⊎_elim
      (λ h. at_key n g.es fine (is ∙ ap (λ r. head 5 n ++ r) h.0) g.fine g.less h.1)
      (λ h. in_value n g.es h.0 h.1 fine (is ∙ ap (λ r. head 5 n ++ r) h.2) g.fine g.less h.3 h.4 h.5 (under h.1 ws h.6 h.7))
      g.how
  inside-broken (simple n) us rest ws fine is each e = cc

cond_err : (b : Bool) (us xs ws : List ℕ) → cond b (Err us) (Ok xs) ≡ Err ws → (b ≡ true) × (us ≡ ws)
cond_err true us xs ws e = (refl, cc)
cond_err false us xs ws e = cc

item_broken : (levels : ℕ) (us ws : List ℕ) → Bytes us → item levels us ≡ Err ws → Broken levels us ws
unfolding item
item_broken zero us ws each e =
    ⊎_elim
    (λ p. (p.1, inl (no_item us p.0)))
    (λ g.
    let c = cond_err (container g.0.said) us (drop g.0.size us) ws g.2 in
    let s = token_sound us g.0 each g.1 in
    (c.1, inr (g.0.said, drop g.0.size us, c.0, s.fine, s.is)))
    (or_err (token us) us _ ws e)
item_broken (suc levels) us ws each e =
    ⊎_elim
    (λ p. unread p.1 (no_item us p.0))
    (λ g.
    let s = token_sound us g.0 each g.1 in
    inside-broken levels (item_broken levels) g.0.said us (drop g.0.size us) ws s.fine s.is (bytes_drop g.0.size us each) g.2)
    (or_err (token us) us _ ws e)

some_left : (us ws : List ℕ) → ended us ≡ Err ws → 0 < length ws
unfolding ended
some_left [] ws e = cc
some_left (b ∷ bs) ws e = let s : b ∷ bs ≡ ws = cc in let l = ap length s in omega arith

-- the bytes that are left begin at their place
left_at : (s : List ℕ) (start p : ℕ) (xs ws : List ℕ) → drop start s ≡ xs ++ ws → p ≡ length s - length ws → drop p s ≡ ws
left_at s start p xs ws e q =
    let all : s ≡ (take start s ++ xs) ++ ws = sym (take-append-drop start s) ∙ ap (λ r. take start s ++ r) e ∙ sym (append_assoc (take start s) xs ws) in
    let long : length s ≡ length (take start s ++ xs) + length ws = ap length all ∙ length-append (take start s ++ xs) ws in
    ap (drop p) all ∙ drop_at (take start s ++ xs) ws p (omega arith)

pub placed_law : (message : List ℕ) (start : ℕ) → Bytes (drop start message) → Placed message start
unfolding checked whole
placed_law message start each p e =
    let us = drop start message in
    let r = placed_err message (whole us) p e in
    let b = whole_faults us r.0 each r.1 in
    let at : drop p message ≡ r.0 = left_at message start p b.0 r.0 b.1 r.2 in
    let within = r.2 in (
      omega arith,
      ⊎_elim
          (λ h. inl (subst (Broken deepest us) (sym at) (item_broken deepest us r.0 each h)))
          (λ h.
          let v = (item_reads deepest).sound us h.0 each h.1 in
          inr (subst (Surplus us) (sym at) (v.0, v.1, v.2 ∙ ap (λ x. encode deepest v.0 ++ x) (ended_err h.0 r.0 h.2), some_left h.0 r.0 h.2)))
          (then_err (item deepest us) ended r.0 r.1),
    )
