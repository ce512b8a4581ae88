-- Exactly the encodings of canonical values are read.
use Rattle.std.proofs.Common.{◌≡◌, ℕ, zero, suc, ◌+◌, Bool, true, false, cond, List, [], ◌∷◌, ◌++◌, length, take, drop, Some, None, Ok, Err, Option, Result, sym, refl, ap, ◌∙◌, subst, append_assoc, arith}
use Rattle.std.specs.List.{flat_map}
use Rattle.std.proofs.lemmas.List.{take_at, drop_at}
use Rattle.cbor.specs.Steps.{given, or_fail, and_then}
use Rattle.cbor.specs.Reader.{Said, Token, token, may_be_key, container, precedes, key, items, entries, inside, item}
use Rattle.cbor.specs.Reader as reader
use Rattle.cbor.specs.Grammar.{Leaf, number, negative, bytes, text, simple, Node, leaf, array, map, Value, head, says, encode_leaf, encode_entry, encode_node, encode, FineLeaf, IsKey, Each, Entries, FineNode, Canonical, spelled, FineSaid}
use Rattle.cbor.proofs.Rests.{Reader}
use Rattle.cbor.proofs.Shortest.{Bytes, bytes_drop, both_hold}
use Rattle.cbor.proofs.Spelled.{token_complete, token_sound, given_some}

pub bytes_behind : (xs ys : List ℕ) → Bytes (xs ++ ys) → Bytes ys
bytes_behind [] ys h = h
bytes_behind (x ∷ xs) ys h = bytes_behind xs ys h.1

-- a reader reads exactly the canonical values of V
pub record Reads (read : Reader) (V : Type 0) (enc : V → List ℕ) (Fine : V → Type 0) : Type 0 where
  pub complete : (v : V) → Fine v → (rest : List ℕ) → read (enc v ++ rest) ≡ Ok rest
  pub sound : (us rest : List ℕ) → Bytes us → read us ≡ Ok rest → (v : V) × Fine v × (us ≡ enc v ++ rest)

pub leaf_spelled : (l : Leaf) → encode_leaf l ≡ spelled (says l)
unfolding encode_leaf
leaf_spelled l = refl

pub leaf-token : (l : Leaf) → FineLeaf l → (rest : List ℕ) → token (encode_leaf l ++ rest) ≡ Some (record { said = says l; size = length (encode_leaf l) })
leaf-token l h rest = rw (leaf_spelled l) (token_complete (says l) h rest)

-- an item that holds no others is a leaf
as-leaf : (s : Said) → container s ≡ false → FineSaid s → (l : Leaf) × FineLeaf l × (s ≡ says l)
as-leaf (reader.number n) c h = (number n, h, refl)
as-leaf (reader.negative n) c h = (negative n, h, refl)
as-leaf (reader.bytes bs) c h = (bytes bs, h, refl)
as-leaf (reader.text bs) c h = (text bs, h, refl)
as-leaf (reader.array n) c h = cc
as-leaf (reader.map n) c h = cc
as-leaf (reader.simple n) c h = (simple n, h, refl)

pub or_ok : {A B E : Type 0} (o : Option A) (e : E) (go : A → Result B E) (b : B) → or_fail o e go ≡ Ok b → (a : A) × (o ≡ Some a) × (go a ≡ Ok b)
unfolding or_fail
or_ok None e go b p = cc
or_ok (Some a) e go b p = (a, refl, p)

pub then_ok : {A B E : Type 0} (r : Result A E) (go : A → Result B E) (b : B) → and_then r go ≡ Ok b → (a : A) × (r ≡ Ok a) × (go a ≡ Ok b)
unfolding and_then
then_ok (Ok a) go b p = (a, refl, p)
then_ok (Err e) go b p = cc

-- a key that was read
pub record Keyed (before us : List ℕ) (t : Token) : Type 0 where
  pub name : Leaf
  pub is_key : IsKey name
  pub fine : FineLeaf name
  pub said_is : t.said ≡ says name
  pub size_is : t.size ≡ length (encode_leaf name)
  pub after : precedes before (encode_leaf name) ≡ true
  pub is : us ≡ encode_leaf name ++ drop t.size us

key-leaf : (s : Said) → may_be_key s ≡ true → FineSaid s → (l : Leaf) × IsKey l × FineLeaf l × (s ≡ says l)
key-leaf (reader.number n) c h = (number n, tt, h, refl)
key-leaf (reader.negative n) c h = (negative n, tt, h, refl)
key-leaf (reader.bytes bs) c h = (bytes bs, tt, h, refl)
key-leaf (reader.text bs) c h = (text bs, tt, h, refl)
key-leaf (reader.array n) c h = cc
key-leaf (reader.map n) c h = cc
key-leaf (reader.simple n) c h = cc

pub keyed : (before us : List ℕ) (t : Token) → Bytes us → key before us ≡ Some t → Keyed before us t
unfolding key
keyed before us t each e =
    let g = given_some (token us) _ t e in
    let h = both_hold (may_be_key g.0.said) (precedes before (take g.0.size us)) (Some g.0) t g.2 in
    let p = h.2 in
    let same : g.0 ≡ t = cc in
    go (subst (λ x. token us ≡ Some x) same g.1) (subst (λ x. may_be_key x.said ≡ true) same h.0) (subst (λ x. precedes before (take x.size us) ≡ true) same h.1)
  where
    go : token us ≡ Some t → may_be_key t.said ≡ true → precedes before (take t.size us) ≡ true → Keyed before us t
    go is may after =
        let s = token_sound us t each is in
        let l = key-leaf t.said may s.fine in
        let e : spelled t.said ≡ encode_leaf l.0 = ap spelled l.3 ∙ sym (leaf_spelled l.0) in
        let n : t.size ≡ length (encode_leaf l.0) = s.size_is ∙ ap length e in
        let u : us ≡ encode_leaf l.0 ++ drop t.size us = s.is ∙ ap (λ r. r ++ drop t.size us) e in
        let front : take t.size us ≡ encode_leaf l.0 = ap (take t.size) u ∙ take_at (encode_leaf l.0) (drop t.size us) t.size (sym n) in
        record { name = l.0; is_key = l.1; fine = l.2; said_is = l.3; size_is = n; after = rw front at after; is = u }

key_may : (l : Leaf) → IsKey l → may_be_key (says l) ≡ true
key_may (number n) h = refl
key_may (negative n) h = refl
key_may (bytes bs) h = refl
key_may (text bs) h = refl
key_may (simple n) h = absurd h

pub key_complete : (before : List ℕ) (l : Leaf) → IsKey l → FineLeaf l → precedes before (encode_leaf l) ≡ true → (rest : List ℕ) → key before (encode_leaf l ++ rest) ≡ Some (record { said = says l; size = length (encode_leaf l) })
unfolding key given
key_complete before l is fine after rest =
    rw (leaf-token l fine rest, key_may l is, take_at (encode_leaf l) rest (length (encode_leaf l)) refl, after) refl

module _ (read : Reader) (V : Type 0) (enc : V → List ℕ) (Fine : V → Type 0) (R : Reads read V enc Fine) where
  pub items-complete : (vs : List V) → Each Fine vs → (rest : List ℕ) → items read (length vs) (flat_map enc vs ++ rest) ≡ Ok rest
  unfolding items and_then
  items-complete [] h rest = refl
  items-complete (v ∷ vs) h rest =
      rw (append_assoc (enc v) (flat_map enc vs) rest, R.complete v h.0 (flat_map enc vs ++ rest)) (items-complete vs h.1 rest)

  pub items-sound : (n : ℕ) (us rest : List ℕ) → Bytes us → items read n us ≡ Ok rest → (vs : List V) × (length vs ≡ n) × Each Fine vs × (us ≡ flat_map enc vs ++ rest)
  unfolding items
  items-sound zero us rest each e = let s : us ≡ rest = cc in ([], refl, tt, s)
  items-sound (suc n) us rest each e =
      let g = then_ok (read us) _ rest e in
      let v = R.sound us g.0 each g.1 in
      let vs = items-sound n g.0 rest (bytes_behind (enc v.0) g.0 (subst Bytes v.2 each)) g.2 in
      (v.0 ∷ vs.0, ap suc vs.1, (v.1, vs.2), v.2 ∙ ap (λ r. enc v.0 ++ r) vs.3 ∙ sym (append_assoc (enc v.0) (flat_map enc vs.0) rest))

  pub entries_complete : (before : List ℕ) (es : List (Leaf × V)) → Entries Fine before es → (rest : List ℕ) → entries read before (length es) (flat_map (encode_entry enc) es ++ rest) ≡ Ok rest
  unfolding entries or_fail and_then encode_entry
  entries_complete before [] h rest = refl
  entries_complete before (e ∷ es) h rest =
      let k = encode_leaf e.0 in
      let tail = flat_map (encode_entry enc) es ++ rest in
      let split : ((k ++ enc e.1) ++ flat_map (encode_entry enc) es) ++ rest ≡ k ++ (enc e.1 ++ tail) = append_assoc (k ++ enc e.1) (flat_map (encode_entry enc) es) rest ∙ append_assoc k (enc e.1) tail in
      rw (split, key_complete before e.0 h.0 h.1 h.2 (enc e.1 ++ tail), drop_at k (enc e.1 ++ tail) (length k) refl, take_at k (enc e.1 ++ tail) (length k) refl, R.complete e.1 h.3 tail)
      (entries_complete k es h.4 rest)

  pub entries_sound : (before : List ℕ) (n : ℕ) (us rest : List ℕ) → Bytes us → entries read before n us ≡ Ok rest → (es : List (Leaf × V)) × (length es ≡ n) × Entries Fine before es × (us ≡ flat_map (encode_entry enc) es ++ rest)
  unfolding entries encode_entry
  entries_sound before zero us rest each e = let s : us ≡ rest = cc in ([], refl, tt, s)
  entries_sound before (suc n) us rest each e =
      let g = or_ok (key before us) us _ rest e in
      let t = g.0 in
      let k = keyed before us t each g.1 in
      let h = then_ok (read (drop t.size us)) _ rest g.2 in
      let behind = bytes_drop t.size us each in
      let v = R.sound (drop t.size us) h.0 behind h.1 in
      let front : take t.size us ≡ encode_leaf k.name = ap (take t.size) k.is ∙ take_at (encode_leaf k.name) (drop t.size us) t.size (sym k.size_is) in
      let es = entries_sound (encode_leaf k.name) n h.0 rest (bytes_behind (enc v.0) h.0 (subst Bytes v.2 behind)) (subst (λ b. entries read b n h.0 ≡ Ok rest) front h.2) in
      let tail = flat_map (encode_entry enc) es.0 in (
        (k.name, v.0) ∷ es.0,
        ap suc es.1,
        (k.is_key, k.fine, k.after, v.1, es.2),
        k.is ∙ ap (λ r. encode_leaf k.name ++ r) (v.2 ∙ ap (λ r. enc v.0 ++ r) es.3) ∙ sym (append_assoc (encode_leaf k.name) (enc v.0) (tail ++ rest)) ∙ sym (append_assoc (encode_leaf k.name ++ enc v.0) tail rest),
      )

leaf-container : (l : Leaf) → container (says l) ≡ false
leaf-container (number n) = refl
leaf-container (negative n) = refl
leaf-container (bytes bs) = refl
leaf-container (text bs) = refl
leaf-container (simple n) = refl

ok_if : (b : Bool) (us xs rest : List ℕ) → cond b (Err us) (Ok xs) ≡ Ok rest → (b ≡ false) × (xs ≡ rest)
ok_if true us xs rest e = cc
ok_if false us xs rest e = (refl, cc)

-- where no level is left, leaves are read
leaves : Reads (item zero) Leaf encode_leaf FineLeaf
unfolding item or_fail
leaves =
    record {
      complete = λ l fine rest. rw (leaf-token l fine rest, leaf-container l, drop_at (encode_leaf l) rest (length (encode_leaf l)) refl) refl;
      sound = λ us rest each e.
          let g = or_ok (token us) us _ rest e in
          let c = ok_if (container g.0.said) us (drop g.0.size us) rest g.2 in
          let s = token_sound us g.0 each g.1 in
          let l = as-leaf g.0.said c.0 s.fine in
          (l.0, l.1, s.is ∙ ap (λ x. spelled x ++ drop g.0.size us) l.2 ∙ ap (λ r. r ++ drop g.0.size us) (sym (leaf_spelled l.0)) ∙ ap (λ r. encode_leaf l.0 ++ r) c.1);
    }

-- with one more level, arrays and maps of what was read before
module _ (read : Reader) (V : Type 0) (enc : V → List ℕ) (Fine : V → Type 0) (R : Reads read V enc Fine) where
  inside-complete : (v : Node V) → FineNode Fine v → (rest : List ℕ) → or_fail (token (encode_node enc v ++ rest)) (encode_node enc v ++ rest) (λ t. inside read t.said (drop t.size (encode_node enc v ++ rest))) ≡ Ok rest
  unfolding or_fail inside encode_node
  inside-complete (leaf l) fine rest = rw (leaf-token l fine rest, drop_at (encode_leaf l) rest (length (encode_leaf l)) refl) (still l)
    where
      still : (x : Leaf) → inside read (says x) rest ≡ Ok rest
      still (number n) = refl
      still (negative n) = refl
      still (bytes bs) = refl
      still (text bs) = refl
      still (simple n) = refl
  inside-complete (array vs) fine rest =
      let h = head 4 (length vs) in
      let tail = flat_map enc vs ++ rest in
      rw (append_assoc h (flat_map enc vs) rest, token_complete (reader.array (length vs)) fine.0 tail, drop_at h tail (length h) refl) (items-complete read V enc Fine R vs fine.1 rest)
  inside-complete (map es) fine rest =
      let h = head 5 (length es) in
      let tail = flat_map (encode_entry enc) es ++ rest in
      rw (append_assoc h (flat_map (encode_entry enc) es) rest, token_complete (reader.map (length es)) fine.0 tail, drop_at h tail (length h) refl) (entries_complete read V enc Fine R [] es fine.1 rest)

  inside-sound : (s : Said) (us rest : List ℕ) → FineSaid s → Bytes us → inside read s us ≡ Ok rest → (v : Node V) × FineNode Fine v × (spelled s ++ us ≡ encode_node enc v ++ rest)
  unfolding inside encode_node encode_leaf
  inside-sound (reader.number n) us rest fine each e = let q : us ≡ rest = cc in (leaf (number n), fine, ap (λ r. head 0 n ++ r) q)
  inside-sound (reader.negative n) us rest fine each e = let q : us ≡ rest = cc in (leaf (negative n), fine, ap (λ r. head 1 n ++ r) q)
  inside-sound (reader.bytes bs) us rest fine each e = let q : us ≡ rest = cc in (leaf (bytes bs), fine, ap (λ r. (head 2 (length bs) ++ bs) ++ r) q)
  inside-sound (reader.text bs) us rest fine each e = let q : us ≡ rest = cc in (leaf (text bs), fine, ap (λ r. (head 3 (length bs) ++ bs) ++ r) q)
  inside-sound (reader.simple n) us rest fine each e = let q : us ≡ rest = cc in (leaf (simple n), fine, ap (λ r. ((224 + n) ∷ []) ++ r) q)
  inside-sound (reader.array n) us rest fine each e =
      let g = items-sound read V enc Fine R n us rest each e in
      let m = g.1 in
      (array g.0, (omega arith, g.2), ap (λ k. head 4 k ++ us) (sym m) ∙ ap (λ r. head 4 (length g.0) ++ r) g.3 ∙ sym (append_assoc (head 4 (length g.0)) (flat_map enc g.0) rest))
  inside-sound (reader.map n) us rest fine each e =
      let g = entries_sound read V enc Fine R [] n us rest each e in
      let m = g.1 in
      (map g.0, (omega arith, g.2), ap (λ k. head 5 k ++ us) (sym m) ∙ ap (λ r. head 5 (length g.0) ++ r) g.3 ∙ sym (append_assoc (head 5 (length g.0)) (flat_map (encode_entry enc) g.0) rest))

pub item_reads : (levels : ℕ) → Reads (item levels) (Value levels) (encode levels) (Canonical levels)
unfolding item encode
item_reads zero = leaves
item_reads (suc levels) =
    let R = item_reads levels in
    record {
      complete = λ v fine rest. inside-complete (item levels) (Value levels) (encode levels) (Canonical levels) R v fine rest;
      sound = λ us rest each e.
          let g = or_ok (token us) us _ rest e in
          let s = token_sound us g.0 each g.1 in
          let v = inside-sound (item levels) (Value levels) (encode levels) (Canonical levels) R g.0.said (drop g.0.size us) rest s.fine (bytes_drop g.0.size us each) g.2 in
          (v.0, v.1, s.is ∙ v.2);
    }
