-- The finder in a canonical map.
use Rattle.std.proofs.Common.{◌≡◌, ℕ, zero, suc, ◌+◌, ◌-◌, ◌^◌, ◌<◌, ◌≤◌, Bool, true, false, cond, List, [], ◌∷◌, ◌++◌, length, take, drop, Some, None, Ok, Err, Option, sym, refl, ap, ◌∙◌, subst, append_assoc, append-nil, arith, length-append, length-drop}
use Rattle.std.specs.List.{flat_map}
use Rattle.std.proofs.lemmas.List.{drop-drop, drop_at, take_at, nil_from_length}
use Rattle.cbor.specs.Steps.{given, or_fail, and_then}
use Rattle.cbor.specs.Finder.{Held, end_at, seek_at, held_at, field_at}
use Rattle.cbor.specs.Reader.{Said, number, negative, bytes, text, array, simple, Token, token, container, key, items, entries, inside, item, deepest, placed, read_at, found_at}
use Rattle.cbor.specs.Reader as reader
use Rattle.cbor.specs.Grammar.{Leaf, map, Value, head, says, encode_leaf, encode_entry, encode_node, encode, FineLeaf, Entries, Canonical}
use Rattle.cbor.specs.Laws.{Other, Finds}
use Rattle.cbor.proofs.Spelled.{token_complete}
use Rattle.cbor.proofs.Rests.{Reader}
use Rattle.cbor.proofs.Exact.{or_ok, then_ok, leaf-token, item_reads}

-- what one reader reads, another reads alike
abbrev Reaches : Reader → Reader → Type 0
Reaches one two = (us rest : List ℕ) → one us ≡ Ok rest → two us ≡ Ok rest

module _ (one two : Reader) (R : Reaches one two) where
  items-reach : (n : ℕ) → Reaches (items one n) (items two n)
  unfolding items and_then
  items-reach zero us rest e = e
  items-reach (suc n) us rest e = let h = then_ok (one us) (items one n) rest e in rw (R us h.0 h.1) (items-reach n h.0 rest h.2)

  entries-reach : (n : ℕ) (before : List ℕ) → Reaches (entries one before n) (entries two before n)
  unfolding entries or_fail and_then
  entries-reach zero before us rest e = e
  entries-reach (suc n) before us rest e =
      let g = or_ok (key before us) us _ rest e in
      let t = g.0 in
      let h = then_ok (one (drop t.size us)) (entries one (take t.size us) n) rest g.2 in
      rw (g.1, R (drop t.size us) h.0 h.1) (entries-reach n (take t.size us) h.0 rest h.2)

  inside-reach : (s : Said) → Reaches (inside one s) (inside two s)
  unfolding inside
  inside-reach (number n) us rest e = e
  inside-reach (negative n) us rest e = e
  inside-reach (bytes bs) us rest e = e
  inside-reach (text bs) us rest e = e
  inside-reach (array n) us rest e = items-reach n us rest e
  inside-reach (reader.map n) us rest e = entries-reach n [] us rest e
  inside-reach (simple n) us rest e = e

leaf-inside : (read : Reader) (s : Said) (us xs rest : List ℕ) → cond (container s) (Err us) (Ok xs) ≡ Ok rest → inside read s xs ≡ Ok rest
unfolding inside
leaf-inside read (number n) us xs rest e = e
leaf-inside read (negative n) us xs rest e = e
leaf-inside read (bytes bs) us xs rest e = e
leaf-inside read (text bs) us xs rest e = e
leaf-inside read (array n) us xs rest e = cc
leaf-inside read (reader.map n) us xs rest e = cc
leaf-inside read (simple n) us xs rest e = e

-- with more levels left, no less is read
deeper : (levels : ℕ) → Reaches (item levels) (item (suc levels))
unfolding item or_fail
deeper zero us rest e =
    let g = or_ok (token us) us _ rest e in
    rw g.1 (leaf-inside (item zero) g.0.said us (drop g.0.size us) rest g.2)
deeper (suc levels) us rest e =
    let g = or_ok (token us) us _ rest e in
    rw g.1 (inside-reach (item levels) (item (suc levels)) (deeper levels) g.0.said (drop g.0.size us) rest g.2)

much_deeper : (more levels : ℕ) → Reaches (item levels) (item (more + levels))
much_deeper zero levels us rest e = let z : 0 + levels ≡ levels = omega arith in subst (λ k. item k us ≡ Ok rest) (sym z) e
much_deeper (suc more) levels us rest e =
    let z : suc more + levels ≡ suc (more + levels) = omega arith in
    subst (λ k. item k us ≡ Ok rest) (sym z) (deeper (more + levels) us rest (much_deeper more levels us rest e))

-- a canonical value is read wherever it lies
value_read : (levels : ℕ) → levels ≤ deepest → (v : Value levels) → Canonical levels v → (rest : List ℕ) → item deepest (encode levels v ++ rest) ≡ Ok rest
value_read levels l v fine rest =
    let z : (deepest - levels) + levels ≡ deepest = omega arith in
    subst (λ k. item k (encode levels v ++ rest) ≡ Ok rest) z (much_deeper (deepest - levels) levels (encode levels v ++ rest) rest ((item_reads levels).complete v fine rest))

nothing_read : (levels : ℕ) → item levels [] ≡ Err []
unfolding item or_fail token
nothing_read zero = refl
nothing_read (suc levels) = refl

some_bytes : (levels : ℕ) (v : Value levels) → Canonical levels v → length (encode levels v) ≡ 0 → ⊥
some_bytes levels v fine e =
    let none : encode levels v ++ [] ≡ [] = append-nil (encode levels v) ∙ nil_from_length (encode levels v) e in
    cc (sym ((item_reads levels).complete v fine []) ∙ ap (item levels) none ∙ nothing_read levels)

begins : (levels : ℕ) (us rest : List ℕ) → item levels us ≡ Ok rest → (t : Token) × (token us ≡ Some t)
unfolding item
begins zero us rest e = let g = or_ok (token us) us _ rest e in (g.0, g.1)
begins (suc levels) us rest e = let g = or_ok (token us) us _ rest e in (g.0, g.1)

module _ (s : List ℕ) (at : ℕ) where
  -- what stands behind the front part
  behind : (front rest : List ℕ) → drop at s ≡ front ++ rest → drop (at + length front) s ≡ rest
  behind front rest e = sym (drop-drop (length front) at s) ∙ ap (drop (length front)) e ∙ drop_at front rest (length front) refl

  read_of : (t : Token) → token (drop at s) ≡ Some t → read_at s at ≡ Ok (found_at at t)
  unfolding read_at or_fail
  read_of t e = rw e refl

  end_of : (levels : ℕ) → levels ≤ deepest → (v : Value levels) → Canonical levels v → (rest : List ℕ) → drop at s ≡ encode levels v ++ rest → end_at s at ≡ Some (at + length (encode levels v))
  unfolding end_at placed
  end_of levels l v fine rest e =
      let whole : item deepest (drop at s) ≡ Ok rest = ap (item deepest) e ∙ value_read levels l v fine rest in
      let long : length s - at ≡ length (encode levels v) + length rest = sym (length-drop at s) ∙ ap length e ∙ length-append (encode levels v) rest in
      let more = some_bytes levels v fine in
      let place : length s - length rest ≡ at + length (encode levels v) = omega arith in
      rw (whole, place) refl

  -- a value begins with an item
  some-token : (levels : ℕ) (v : Value levels) → Canonical levels v → (rest : List ℕ) → drop at s ≡ encode levels v ++ rest → (t : Token) × (token (drop at s) ≡ Some t)
  some-token levels v fine rest e = begins levels (drop at s) rest (ap (item levels) e ∙ (item_reads levels).complete v fine rest)

-- entries in front of the one that is looked for
module _ (wanted : Said → Bool) (s : List ℕ) (levels : ℕ) (l : levels ≤ deepest) where
  enc : Leaf × Value levels → List ℕ
  enc = encode_entry (encode levels)

  -- one entry whose key is another
  seek-past : (n at : ℕ) (k : Leaf) (v : Value levels) (rest : List ℕ) → FineLeaf k → Canonical levels v → wanted (says k) ≡ false → drop at s ≡ encode_leaf k ++ (encode levels v ++ rest) → (next : ℕ) × (seek_at wanted s (suc n) at ≡ seek_at wanted s n next) × (drop next s ≡ rest)
  unfolding seek_at given
  seek-past n at k v rest fine canon other e =
      let is = leaf-token k fine (encode levels v ++ rest) in
      let r = read_of s at (record { said = says k; size = length (encode_leaf k) }) (ap token e ∙ is) in
      let value = behind s at (encode_leaf k) (encode levels v ++ rest) e in
      let ends = end_of s (at + length (encode_leaf k)) levels l v canon rest value in
      (at + length (encode_leaf k) + length (encode levels v), rw (r, other, ends) refl, behind s (at + length (encode_leaf k)) (encode levels v) rest value)

  -- the entry whose key passes the test
  seek-here : (n at : ℕ) (k : Leaf) (rest : List ℕ) → FineLeaf k → wanted (says k) ≡ true → drop at s ≡ encode_leaf k ++ rest → (p : ℕ) × (seek_at wanted s (suc n) at ≡ Some p) × (drop p s ≡ rest)
  unfolding seek_at given
  seek-here n at k rest fine here e =
      let is = leaf-token k fine rest in
      let r = read_of s at (record { said = says k; size = length (encode_leaf k) }) (ap token e ∙ is) in
      (at + length (encode_leaf k), rw (r, here) refl, behind s at (encode_leaf k) rest e)

  -- an entry, then the others
  apart : (at : ℕ) (e : Leaf × Value levels) (es : List (Leaf × Value levels)) (rest : List ℕ) → drop at s ≡ flat_map enc (e ∷ es) ++ rest → drop at s ≡ encode_leaf e.0 ++ (encode levels e.1 ++ (flat_map enc es ++ rest))
  unfolding enc encode_entry
  apart at e es rest p =
      p ∙ append_assoc (enc e) (flat_map enc es) rest ∙ append_assoc (encode_leaf e.0) (encode levels e.1) (flat_map enc es ++ rest)

  seek-some : (front back : List (Leaf × Value levels)) (k : Leaf) (v : Value levels) (before : List ℕ) (at : ℕ) (rest : List ℕ) → Entries (Canonical levels) before (front ++ (k, v) ∷ back) → drop at s ≡ flat_map enc (front ++ (k, v) ∷ back) ++ rest → Other wanted front → wanted (says k) ≡ true → (p : ℕ) × (seek_at wanted s (length (front ++ (k, v) ∷ back)) at ≡ Some p) × (drop p s ≡ encode levels v ++ (flat_map enc back ++ rest))
  seek-some [] back k v before at rest fine e other here =
      seek-here (length back) at k (encode levels v ++ (flat_map enc back ++ rest)) fine.1 here (apart at (k, v) back rest e)
  seek-some (x ∷ front) back k v before at rest fine e other here =
      let all = front ++ (k, v) ∷ back in
      let q = seek-past (length all) at x.0 x.1 (flat_map enc all ++ rest) fine.1 fine.3 other.0 (apart at x all rest e) in
      let h = seek-some front back k v (encode_leaf x.0) q.0 rest fine.4 q.2 other.1 here in
      (h.0, q.1 ∙ h.1, h.2)

  seek-nothing : (es : List (Leaf × Value levels)) (before : List ℕ) (at : ℕ) (rest : List ℕ) → Entries (Canonical levels) before es → drop at s ≡ flat_map enc es ++ rest → Other wanted es → seek_at wanted s (length es) at ≡ None
  unfolding seek_at
  seek-nothing [] before at rest fine e other = refl
  seek-nothing (x ∷ es) before at rest fine e other =
      let q = seek-past (length es) at x.0 x.1 (flat_map enc es ++ rest) fine.1 fine.3 other.0 (apart at x es rest e) in
      q.1 ∙ seek-nothing es (encode_leaf x.0) q.0 rest fine.4 q.2 other.1

  -- the head of the map
  opened : (at : ℕ) (es : List (Leaf × Value levels)) (rest : List ℕ) → length es < 2 ^ 64 → drop at s ≡ encode (suc levels) (map es) ++ rest → (p : ℕ) × (read_at s at ≡ Ok (record { said = reader.map (length es); place = at; end = p })) × (drop p s ≡ flat_map enc es ++ rest)
  unfolding encode encode_node enc
  opened at es rest fits e =
      let h = head 5 (length es) in
      let split = e ∙ append_assoc h (flat_map enc es) rest in
      (at + length h, read_of s at (record { said = reader.map (length es); size = length h }) (ap token split ∙ token_complete (reader.map (length es)) fits (flat_map enc es ++ rest)), behind s at h (flat_map enc es ++ rest) split)

  field_of : (at p n : ℕ) → read_at s at ≡ Ok (record { said = reader.map n; place = at; end = p }) → (found : Option ℕ) → seek_at wanted s n p ≡ found → field_at wanted s at ≡ given found (λ value. held_at s value)
  unfolding field_at given
  field_of at p n r found e = rw (r, e) refl

  -- a value is handed out with its bytes
  held_of : (p : ℕ) (v : Value levels) (rest : List ℕ) → Canonical levels v → drop p s ≡ encode levels v ++ rest → (h : Held) × (held_at s p ≡ Some h) × (read_at s h.found.place ≡ Ok h.found) × (h.raw ≡ encode levels v) × (drop h.found.place s ≡ h.raw ++ rest)
  unfolding held_at given
  held_of p v rest fine e =
      let ends = end_of s p levels l v fine rest e in
      let t = some-token s p levels v fine rest e in
      let r = read_of s p t.0 t.1 in
      let n : p + length (encode levels v) - p ≡ length (encode levels v) = omega arith in
      let raw : take (p + length (encode levels v) - p) (drop p s) ≡ encode levels v = ap (λ j. take j (drop p s)) n ∙ ap (take (length (encode levels v))) e ∙ take_at (encode levels v) rest (length (encode levels v)) refl in
      (record { found = found_at p t.0; raw = take (p + length (encode levels v) - p) (drop p s) }, rw (r, ends) refl, r, raw, e ∙ ap (λ x. x ++ rest) (sym raw))

-- an entry among others is canonical
entry_fine : (levels : ℕ) (front back : List (Leaf × Value levels)) (k : Leaf) (v : Value levels) (before : List ℕ) → Entries (Canonical levels) before (front ++ (k, v) ∷ back) → Canonical levels v
entry_fine levels [] back k v before fine = fine.3
entry_fine levels (x ∷ front) back k v before fine = entry_fine levels front back k v (encode_leaf x.0) fine.4

pub finds : (wanted : Said → Bool) (s : List ℕ) (at : ℕ) → Finds wanted s at
unfolding given enc
finds wanted s at =
    record {
      some = λ levels less front back k v rest fine e other here.
          let l : levels ≤ deepest = omega arith in
          let all = front ++ (k, v) ∷ back in
          let o = opened wanted s levels l at all rest fine.0 e in
          let q = seek-some wanted s levels l front back k v [] o.0 rest fine.1 o.2 other here in
          let h = held_of wanted s levels l q.0 v (flat_map (encode_entry (encode levels)) back ++ rest) (entry_fine levels front back k v [] fine.1) q.2 in
          (h.0, field_of wanted s levels l at o.0 (length all) o.1 (Some q.0) q.1 ∙ h.1, h.2, h.3, h.4);
      none = λ levels less es rest fine e other.
          let l : levels ≤ deepest = omega arith in
          let o = opened wanted s levels l at es rest fine.0 e in
          field_of wanted s levels l at o.0 (length es) o.1 None (seek-nothing wanted s levels l es [] o.0 rest fine.1 o.2 other);
    }
