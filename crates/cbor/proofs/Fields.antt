-- Items at places of a message, and one turn of the finder.
use Rattle.std.proofs.Common.{◌≡◌, ℕ, suc, ◌+◌, ◌-◌, ◌<◌, ◌≤◌, min, Bool, true, false, List, length, drop, Some, None, Ok, Err, Result, sym, refl, ap, ◌∙◌, arith, length-drop}
use Rattle.std.proofs.lemmas.List.{drop-drop}
use Rattle.std.specs.Result.{result_ok}
use Rattle.cbor.specs.Steps.{given, or_fail}
use Rattle.cbor.specs.Reader.{Said, Found, token, item, deepest, placed, read_at}
use Rattle.cbor.specs.Meaning.{meant, read_told}
use Rattle.cbor.specs.declared.item.Item.{Item}
use Rattle.cbor.specs.declared.item.Item.TheVariants.{Number, Negative, Bytes, Text, Array, Map, False, True, Null}
use Rattle.cbor.specs.declared.item.Part.{Part}
use Rattle.cbor.specs.declared.item.Fault.{Fault}
use Rattle.cbor.specs.Finder.{entry_count, end_at, seek_at, field_at}
use Rattle.cbor.proofs.Rests.{Rest, rest_of_rest, rest_place, item_rest}
use Rattle.cbor.proofs.Tokens.{Has, token_size}

-- an answer that is no item is a fault
pub no_item : (r : Result Part Fault) (x : Result Found ℕ) → read_told r ≡ x → ((p : Part) → r ≡ Ok p → ⊥) → (p : ℕ) × (Err p ≡ x)
no_item (Ok p) x e h = absurd (h p refl)
no_item (Err f) x e h = (f.place, e)

-- what is no map has no entries
pub no_map : (i : Item) → ((n : ℕ) → i ≡ Map n → ⊥) → entry_count (meant i) ≡ None
no_map (Number n) h = refl
no_map (Negative n) h = refl
no_map (Bytes s) h = refl
no_map (Text s) h = refl
no_map (Array n) h = refl
no_map (Map n) h = absurd (h n refl)
no_map False h = refl
no_map True h = refl
no_map Null h = refl

-- what `ok()` makes of an answer
pub ok_none : {T E : Type 0} (r : Result T E) → None ≡ result_ok r → (e : E) × (r ≡ Err e)
ok_none (Ok v) h = cc
ok_none (Err e) h = (e, refl)

pub ok_some : {T E : Type 0} (r : Result T E) (v : T) → Some v ≡ result_ok r → r ≡ Ok v
ok_some (Ok w) v h = let q : w ≡ v = cc in ap Ok q
ok_some (Err e) v h = cc

-- the unread bytes at a place of a message
module _ (s : List ℕ) (at : ℕ) (us : List ℕ) (is : drop at s ≡ us) where
  pub read_lacks : (p : ℕ) → p ≡ min at (length s) → token us ≡ None → Err p ≡ read_at s at
  unfolding read_at or_fail
  read_lacks p h e = rw (is, e, h) refl

  module _ (said : Said) (spelled behind : List ℕ) (h : Has us (token us) said spelled behind) where
    pub behind_rest : Rest s behind
    behind_rest = record { skipped = at + h.found.size; is = sym (drop-drop h.found.size at s) ∙ ap (drop h.found.size) is ∙ h.behind_is }

    pub value_at : drop (length s - length behind) s ≡ behind
    value_at = rest_place s behind behind_rest

    sizes : (length s - length behind ≡ at + h.found.size) × (at < length s - length behind) × (length s - length behind ≤ length s)
    sizes =
        let size = token_size us h.found h.is in
        let e = ap length h.behind_is in
        let d = ap length is in
        let all : (length s - at ≡ length us) × (length us - h.found.size ≡ length behind) = (sym (length-drop at s) ∙ d, sym (length-drop h.found.size us) ∙ e) in
        (omega (arith, size.0, size.1, all.0, all.1), omega (arith, size.0, size.1, all.0, all.1), omega arith)

    pub read_within : (at < length s - length behind) × (length s - length behind ≤ length s)
    read_within = (sizes.1, sizes.2)

    pub read_found : Ok (record { said = said; place = at; end = length s - length behind }) ≡ read_at s at
    unfolding read_at or_fail
    read_found = rw (is, h.is, h.said_is, sizes.0) refl

  pub ends : (rest : List ℕ) → Ok rest ≡ item deepest us → Some (length s - length rest) ≡ end_at s at
  unfolding end_at placed
  ends rest e = rw (is, ← e) refl

  pub no_end : (rest : List ℕ) → Err rest ≡ item deepest us → None ≡ end_at s at
  unfolding end_at placed
  no_end rest e = rw (is, ← e) refl

module _ (wanted : Said → Bool) (s : List ℕ) (n i at : ℕ) where
  pub seek_none : n ≤ i → seek_at wanted s (n - i) at ≡ None
  unfolding seek_at
  seek_none h = let e : n - i ≡ 0 = omega arith in rw e refl

  module _ (us : List ℕ) (is : drop at s ≡ us) (more : i < n) where
    step : n - i ≡ suc (n - (i + 1))
    step = omega arith

    pub seek_lost : token us ≡ None → seek_at wanted s (n - i) at ≡ None
    unfolding seek_at given
    seek_lost e = rw (step, ← read_lacks s at us is (min at (length s)) refl e) refl

    module _ (said : Said) (spelled behind : List ℕ) (h : Has us (token us) said spelled behind) where
      pub seek_found : wanted said ≡ true → seek_at wanted s (n - i) at ≡ Some (length s - length behind)
      unfolding seek_at given
      seek_found w = rw (step, ← read_found s at us is said spelled behind h, w) refl

      pub seek_cut : (rest : List ℕ) → wanted said ≡ false → Err rest ≡ item deepest behind → seek_at wanted s (n - i) at ≡ None
      unfolding seek_at given
      seek_cut rest w e = rw (step, ← read_found s at us is said spelled behind h, w, ← no_end s (length s - length behind) behind (value_at s at us is said spelled behind h) rest e) refl

      pub seek_more : (rest : List ℕ) → wanted said ≡ false → Ok rest ≡ item deepest behind → (p : ℕ) × (drop p s ≡ rest) × (seek_at wanted s (n - (i + 1)) p ≡ seek_at wanted s (n - i) at)
      unfolding seek_at given
      seek_more rest w e = (
        length s - length rest,
        rest_place s rest (rest_of_rest s behind rest (behind_rest s at us is said spelled behind h) (item_rest deepest behind rest e)),
        rw (step, ← read_found s at us is said spelled behind h, w, ← ends s (length s - length behind) behind (value_at s at us is said spelled behind h) rest e) refl,
      )

pub field_other : (wanted : Said → Bool) (s : List ℕ) (at : ℕ) (f : Found) → Ok f ≡ read_at s at → entry_count f.said ≡ None → None ≡ field_at wanted s at
unfolding field_at given
field_other wanted s at f e c = rw (← e, c) refl
