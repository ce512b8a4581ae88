-- What is read of a slot: exactly what was written there.
use Rattle.std.proofs.Common.{◌≡◌, ℕ, ◌+◌, ◌-◌, ◌≤◌, Bool, true, false, cond, ◌&&◌, List, ◌++◌, length, get_or, take, drop, replicate, Some, None, Option, sym, refl, ap, ◌∙◌, subst, arith}
use Rattle.std.specs.Str.{bytes_eq}
use Rattle.std.proofs.lemmas.Slice.Eq.{bytes_eq-Decides}
use Rattle.std.proofs.lemmas.List.{append_assoc, length-append, length-replicate, take_at, drop_at, drop-drop, length-drop}
use Rattle.std.proofs.lemmas.Bool.Decides.{nat_tests}
use Rattle.credential.specs.Rec.{Rec, is_within}
use Rattle.credential.specs.Slot.{Entry, put, gone, Content, empty, holds, field, slot, withdrawal, free, written, slot_of, Fit, piece, fields_in, record_in, content_of, Exactly}

-- the limits of a record, as facts
pub record Limits (r : Rec) : Type 0 where
  pub rp : length r.rp_id ≤ 128
  pub user : length r.user_id ≤ 64
  pub called : length r.name ≤ 64
  pub shown : length r.display_name ≤ 64
  pub id : length r.credential_id ≡ 32
  pub x : length r.x ≡ 32
  pub y : length r.y ≡ 32

pub limits : (r : Rec) → is_within r ≡ true → Limits r
unfolding is_within
limits r h = record {
  rp = grind (arith, nat_tests);
  user = grind (arith, nat_tests);
  called = grind (arith, nat_tests);
  shown = grind (arith, nat_tests);
  id = grind (arith, nat_tests);
  x = grind (arith, nat_tests);
  y = grind (arith, nat_tests);
}

pub length_field : (size : ℕ) (bs : List ℕ) → length bs ≤ size → length (field size bs) ≡ size
length_field size bs le = grind (arith, length-append, length-replicate)

pub length-free : length free ≡ 512
unfolding free
length-free = refl

pub length-withdrawal : (place : ℕ) → length (withdrawal place) ≡ 512
unfolding withdrawal
length-withdrawal place = refl

-- what follows a part that begins at an offset
behind : (at n : ℕ) (bs part rest : List ℕ) → drop at bs ≡ part ++ rest → length part ≡ n → drop (at + n) bs ≡ rest
behind at n bs part rest e long = sym (drop-drop n at bs) ∙ ap (drop n) e ∙ drop_at part rest n long

-- a part that begins at an offset
starts : (at n : ℕ) (bs part rest : List ℕ) → drop at bs ≡ part ++ rest → length part ≡ n → piece at n bs ≡ part
starts at n bs part rest e long = ap (take n) e ∙ take_at part rest n long

-- a text that begins at an offset, in its field
starts-field : (at n size : ℕ) (bs part rest : List ℕ) → drop at bs ≡ field size part ++ rest → length part ≡ n → piece at n bs ≡ part
starts-field at n size bs part rest e long = starts at n bs part (replicate (size - length part) 0 ++ rest) (e ∙ append_assoc part (replicate (size - length part) 0) rest) long

module _ (r : Rec) (l : Limits r) where
  -- what lies behind each field
  y-on : List ℕ
  y-on = r.y ++ replicate 80 0

  x-on : List ℕ
  x-on = r.x ++ y-on

  id-on : List ℕ
  id-on = r.credential_id ++ x-on

  shown-on : List ℕ
  shown-on = field 64 r.display_name ++ id-on

  called_on : List ℕ
  called_on = field 64 r.name ++ shown-on

  user-on : List ℕ
  user-on = field 64 r.user_id ++ called_on

  rp-on : List ℕ
  rp-on = field 128 r.rp_id ++ user-on

  from-16 : drop 16 (slot r) ≡ rp-on
  unfolding slot rp-on user-on called_on shown-on id-on x-on y-on
  from-16 = refl

  from-144 : drop 144 (slot r) ≡ user-on
  unfolding rp-on
  from-144 = behind 16 128 (slot r) (field 128 r.rp_id) user-on from-16 (length_field 128 r.rp_id l.rp)

  from-208 : drop 208 (slot r) ≡ called_on
  unfolding user-on
  from-208 = behind 144 64 (slot r) (field 64 r.user_id) called_on from-144 (length_field 64 r.user_id l.user)

  from-272 : drop 272 (slot r) ≡ shown-on
  unfolding called_on
  from-272 = behind 208 64 (slot r) (field 64 r.name) shown-on from-208 (length_field 64 r.name l.called)

  from-336 : drop 336 (slot r) ≡ id-on
  unfolding shown-on
  from-336 = behind 272 64 (slot r) (field 64 r.display_name) id-on from-272 (length_field 64 r.display_name l.shown)

  from-368 : drop 368 (slot r) ≡ x-on
  unfolding id-on
  from-368 = behind 336 32 (slot r) r.credential_id x-on from-336 l.id

  from-400 : drop 400 (slot r) ≡ y-on
  unfolding x-on
  from-400 = behind 368 32 (slot r) r.x y-on from-368 l.x

  from-432 : drop 432 (slot r) ≡ replicate 80 0
  unfolding y-on
  from-432 = behind 400 32 (slot r) r.y (replicate 80 0) from-400 l.y

  -- the fields are found where they were written
  fields-slot : fields_in (slot r) ≡ r
  unfolding fields_in slot rp-on user-on called_on shown-on id-on x-on y-on
  fields-slot =
      λ i. record {
        rp_id = starts-field 16 (length r.rp_id) 128 (slot r) r.rp_id user-on from-16 refl i;
        user_id = starts-field 144 (length r.user_id) 64 (slot r) r.user_id called_on from-144 refl i;
        name = starts-field 208 (length r.name) 64 (slot r) r.name shown-on from-208 refl i;
        display_name = starts-field 272 (length r.display_name) 64 (slot r) r.display_name id-on from-272 refl i;
        credential_id = starts 336 32 (slot r) r.credential_id x-on from-336 l.id i;
        x = starts 368 32 (slot r) r.x y-on from-368 l.x i;
        y = starts 400 32 (slot r) r.y (replicate 80 0) from-400 l.y i;
        cred_protect = r.cred_protect;
      }

  length-slot : length (slot r) ≡ 512
  length-slot = omega (arith, length-drop 432 (slot r), ap length from-432)

same_refl : (bs : List ℕ) → bytes_eq bs bs ≡ true
same_refl bs = (bytes_eq-Decides bs bs).1 refl

pub content-free : content_of free ≡ Some empty
unfolding content_of
content-free = rw (same_refl free) refl

content-gone : (place : ℕ) → content_of (withdrawal place) ≡ Some (holds (gone place))
unfolding content_of withdrawal free
content-gone place = rw (same_refl (withdrawal place)) refl

record_in_lem : (bs : List ℕ) (r : Rec) → is_within r ≡ true → bytes_eq bs (slot r) ≡ true → record_in bs r ≡ Some (holds (put r))
unfolding record_in
record_in_lem bs r w e = rw (w, e) refl

no_other : (r : Rec) → content_of (slot r) ≡ record_in (slot r) (fields_in (slot r))
unfolding content_of slot withdrawal free
no_other r = refl

content-put : (r : Rec) → is_within r ≡ true → content_of (slot r) ≡ Some (holds (put r))
content-put r w =
    no_other r ∙ ap (record_in (slot r)) (fields-slot r (limits r w)) ∙ record_in_lem (slot r) r w (same_refl (slot r))

-- what was written is read
pub content-written : (e : Entry) → Fit (holds e) → content_of (written e) ≡ Some (holds e)
content-written (put r) fit = content-put r fit
content-written (gone place) fit = content-gone place

pub content-slot : (c : Content) → Fit c → content_of (slot_of c) ≡ Some c
content-slot empty fit = content-free
content-slot (holds e) fit = content-written e fit

pub length-written : (e : Entry) → Fit (holds e) → length (written e) ≡ 512
length-written (put r) fit = length-slot r (limits r fit)
length-written (gone place) fit = length-withdrawal place

-- what is read is what was written
Meant : List ℕ → Content → Type 0
Meant bs c = Fit c × (bs ≡ slot_of c)

meant_as : (bs : List ℕ) (c d : Content) → Some c ≡ Some d → Meant bs c → Meant bs d
meant_as bs c d e m = let is : c ≡ d = cc in subst (Meant bs) is m

nothing : {P : Type 0} (c : Content) → None ≡ Some c → P
nothing c e = absurd (cc)

of_record : (bs : List ℕ) (r : Rec) (w same : Bool) → is_within r ≡ w → bytes_eq bs (slot r) ≡ same → (c : Content) → cond (w && same) (Some (holds (put r))) None ≡ Some c → Meant bs c
unfolding Meant
of_record bs r true true p q c e = meant_as bs (holds (put r)) c e (p, (bytes_eq-Decides bs (slot r)).0 q)
of_record bs r true false p q c e = nothing c e
of_record bs r false same p q c e = nothing c e

of_others : (bs : List ℕ) (is_free is-gone : Bool) → bytes_eq bs free ≡ is_free → bytes_eq bs (withdrawal (get_or bs 6 0)) ≡ is-gone → (c : Content)
    → cond is_free (Some empty) (cond is-gone (Some (holds (gone (get_or bs 6 0)))) (record_in bs (fields_in bs))) ≡ Some c → Meant bs c
unfolding Meant record_in
of_others bs true is-gone p q c e = meant_as bs empty c e (tt, (bytes_eq-Decides bs free).0 p)
of_others bs false true p q c e = meant_as bs (holds (gone (get_or bs 6 0))) c e (tt, (bytes_eq-Decides bs (withdrawal (get_or bs 6 0))).0 q)
of_others bs false false p q c e = of_record bs (fields_in bs) (is_within (fields_in bs)) (bytes_eq bs (slot (fields_in bs))) refl refl c e

pub slot-content : (bs : List ℕ) (c : Content) → content_of bs ≡ Some c → Fit c × (bs ≡ slot_of c)
unfolding content_of Meant
slot-content bs c e = of_others bs (bytes_eq bs free) (bytes_eq bs (withdrawal (get_or bs 6 0))) refl refl c e

pub length-slot_of : (c : Content) → Fit c → length (slot_of c) ≡ 512
length-slot_of empty fit = length-free
length-slot_of (holds e) fit = length-written e fit

-- bytes of another length are no slot
no-content : (bs : List ℕ) (o : Option Content) → content_of bs ≡ o → (length bs ≡ 512 → ⊥) → o ≡ None
no-content bs None e ne = refl
no-content bs (Some c) e ne =
    let m = slot-content bs c e in
    absurd (ne (ap length m.1 ∙ length-slot_of c m.0))

pub content_other : (bs : List ℕ) → (length bs ≡ 512 → ⊥) → content_of bs ≡ None
content_other bs ne = no-content bs (content_of bs) refl ne

pub exact : (bs : List ℕ) → Exactly bs
exact bs = record { sound = slot-content bs; complete = λ c fit e. ap content_of e ∙ content-slot c fit }
