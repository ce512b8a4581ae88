-- The parts of a record, laid one behind the other, are its slot.
use Rattle.std.proofs.Common.{◌≡◌, ℕ, ◌+◌, ◌-◌, ◌≤◌, List, [], ◌++◌, length, take, drop, replicate, sym, refl, ap, ◌∙◌, subst, arith}
use Rattle.std.proofs.lemmas.List.{append_assoc, append-nil, length-append, replicate-append-replicate, take_at, drop_at, drop-drop, drop-replicate}
use Rattle.credential.specs.Rec.{Rec}
use Rattle.credential.specs.Slot.{field, header, slot}
use Rattle.credential.proofs.Slots.{length_field}

-- a slot that is filled up to a place: zeros behind it
pub record Filled (at : ℕ) (front s : List ℕ) : Type 0 where
  pub size : length front ≡ at
  pub is : s ≡ front ++ replicate (512 - at) 0

pub filled_none : Filled 0 [] (replicate 512 0)
filled_none = record { size = refl; is = refl }

-- what lies before a place of a slot that is filled up to it, and some way behind it
before : {at : ℕ} {front s : List ℕ} → Filled at front s → take at s ≡ front
before {at} {front} h = ap (take at) h.is ∙ take_at front _ at h.size

left : {at : ℕ} {front s : List ℕ} (n : ℕ) → Filled at front s → drop (at + n) s ≡ replicate (512 - at - n) 0
left {at} {front} {s} n h =
    sym (drop-drop n at s) ∙ ap (λ l. drop n (drop at l)) h.is ∙ ap (drop n) (drop_at front _ at h.size) ∙ drop-replicate n (512 - at) 0

-- zeros behind a part: those of its field, and those behind it
zeros : (at n size to : ℕ) → n ≤ size → at + size ≡ to → to ≤ 512 → replicate {A = ℕ} (512 - at - n) 0 ≡ replicate (size - n) 0 ++ replicate (512 - to) 0
zeros at n size to le up fits =
    let k : 512 - at - n ≡ size - n + (512 - to) = omega arith in
    rw k (sym (replicate-append-replicate (size - n) (512 - to) 0))

joined : (s' a a' b c c' d e : List ℕ) → s' ≡ a ++ (b ++ c) → a ≡ a' → c ≡ c' → c' ≡ d ++ e → s' ≡ (a' ++ (b ++ d)) ++ e
joined s' a a' b c c' d e p q u v = rw (p, q, u, v) (sym (append_assoc a' (b ++ d) e ∙ ap (λ l. a' ++ l) (append_assoc b d e)))

-- one more part is written into its field
pub filled_more :
    {at : ℕ} {front s part s' : List ℕ} (size to : ℕ) (bs : List ℕ) → Filled at front s → part ≡ bs → length part ≤ size → at + size ≡ to → to ≤ 512
    → s' ≡ take at s ++ (part ++ drop (at + length part) s) → Filled to (front ++ field size bs) s'
filled_more {at} {front} {s} {part} {s'} size to bs h same le up fits e =
    subst (λ bs. Filled to (front ++ field size bs) s') same
    (record {
      size = omega (arith, h.size, length-append front (field size part), length_field size part le);
      is = joined s' _ front part _ _ _ _ e (before h) (left (length part) h) (zeros at (length part) size to le up fits);
    })

-- a part as long as its field is the field
field_whole : (size : ℕ) (bs : List ℕ) → length bs ≡ size → field size bs ≡ bs
field_whole size bs e =
    let none : size - length bs ≡ 0 = omega arith in
    ap (λ k. bs ++ replicate k 0) none ∙ append-nil bs

-- a field is written, with its zeros
pub filled_field :
    {at : ℕ} {front s part s' : List ℕ} (size to : ℕ) (bs : List ℕ) → Filled at front s → part ≡ field size bs → length bs ≤ size → at + size ≡ to → to ≤ 512
    → s' ≡ take at s ++ (part ++ drop (at + length part) s) → Filled to (front ++ field size bs) s'
filled_field {at} {front} {s} {part} {s'} size to bs h is le up fits e =
    let long : length (field size bs) ≡ size = length_field size bs le in
    let few : length part ≤ size = omega (arith, ap length is, long) in
    subst (λ l. Filled to (front ++ l) s') (field_whole size (field size bs) long) (filled_more size to (field size bs) h is few up fits e)

regroup :
    (h a b c d e f g z : List ℕ) → (((((((([] ++ h) ++ a) ++ b) ++ c) ++ d) ++ e) ++ f) ++ g) ++ z ≡ h ++ (a ++ (b ++ (c ++ (d ++ (e ++ (f ++ (g ++ z)))))))
regroup h a b c d e f g z = simp append_assoc

-- the fields of a record, one behind the other, are its slot
pub laid :
    (r : Rec) (s : List ℕ) → length r.credential_id ≡ 32 → length r.x ≡ 32 → length r.y ≡ 32
    → Filled 432 (((((((([] ++ field 16 (header r)) ++ field 128 r.rp_id) ++ field 64 r.user_id) ++ field 64 r.name) ++ field 64 r.display_name) ++ field 32 r.credential_id) ++ field 32 r.x) ++ field 32 r.y) s
    → s ≡ slot r
unfolding slot
laid r s i x y f =
    f.is
    ∙ regroup (field 16 (header r)) (field 128 r.rp_id) (field 64 r.user_id) (field 64 r.name) (field 64 r.display_name) (field 32 r.credential_id) (field 32 r.x) (field 32 r.y) (replicate 80 0)
    ∙ rw (field_whole 32 r.credential_id i, field_whole 32 r.x x, field_whole 32 r.y y) refl
