-- The entries of slots: exactly those that lead from one list of records to another.
use Rattle.std.proofs.Common.{◌≡◌, ℕ, zero, suc, ◌+◌, ◌-◌, ◌≤◌, Bool, true, false, cond, List, [], ◌∷◌, ◌++◌, map, length, replicate, Some, None, Ok, Err, Option, Result, sym, refl, ap, ◌∙◌, arith}
use Rattle.std.specs.Str.{bytes_eq}
use Rattle.std.specs.List.{AllByRecursion as All}
use Rattle.std.proofs.lemmas.List.Edits.{length-remove}
use Rattle.std.proofs.lemmas.Slice.Eq.{bytes_eq-Decides}
use Rattle.std.proofs.lemmas.List.{append_assoc, append-nil, length_push}
use Rattle.std.proofs.lemmas.Bool.{ltb-true, lt-ltb}
use Rattle.credential.specs.Rec.{Rec}
use Rattle.credential.specs.Slot.{Entry, put, gone, Content, empty, holds, free, written, Fit, content_of}
use Rattle.credential.proofs.Slots.{content-free, content-written, slot-content}
use Rattle.image.specs.declared.kind.Kind.{Kind}
use Rattle.image.specs.declared.kind.Kind.TheVariants.{Table, Log}
use Rattle.image.specs.Opening.{is_allowed, counted, before, by_slot, unused, entries, at_slot, counts}
use Rattle.image.specs.Replay.{after, replay}
use Rattle.image.specs.Laws.{Leads, done, came, went}
use Rattle.image.proofs.Led.{Within, within_push, within_removed}
use Rattle.image.proofs.Tally.{counted_all, tally}

-- all entries are within their limits
abbrev pub Fits : List Entry → Type 0
Fits es = All (λ e. Fit (holds e)) es

pub never : {X Y : Type 0} {x : X} {y : Y} {P : Type 0} → ◌≡◌ {A = Result X Y} (Err y) (Ok x) → P
never h = absurd (let z : ◌≡◌ {A = ℕ} 0 1 = cc in omega arith)

pub impossible : {P : Type 0} → false ≡ true → P
impossible h = absurd (let z : ◌≡◌ {A = ℕ} 0 1 = cc in omega arith)

cond_ok : {X Y : Type 0} (b : Bool) (r : Result X Y) (y : Y) (x : X) → cond b r (Err y) ≡ Ok x → (b ≡ true) × (r ≡ Ok x)
cond_ok true r y x h = (refl, h)
cond_ok false r y x h = never h

before_ok : (e : Entry) (r : Result (List Entry) ℕ) (es : List Entry) → before e r ≡ Ok es → (fs : List Entry) × (r ≡ Ok fs) × (es ≡ e ∷ fs)
before_ok e (Ok fs) es h = (fs, refl, cc)
before_ok e (Err bad) es h = never h

same-free : (s : List ℕ) → bytes_eq s free ≡ true → s ≡ free
same-free s h = (bytes_eq-Decides s free).0 h

-- an allowed entry leads on
leads_on : (kind : Kind) (capacity : ℕ) (rs : List Rec) (e : Entry) (es : List Entry) (end : List Rec) → is_allowed kind capacity (length rs) e ≡ true → Fit (holds e) → Leads kind capacity (after rs e) es end → Leads kind capacity rs (e ∷ es) end
leads_on kind capacity rs (put r) es end ok fit on = came (ltb-true (length rs) capacity ok) fit on
leads_on Table capacity rs (gone place) es end ok fit on = impossible ok
leads_on Log capacity rs (gone place) es end ok fit on = went refl (ltb-true place (length rs) ok) on

-- the number of records after an allowed entry
counted_is : (kind : Kind) (capacity : ℕ) (rs : List Rec) (e : Entry) → is_allowed kind capacity (length rs) e ≡ true → counted (length rs) e ≡ length (after rs e)
counted_is kind capacity rs (put r) ok = sym (length_push rs r)
counted_is Table capacity rs (gone place) ok = impossible ok
counted_is Log capacity rs (gone place) ok = omega (arith, length-remove rs place (ltb-true place (length rs) ok))

unused_sound : (ss : List (List ℕ)) (k : ℕ) (es : List Entry) → unused k ss ≡ Ok es → (es ≡ []) × (ss ≡ replicate (length ss) free)
unfolding unused
unused_sound [] k es h = (cc, refl)
unused_sound (s ∷ ss) k es h =
    let p = cond_ok (bytes_eq s free) (unused (suc k) ss) k es h in
    let q = unused_sound ss (suc k) es p.1 in
    let is = same-free s p.0 in
    (q.0, (cc))

unused-free : (n k : ℕ) → unused k (replicate n free) ≡ Ok []
unfolding unused
unused-free zero k = refl
unused-free (suc n) k = rw ((bytes_eq-Decides free free).1 refl) (unused-free n (suc k))

-- slots whose entries lead on from a list of records
pub record Read (kind : Kind) (capacity : ℕ) (ss : List (List ℕ)) (rs : List Rec) (es : List Entry) : Type 0 where
  pub leads : Leads kind capacity rs es (replay rs es)
  pub fit : length es ≤ length ss
  pub are : ss ≡ map written es ++ replicate (length ss - length es) free

read_none : (kind : Kind) (capacity : ℕ) (ss : List (List ℕ)) (rs : List Rec) (es : List Entry) → es ≡ [] → ss ≡ replicate (length ss) free → Read kind capacity ss rs es
unfolding replay
read_none kind capacity ss rs es is free =
    let n : length ss - 0 ≡ length ss = omega arith in
    rw is (record { leads = done; fit = omega arith; are = rw n free })

read_more :
    (kind : Kind) (capacity : ℕ) (s : List ℕ) (ss : List (List ℕ)) (rs : List Rec) (e : Entry) (es : List Entry) → is_allowed kind capacity (length rs) e ≡ true
    → Fit (holds e) → s ≡ written e → Read kind capacity ss (after rs e) es → Read kind capacity (s ∷ ss) rs (e ∷ es)
unfolding replay
read_more kind capacity s ss rs e es ok fit is on =
    let n : suc (length ss) - suc (length es) ≡ length ss - length es = omega arith in
    record {
      leads = leads_on kind capacity rs e es _ ok fit on.leads;
      fit = omega (arith, on.fit);
      are = rw (n, is) (ap (λ l. written e ∷ l) on.are);
    }

read-slot :
    (kind : Kind) (capacity k : ℕ) (s : List ℕ) (ss : List (List ℕ)) (rs : List Rec) (es : List Entry)
    → ((at : List Rec) (fs : List Entry) → entries kind capacity (suc k) (length at) ss ≡ Ok fs → Read kind capacity ss at fs)
    → (c : Option Content) → content_of s ≡ c
    → by_slot c (Err k) (unused (suc k) ss) (λ e. cond (is_allowed kind capacity (length rs) e) (before e (entries kind capacity (suc k) (counted (length rs) e) ss)) (Err k)) ≡ Ok es
    → Read kind capacity (s ∷ ss) rs es
read-slot kind capacity k s ss rs es more None is h = never h
read-slot kind capacity k s ss rs es more (Some empty) is h =
    let p = unused_sound ss (suc k) es h in
    let f = (slot-content s empty is).1 in
    read_none kind capacity (s ∷ ss) rs es p.0 (rw f (ap (λ l. free ∷ l) p.1))
read-slot kind capacity k s ss rs es more (Some (holds e)) is h =
    let p = cond_ok (is_allowed kind capacity (length rs) e) _ k es h in
    let q = before_ok e _ es p.1 in
    let w = slot-content s (holds e) is in
    let on = more (after rs e) q.0 (ap (λ n. entries kind capacity (suc k) n ss) (sym (counted_is kind capacity rs e p.0)) ∙ q.1) in
    rw q.2 (read_more kind capacity s ss rs e q.0 p.0 w.0 w.1 on)

-- what the slots hold leads on
pub entries_sound : (kind : Kind) (capacity k : ℕ) (ss : List (List ℕ)) (rs : List Rec) (es : List Entry) → entries kind capacity k (length rs) ss ≡ Ok es → Read kind capacity ss rs es
unfolding entries
entries_sound kind capacity k [] rs es h = read_none kind capacity [] rs es (cc) refl
entries_sound kind capacity k (s ∷ ss) rs es h =
    read-slot kind capacity k s ss rs es (λ at fs g. entries_sound kind capacity (suc k) ss at fs g) (content_of s) refl h

free_slots : (kind : Kind) (capacity k count n : ℕ) → entries kind capacity k count (replicate n free) ≡ Ok []
unfolding entries
free_slots kind capacity k count zero = refl
free_slots kind capacity k count (suc n) = rw content-free (unused-free n (suc k))

-- entries that lead on are what their slots hold
pub entries_complete :
    (kind : Kind) (capacity : ℕ) {rs : List Rec} {es : List Entry} {end : List Rec} → Leads kind capacity rs es end
    → (k n : ℕ) → entries kind capacity k (length rs) (map written es ++ replicate n free) ≡ Ok es
unfolding entries
entries_complete kind capacity {rs} done k n = free_slots kind capacity k (length rs) n
entries_complete kind capacity {rs} (came {r = r} {es = es} lt within on) k n =
    rw (content-written (put r) within, lt-ltb (length rs) capacity lt, ← length_push rs r) (ap (before (put r)) (entries_complete kind capacity on (suc k) n))
entries_complete kind capacity {rs} (went {place = place} {es = es} log lt on) k n =
    let ok : is_allowed kind capacity (length rs) (gone place) ≡ true = ap (λ k. is_allowed k capacity (length rs) (gone place)) log ∙ lt-ltb place (length rs) lt in
    rw (content-written (gone place) tt, ok, counted_is kind capacity rs (gone place) ok) (ap (before (gone place)) (entries_complete kind capacity on (suc k) n))

pub leads-replay : (kind : Kind) (capacity : ℕ) {rs : List Rec} {es : List Entry} {end : List Rec} → Leads kind capacity rs es end → end ≡ replay rs es
unfolding replay
leads-replay kind capacity done = refl
leads-replay kind capacity (came lt within on) = leads-replay kind capacity on
leads-replay kind capacity (went log lt on) = leads-replay kind capacity on

pub leads_fit : (kind : Kind) (capacity : ℕ) {rs : List Rec} {es : List Entry} {end : List Rec} → Leads kind capacity rs es end → Fits es
leads_fit kind capacity done = tt
leads_fit kind capacity (came lt within on) = (within, leads_fit kind capacity on)
leads_fit kind capacity (went log lt on) = (tt, leads_fit kind capacity on)

-- the number of records at the end
pub leads_count : (kind : Kind) (capacity : ℕ) {rs : List Rec} {es : List Entry} {end : List Rec} → Leads kind capacity rs es end → counted_all (length rs) es ≡ length end
leads_count kind capacity done = refl
leads_count kind capacity {rs} (came {r = r} {es = es} lt within on) = ap (λ n. counted_all n es) (sym (length_push rs r)) ∙ leads_count kind capacity on
leads_count kind capacity {rs} (went {place = place} {es = es} log lt on) =
    let n : length rs - 1 ≡ length (after rs (gone place)) = omega (arith, length-remove rs place lt) in
    ap (λ n. counted_all n es) n ∙ leads_count kind capacity on

counts_at : (kind : Kind) (capacity : ℕ) (ss : List (List ℕ)) (r : Result (List Entry) ℕ) → entries kind capacity 0 0 ss ≡ r → counts (at_slot r) ≡ tally 0 0 (at_slot r)
counts_at kind capacity ss (Ok es) h =
    let count = leads_count kind capacity (entries_sound kind capacity 0 ss [] es h).leads in
    let used : 0 + length es ≡ length es = omega arith in
    rw (used, count)
counts_at kind capacity ss (Err bad) h = refl

-- what was counted slot by slot is the number of used slots and the length of the list
pub counts-tally : (kind : Kind) (capacity : ℕ) (ss : List (List ℕ)) → counts (at_slot (entries kind capacity 0 0 ss)) ≡ tally 0 0 (at_slot (entries kind capacity 0 0 ss))
counts-tally kind capacity ss = counts_at kind capacity ss (entries kind capacity 0 0 ss) refl

-- entries that lead on from where others led
pub leads_join :
    (kind : Kind) (capacity : ℕ) {rs : List Rec} {es : List Entry} {mid : List Rec} {fs : List Entry} {end : List Rec}
    → Leads kind capacity rs es mid → Leads kind capacity mid fs end → Leads kind capacity rs (es ++ fs) end
leads_join kind capacity done on = on
leads_join kind capacity (came lt within first) on = came lt within (leads_join kind capacity first on)
leads_join kind capacity (went log lt first) on = went log lt (leads_join kind capacity first on)

-- records that are put one after another
pub leads_puts : (kind : Kind) (capacity : ℕ) (rs new : List Rec) → length rs + length new ≤ capacity → Within new → Leads kind capacity rs (map put new) (rs ++ new)
leads_puts kind capacity rs [] le within = rw (append-nil rs) done
leads_puts kind capacity rs (r ∷ new) le within =
    let on = leads_puts kind capacity (rs ++ r ∷ []) new (omega (arith, length_push rs r)) within.1 in
    came (omega arith) within.0 (rw (append_assoc rs (r ∷ []) new) at on)

-- the records at the end are within their limits
pub leads_within : (kind : Kind) (capacity : ℕ) {rs : List Rec} {es : List Entry} {end : List Rec} → Leads kind capacity rs es end → Within rs → Within end
leads_within kind capacity done all = all
leads_within kind capacity {rs} (came {r = r} lt within on) all = leads_within kind capacity on (within_push rs r all within)
leads_within kind capacity {rs} (went {place = place} log lt on) all = leads_within kind capacity on (within_removed rs place all)

-- the records at the end are not more than the store lists
pub leads_bound :
    (kind : Kind) (capacity : ℕ) {rs : List Rec} {es : List Entry} {end : List Rec} → Leads kind capacity rs es end → length rs ≤ capacity → length end ≤ capacity
leads_bound kind capacity done le = le
leads_bound kind capacity {rs} (came {r = r} lt within on) le = leads_bound kind capacity on (omega (arith, length_push rs r))
leads_bound kind capacity {rs} (went {place = place} log lt on) le = leads_bound kind capacity on (omega (arith, length-remove rs place lt))

pub replay_join : (rs : List Rec) (es fs : List Entry) → replay rs (es ++ fs) ≡ replay (replay rs es) fs
unfolding replay
replay_join rs [] fs = refl
replay_join rs (e ∷ es) fs = replay_join (after rs e) es fs
