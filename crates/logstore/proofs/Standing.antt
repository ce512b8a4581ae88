-- What a log holds, and what compaction and one more entry make of it.
use Rattle.std.specs.Prelude.{◌≡◌, ℕ, ◌+◌, ◌-◌, ◌/◌, ◌%◌, ◌<◌, ◌≤◌, true, List, [], ◌∷◌, ◌++◌, map, length, get_or, drop, set, replicate, is_ok, Some, Ok, slice_index, slice_index_or, slice_set}
use Rattle.std.proofs.Common.{sym, ap, subst, ◌∙◌, ⊎_elim, arith}
use Rattle.std.proofs.lemmas.List.{append-nil, append_assoc, take_at, length-map, length_push, get_or-map}
use Rattle.std.proofs.ByRecursion.{All-get_or}
use Rattle.std.proofs.lemmas.Bool.{cond-true, cond-false, lt-ltb, le-ltb, cases_lt}
use Rattle.credential.specs.Rec.{Rec, is_within}
use Rattle.credential.specs.Slot.{Entry, put, holds, free, written, slot, content_of}
use Rattle.credential.proofs.Slots.{content-written}
use Rattle.image.specs.declared.kind.Kind.TheVariants.{Log}
use Rattle.image.specs.declared.image.Image.{Image}
use Rattle.image.specs.Cut.{cells, bytes_of, cleared}
use Rattle.image.specs.Laws.{imaged, Leads, Holds}
use Rattle.image.specs.Opening.{opened, or_none}
use Rattle.image.specs.Replay.{after, replay}
use Rattle.image.proofs.Imaged.{layout, layout_more, slots_of_lem}
use Rattle.image.proofs.Leading.{leads_bound, leads_join, leads_puts, leads_within, replay_join}
use Rattle.image.proofs.Stores.{opened_entries, opened_long, opened-cells, cells-opened, bytes_slots, same_slots}
use Rattle.logstore.specs.Cells.{Ahead, chosen, gathered}
use Rattle.logstore.specs.Log.{is_log, IsLogOf, entries_in, records_in, spared, logged}
use Rattle.logstore.specs.Places.{places_from}
use Rattle.logstore.proofs.Gathering.{length-chosen, length-gathered}
use Rattle.logstore.proofs.Listed.{chosen_listed}
use Rattle.logstore.proofs.Numbers.{ahead_listed}

-- the image is that of a log with these entries
pub record Stands (im : Image) (es : List Entry) : Type 0 where
  pub accepted : opened Log (bytes_of im) ≡ Ok es
  pub rules : Holds Log (length (cells im)) es (replay [] es)
  pub laid : cells im ≡ layout (length (cells im)) es
  pub whole : length (bytes_of im) % 512 ≡ 0

pub stands-opened : (im : Image) → is_log (bytes_of im) ≡ true → Stands im (entries_in (bytes_of im))
stands-opened im ok =
    let is = opened_entries Log (bytes_of im) ok in
    let all = opened-cells Log im (entries_in (bytes_of im)) is in
    record { accepted = is; rules = all.0; laid = all.1; whole = opened_long Log (bytes_of im) ok }

-- a log lists fewer records than it has slots
pub stands_few : (im : Image) (es : List Entry) → Stands im es → length (replay [] es) ≤ length (cells im) - 1
stands_few im es s = leads_bound Log (length (cells im) - 1) s.rules.leads (omega arith)

-- entries that lead to some records, in the slots of an image of as many bytes
stands_laid :
    (im next : Image) (es : List Entry) (rs : List Rec) → length (bytes_of next) ≡ length (bytes_of im) → length (bytes_of im) % 512 ≡ 0
    → Holds Log (length (cells im)) es rs → cells next ≡ layout (length (cells im)) es → Stands next es
stands_laid im next es rs same whole keeps are =
    let n = same_slots im next same in
    let whole' : length (bytes_of next) % 512 ≡ 0 = ap (λ l. l % 512) same ∙ whole in
    let all = cells-opened Log next es rs (rw n keeps) (are ∙ ap (λ k. layout k es) (sym n)) whole' in
    let both = opened-cells Log next es all.0 in
    record { accepted = all.0; rules = both.0; laid = both.1; whole = whole' }

pub stands_bytes : (im : Image) (es : List Entry) → Stands im es → bytes_of im ≡ imaged (length (bytes_of im) / 512) es
stands_bytes im es s = (cells-opened Log im es (replay [] es) s.rules s.laid s.whole).1 ∙ ap (λ n. imaged n es) (sym (bytes_slots im))

-- slots gathered and cleared behind
cleared-gathered :
    (ss : List (List ℕ)) (ps : List ℕ) → Ahead (length ss) ps → cleared (gathered ss ps) (length ps) ≡ chosen ss ps ++ replicate (length ss - length ps) free
unfolding gathered
cleared-gathered ss ps ahead =
    ap (λ l. l ++ replicate (length (gathered ss ps) - length ps) free) (take_at (chosen ss ps) (drop (length ps) ss) (length ps) (length-chosen ss ps))
    ∙ ap (λ n. chosen ss ps ++ replicate (n - length ps) free) (length-gathered ss ps ahead)

-- the slots of the listed records hold these records
pub picked_listed : (im : Image) (es : List Entry) (ps : List ℕ) → Stands im es → ps ≡ places_from 0 [] (cells im) → chosen (cells im) ps ≡ map slot (replay [] es)
picked_listed im es ps s are =
    ap (chosen (cells im)) are
    ∙ subst (λ l. chosen l (places_from 0 [] l) ≡ map slot (replay [] es)) (sym s.laid) (chosen_listed (length (cells im) - length es) s.rules.leads)

-- compaction leaves the listed records
compacted :
    (im next : Image) (es : List Entry) (ps : List ℕ) → length (bytes_of next) ≡ length (bytes_of im) → Stands im es → ps ≡ places_from 0 [] (cells im)
    → cells next ≡ cleared (gathered (cells im) ps) (length ps) → Stands next (map put (replay [] es))
compacted im next es ps same s are clears =
    let ss = cells im in
    let n = length ss in
    let rs = replay [] es in
    let few = stands_few im es s in
    let many = length-map rs put in
    let picked = picked_listed im es ps s are in
    let count : length ps ≡ length (map put rs) = sym (length-chosen ss ps) ∙ ap length picked ∙ length-map rs slot ∙ sym many in
    let ahead : Ahead n ps = subst (Ahead n) (sym are) (ahead_listed ss) in
    let is : cells next ≡ layout n (map put rs) =
    clears ∙ cleared-gathered ss ps ahead ∙ ap (λ l. l ++ replicate (n - length ps) free) (picked ∙ sym (slots_of_lem rs)) ∙ ap (λ k. map written (map put rs) ++ replicate (n - k) free) count in
    let keeps : Holds Log n (map put rs) rs =
    record {
      enough = s.rules.enough;
      few = s.rules.few;
      fit = omega arith;
      leads = leads_puts Log (n - 1) [] rs (omega arith) (leads_within Log (n - 1) s.rules.leads tt);
    } in
    stands_laid im next (map put rs) rs same s.whole keeps is

appended :
    (im next : Image) (es : List Entry) (e : Entry) (rs : List Rec) → length (bytes_of next) ≡ length (bytes_of im) → Stands im es → length es < length (cells im)
    → Leads Log (length (cells im) - 1) (replay [] es) (e ∷ []) rs → cells next ≡ slice_set (cells im) (length es) (written e) → Stands next (es ++ e ∷ [])
appended im next es e rs same s lt on writes =
    let n = length (cells im) in
    let keeps : Holds Log n (es ++ e ∷ []) rs =
    record {
      enough = s.rules.enough;
      few = s.rules.few;
      fit = omega (arith, length_push es e);
      leads = leads_join Log (n - 1) s.rules.leads on;
    } in
    stands_laid im next (es ++ e ∷ []) rs same s.whole keeps (writes ∙ ap (λ l. set l (length es) (written e)) s.laid ∙ layout_more n es e lt)

pub spared-free : (n : ℕ) (es : List Entry) → length es < n → spared n es ≡ es
unfolding spared
spared-free n es lt = cond-true _ es (map put (replay [] es)) (lt-ltb (length es) n lt)

pub spared_full : (n : ℕ) (es : List Entry) → n ≤ length es → spared n es ≡ map put (replay [] es)
unfolding spared
spared_full n es le = cond-false _ es (map put (replay [] es)) (le-ltb (length es) n le)

replay_from : (rs new : List Rec) → replay rs (map put new) ≡ rs ++ new
unfolding replay
replay_from rs [] = sym (append-nil rs)
replay_from rs (r ∷ new) = replay_from (rs ++ r ∷ []) new ∙ append_assoc rs (r ∷ []) new

-- records alone list themselves
pub replay_puts : (rs : List Rec) → replay [] (map put rs) ≡ rs
replay_puts rs = replay_from [] rs

-- compaction changes no list
pub replay-spared : (n : ℕ) (es : List Entry) → replay [] (spared n es) ≡ replay [] es
replay-spared n es =
    ⊎_elim (λ lt. ap (replay []) (spared-free n es lt)) (λ le. ap (replay []) (spared_full n es le) ∙ replay_puts (replay [] es)) (cases_lt (length es) n)

-- nor does it change the records
spared_records : (im spare : Image) → entries_in (bytes_of spare) ≡ spared (length (cells im)) (entries_in (bytes_of im)) → records_in (bytes_of spare) ≡ records_in (bytes_of im)
spared_records im spare e = ap (replay []) e ∙ replay-spared (length (cells im)) (entries_in (bytes_of im))

-- what the code knows of a log's image after a change
pub record Kept (next : Image) (es : List Entry) : Type 0 where
  pub ok : is_log (bytes_of next) ≡ true
  pub entries : entries_in (bytes_of next) ≡ es

kept : (next : Image) (es : List Entry) → Stands next es → Kept next es
kept next es s = record { ok = ap is_ok s.accepted; entries = ap or_none s.accepted }

-- compaction of a log that is used up
pub compaction :
    (im next : Image) (ps : List ℕ) → length (bytes_of next) ≡ length (bytes_of im) → is_log (bytes_of im) ≡ true → ps ≡ places_from 0 [] (cells im)
    → cells next ≡ cleared (gathered (cells im) ps) (length ps) → Kept next (map put (records_in (bytes_of im)))
compaction im next ps same ok are clears = kept next _ (compacted im next (entries_in (bytes_of im)) ps same (stands-opened im ok) are clears)

-- how many records a log lists, by the image that it holds
pub listed_at : {used count : ℕ} (im held : Image) → held ≡ im → IsLogOf (bytes_of held) used count → length (records_in (bytes_of im)) ≡ count
listed_at im held same is = ap (λ im. length (records_in (bytes_of im))) (sym same) ∙ is.listed

-- a log in which room was made: no slot of it was lost, and it lists the same records
pub record Spare (im spare : Image) (used count : ℕ) : Type 0 where
  pub as_long : length (bytes_of spare) ≡ length (bytes_of im)
  pub entries : entries_in (bytes_of spare) ≡ spared (length (cells im)) (entries_in (bytes_of im))
  pub stands : Stands spare (entries_in (bytes_of spare))
  pub filled : length (entries_in (bytes_of spare)) ≡ used
  pub listed : length (records_in (bytes_of im)) ≡ count
  pub free : used < length (cells spare)
  pub fewer : count < length (cells spare)
  pub few : length (cells spare) ≤ 64

pub spare_is :
    (im made spare : Image) (used count : ℕ) → spare ≡ made → IsLogOf (bytes_of spare) used count → entries_in (bytes_of made) ≡ spared (length (cells im)) (entries_in (bytes_of im))
    → length (bytes_of made) ≡ length (bytes_of im) → length (entries_in (bytes_of made)) < length (cells made) → Spare im spare used count
spare_is im made spare used count same is entries as_long free =
    let entries' : entries_in (bytes_of spare) ≡ spared (length (cells im)) (entries_in (bytes_of im)) = rw (← same) at entries in
    let free' : length (entries_in (bytes_of spare)) < length (cells spare) = rw (← same) at free in
    let stands = stands-opened spare is.opens in
    let few = stands_few spare _ stands in
    record {
      as_long = rw (← same) at as_long;
      entries = entries';
      stands = stands;
      filled = is.filled;
      listed = sym (ap length (spared_records im spare entries')) ∙ is.listed;
      free = omega (arith, is.filled);
      fewer = omega (arith, is.listed, stands.rules.enough);
      few = stands.rules.few;
    }

-- a log with one more entry, behind those that were spared
pub record Logged (im next : Image) (e : Entry) (used : ℕ) : Type 0 where
  pub ok : is_log (bytes_of next) ≡ true
  pub many : length (entries_in (bytes_of next)) ≡ used + 1
  pub records : records_in (bytes_of next) ≡ after (records_in (bytes_of im)) e
  pub bytes : bytes_of next ≡ logged (bytes_of im) e

pub one_more :
    (im spare next : Image) (e : Entry) (used count : ℕ) → Spare im spare used count → length (bytes_of next) ≡ length (bytes_of spare)
    → Leads Log (length (cells im) - 1) (records_in (bytes_of im)) (e ∷ []) (after (records_in (bytes_of im)) e)
    → cells next ≡ slice_set (cells spare) used (written e) → Logged im next e used
unfolding replay logged
one_more im spare next e used count s same on writes =
    let es = entries_in (bytes_of spare) in
    let old = records_in (bytes_of im) in
    let listed : replay [] es ≡ old = spared_records im spare s.entries in
    let on' : Leads Log (length (cells spare) - 1) (replay [] es) (e ∷ []) (after old e) = rw (same_slots im spare s.as_long, listed) on in
    let all = appended spare next es e (after old e) same s.stands (omega (arith, s.filled, s.free)) on' (writes ∙ ap (λ k. set (cells spare) k (written e)) (sym s.filled)) in
    let k = kept next (es ++ e ∷ []) all in
    let n : length (bytes_of next) / 512 ≡ length (bytes_of im) / 512 = ap (λ l. l / 512) (same ∙ s.as_long) in
    record {
      ok = k.ok;
      many = ap length k.entries ∙ length_push es e ∙ ap (λ m. m + 1) s.filled;
      records = ap (replay []) k.entries ∙ replay_join [] es (e ∷ []) ∙ ap (λ l. after l e) listed;
      bytes = stands_bytes next (es ++ e ∷ []) all ∙ ap (λ m. imaged m (es ++ e ∷ [])) n
          ∙ ap (λ l. imaged (length (bytes_of im) / 512) (l ++ e ∷ [])) (s.entries ∙ ap (λ m. spared m (entries_in (bytes_of im))) (sym (bytes_slots im)));
    }

-- each listed record has one slot
pub length_listed :
    (im : Image) (ps : List ℕ) → is_log (bytes_of im) ≡ true → ps ≡ places_from 0 [] (cells im) → length ps ≡ length (records_in (bytes_of im))
length_listed im ps ok are =
    sym (length-chosen (cells im) ps) ∙ ap length (picked_listed im _ ps (stands-opened im ok) are) ∙ length-map (records_in (bytes_of im)) slot

-- what is read of the slot of the record at a place
pub record_in_lem :
    (im : Image) (ps s : List ℕ) (place at : ℕ) (d : Rec) → is_log (bytes_of im) ≡ true → ps ≡ places_from 0 [] (cells im) → place < length (records_in (bytes_of im))
    → at ≡ slice_index ps place → s ≡ slice_index_or (cells im) at [] → content_of s ≡ Some (holds (put (slice_index_or (records_in (bytes_of im)) place d)))
record_in_lem im ps s place at d ok are lt here is =
    let rs = records_in (bytes_of im) in
    let stands = stands-opened im ok in
    let many = length_listed im ps ok are in
    let within = leads_within Log (length (cells im) - 1) stands.rules.leads tt in
    let same : s ≡ slot (slice_index_or rs place d) =
    is ∙ ap (λ k. get_or (cells im) k []) here ∙ sym (get_or-map (λ p. get_or (cells im) p []) ps place 0 [] (omega arith))
    ∙ ap (λ l. get_or l place []) (picked_listed im _ ps stands are) ∙ get_or-map slot rs place d [] lt in
    ap content_of same ∙ content-written (put (slice_index_or rs place d)) (All-get_or (λ r. is_within r ≡ true) rs place d lt within)
