-- The slots of the listed records hold these records.
use Rattle.std.specs.Prelude.{◌≡◌, ℕ, zero, suc, List, [], ◌∷◌, ◌++◌, map, length, get_or, replicate, Some, Option, slice_index_or, refl}
use Rattle.std.proofs.Common.{sym, ap, ◌∙◌, arith}
use Rattle.std.specs.List.{remove}
use Rattle.std.proofs.lemmas.List.{append_assoc, length_push, map_push, get_or_at}
use Rattle.credential.specs.Rec.{Rec}
use Rattle.credential.specs.Slot.{Entry, put, gone, Content, empty, holds, free, written, slot, content_of}
use Rattle.credential.proofs.Slots.{content-free, content-written}
use Rattle.image.specs.declared.kind.Kind.{Kind}
use Rattle.image.specs.Laws.{Leads, done, came, went}
use Rattle.image.proofs.Led.{map_removed}
use Rattle.logstore.specs.Cells.{chosen}
use Rattle.logstore.specs.Places.{seen, places_from}

-- the slots from k on, where the first of them is read as this
places-next : (k : ℕ) (ps s : List ℕ) (ss : List (List ℕ)) (o : Option Content) → content_of s ≡ o → places_from k ps (s ∷ ss) ≡ places_from (suc k) (seen k ps o) ss
unfolding places_from
places-next k ps s ss o e = ap (λ c. places_from (suc k) (seen k ps c) ss) e

-- free slots list nothing
places-free : (k n : ℕ) (ps : List ℕ) → places_from k ps (replicate n free) ≡ ps
unfolding places_from
places-free k zero ps = refl
places-free k (suc n) ps = places-next k ps free (replicate n free) (Some empty) content-free ∙ places-free (suc k) n ps

module _ {kind : Kind} {capacity : ℕ} (n : ℕ) (ss : List (List ℕ)) where
  chosen-from :
      {rs end : List Rec} {es : List Entry} → Leads kind capacity rs es end → (front : List (List ℕ)) (k : ℕ) (ps : List ℕ)
      → ss ≡ front ++ (map written es ++ replicate n free) → length front ≡ k → chosen ss ps ≡ map slot rs
      → chosen ss (places_from k ps (map written es ++ replicate n free)) ≡ map slot end
  chosen-from done front k ps parts long is = ap (chosen ss) (places-free k n ps) ∙ is
  chosen-from {rs} (came {r = r} {es = es} lt within on) front k ps parts long is =
      let rest = map written es ++ replicate n free in
      let here : get_or ss k [] ≡ slot r = ap (λ l. get_or l k []) parts ∙ get_or_at front (slot r) rest [] k long in
      let next : chosen ss (ps ++ k ∷ []) ≡ map slot (rs ++ r ∷ []) =
      map_push (λ p. get_or ss p []) ps k ∙ ap (λ l. l ++ slice_index_or ss k [] ∷ []) is ∙ ap (λ s. map slot rs ++ s ∷ []) here ∙ sym (map_push slot rs r) in
      ap (chosen ss) (places-next k ps (slot r) rest (Some (holds (put r))) (content-written (put r) within))
      ∙ chosen-from on (front ++ slot r ∷ []) (suc k) (ps ++ k ∷ []) (parts ∙ sym (append_assoc front (slot r ∷ []) rest)) (omega (arith, length_push front (slot r))) next
  chosen-from {rs} (went {place = place} {es = es} log lt on) front k ps parts long is =
      let rest = map written es ++ replicate n free in
      let s = written (gone place) in
      let next : chosen ss (remove ps place) ≡ map slot (remove rs place) =
      sym (map_removed (λ p. get_or ss p []) ps place) ∙ ap (λ l. remove l place) is ∙ map_removed slot rs place in
      ap (chosen ss) (places-next k ps s rest (Some (holds (gone place))) (content-written (gone place) tt))
      ∙ chosen-from on (front ++ s ∷ []) (suc k) (remove ps place) (parts ∙ sym (append_assoc front (s ∷ []) rest)) (omega (arith, length_push front s)) next

-- the slots of the records that entries list
pub chosen_listed :
    {kind : Kind} {capacity : ℕ} {end : List Rec} {es : List Entry} (n : ℕ) → Leads kind capacity [] es end
    → chosen (map written es ++ replicate n free) (places_from 0 [] (map written es ++ replicate n free)) ≡ map slot end
chosen_listed {es = es} n leads = chosen-from n (map written es ++ replicate n free) leads [] 0 [] refl refl refl
