-- An image as slots of 512 bytes.
use Rattle.std.specs.Prelude.{ℕ, zero, suc, ◌-◌, ◌/◌, cond, ◌&&◌, List, [], ◌∷◌, ◌++◌, length, take, drop, replicate, nat_le, vec_items, slice_index_or, slice_set}
use Rattle.std.specs.List.{flat_map, copy_within}
use Rattle.std.specs.Iterator.{AlwaysYields}
use Rattle.std.specs.Slice.Iter.{chunks_exact_steps}
use Rattle.std.specs.declared.slice.ChunksExact.{ChunksExact}
use Rattle.credential.specs.Slot.{free}
use Rattle.image.specs.declared.image.Image.{Image}

-- so many slots, from the left
unfoldable pub cut : ℕ → List ℕ → List (List ℕ)
cut zero bs = []
cut (suc n) bs = take 512 bs ∷ cut n (drop 512 bs)

-- the slots of an image
unfoldable pub slots_of : List ℕ → List (List ℕ)
slots_of im = cut (length im / 512) im

-- the image of slots
abbrev pub whole : List (List ℕ) → List ℕ
whole ss = flat_map (λ s. s) ss

-- the bytes of an image that is held
abbrev pub bytes_of : Image → List ℕ
bytes_of im = vec_items im

-- its slots
abbrev pub cells : Image → List (List ℕ)
cells im = slots_of (bytes_of im)

-- slots with one of them written over another; past the last, nothing changes
abbrev pub copied : List (List ℕ) → ℕ → ℕ → List (List ℕ)
copied ss from to = slice_set ss to (slice_index_or ss from (slice_index_or ss to []))

-- slots with those of a range written over those from another on; nothing changes where it ends before it starts, or one of the two runs past the last
abbrev pub moved : List (List ℕ) → ℕ → ℕ → ℕ → List (List ℕ)
moved ss start end to = cond (nat_le start end && nat_le end (length ss) && nat_le to (length ss - (end - start))) (copy_within ss start end to) ss

-- slots with those from a number on made free
abbrev pub cleared : List (List ℕ) → ℕ → List (List ℕ)
cleared ss from = take from ss ++ replicate (length ss - from) free

-- an iterator gives these slots, one after another, and then no more
abbrev pub GivesSlots : ChunksExact ℕ → List (List ℕ) → Type 0
GivesSlots it ss = AlwaysYields chunks_exact_steps (λ slot. slot.now) it ss
