-- The sizes of images, and their slots.
use Rattle.std.proofs.Common.{◌≡◌, ℕ, ◌*◌, ◌/◌, ◌≤◌, true, false, List, length, Err, sym, ap, ◌∙◌, arith}
use Rattle.std.proofs.lemmas.Bool.Decides.{nat_tests}
use Rattle.image.specs.declared.image.Image.{Image}
use Rattle.image.specs.declared.kind.Kind.{Kind}
use Rattle.image.specs.declared.opening.Refusal.TheVariants.{Size}
use Rattle.image.specs.Cut.{slots_of, bytes_of, cells}
use Rattle.image.specs.Kinds.{fewest, room, fits}
use Rattle.image.specs.Opening.{entries, at_slot, opened}
use Rattle.image.proofs.Cells.{length_slots}

-- what a size that fits says
pub record Sized (kind : Kind) (im : List ℕ) : Type 0 where
  pub long : length im ≡ 512 * (length im / 512)
  pub enough : fewest kind ≤ length im / 512
  pub few : length im / 512 ≤ 64

pub sized : (kind : Kind) (im : List ℕ) → fits kind im ≡ true → Sized kind im
unfolding fits
sized kind im h = record { long = grind (arith, nat_tests); enough = grind (arith, nat_tests); few = grind (arith, nat_tests) }

pub fitting : (kind : Kind) (im : List ℕ) (slots : ℕ) → length im ≡ 512 * slots → fewest kind ≤ slots → slots ≤ 64 → fits kind im ≡ true
unfolding fits
fitting kind im slots long enough few = grind (arith, nat_tests)

-- opening an image of a size that fits
pub opened_fitting : (kind : Kind) (im : List ℕ) → fits kind im ≡ true → opened kind im ≡ at_slot (entries kind (room kind (length im / 512)) 0 0 (slots_of im))
unfolding opened
opened_fitting kind im h = rw h

pub opened_unfitting : (kind : Kind) (im : List ℕ) → fits kind im ≡ false → opened kind im ≡ Err Size
unfolding opened
opened_unfitting kind im h = rw h

-- opening an image that is held
pub opened-image : (kind : Kind) (im : Image) → fits kind (bytes_of im) ≡ true → opened kind (bytes_of im) ≡ at_slot (entries kind (room kind (length (cells im))) 0 0 (cells im))
opened-image kind im h =
    opened_fitting kind (bytes_of im) h ∙ ap (λ n. at_slot (entries kind (room kind n) 0 0 (cells im))) (sym (length_slots (bytes_of im)))
