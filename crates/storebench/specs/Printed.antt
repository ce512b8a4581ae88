-- What the steps over the store that is open print.
use Rattle.std.specs.Prelude.{ℕ, List, Ok, Err, codes, Result}
use Rattle.credential.specs.Rec.{Rec}
use Rattle.image.specs.declared.kind.Kind.{Kind}
use Rattle.image.specs.Opening.{listing, records_of}
use Rattle.lines.specs.Hex.{bytes_line}
use Rattle.bench.specs.declared.wrong.Wrong.{Wrong}
use Rattle.bench.specs.declared.wrong.Wrong.TheVariants.{NoStore}
use Rattle.bench.specs.Answered.{and_then}
use Rattle.storebench.specs.Said.{fills, add_answer, remove_answer}
use Rattle.image.specs.Kinds.{capacity_of}
use Rattle.storebench.specs.State.{State, shut, holding}
use Rattle.storebench.specs.Text.{open_line, add_line, remove_line, list_text}

-- the line of opening an image
unfoldable pub open_text : Kind → List ℕ → List ℕ
open_text kind im = open_line (fills kind im (listing kind im))

-- the line of adding a record
abbrev pub add_text : State → Rec → Result (List ℕ) Wrong
add_text before r = and_then (add_answer before r) (λ a. Ok (add_line a))

-- the line of removing the record at a place
abbrev pub remove_text : State → ℕ → Result (List ℕ) Wrong
remove_text before place = and_then (remove_answer before place) (λ b. Ok (remove_line b))

-- the lines of the records
unfoldable pub listed : State → Result (List ℕ) Wrong
listed shut = Err NoStore
listed (holding kind im) = Ok (list_text (records_of kind im) (capacity_of kind im))

-- the line of the image
unfoldable pub image_text : State → Result (List ℕ) Wrong
image_text shut = Err NoStore
image_text (holding kind im) = Ok (bytes_line (codes "image") im)
