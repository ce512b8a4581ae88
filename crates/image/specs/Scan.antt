-- What the code of an opening answers, in the words of the definitions.
use Rattle.std.specs.Prelude.{ℕ, cond, List, [], Some, None, Ok, Err, Option, Result, Vec}
use Rattle.std.specs.declared.alloc.Global.{Global}
use Rattle.credential.specs.Slot.{Entry, Content, empty, holds}
use Rattle.image.specs.declared.kind.Kind.{Kind}
use Rattle.image.specs.declared.opening.Refusal.{Refusal}
use Rattle.image.specs.declared.opening.Refusal.TheVariants.{Slot}
use Rattle.image.specs.declared.opening.Counts.{Counts}
use Rattle.image.specs.declared.opening.Opened.{Opened}
use Rattle.image.specs.declared.opening.Refused.{Refused}
use Rattle.image.specs.Opening.{is_allowed, counted}

-- how an image was opened: the numbers of used slots and of listed records, or why it is refused
abbrev pub told : Result Opened Refused → Result (ℕ × ℕ) Refusal
told (Ok o) = Ok (o.counts.used, o.counts.listed)
told (Err e) = Err e.why

-- the image that was opened or is given back
abbrev pub held : Result Opened Refused → Vec ℕ Global
held (Ok o) = o.image
held (Err e) = e.bytes

-- the counts of an image, or why it is refused
abbrev pub tallied : Result Counts Refusal → Result (ℕ × ℕ) Refusal
tallied (Ok n) = Ok (n.used, n.listed)
tallied (Err why) = Err why

-- what slot k is where so many records are listed before it: nothing where it is free, and otherwise how many are listed after it
abbrev pub verdict_of : Kind → ℕ → ℕ → ℕ → Option Content → Result (Option ℕ) Refusal
verdict_of kind capacity count k None = Err (Slot k)
verdict_of kind capacity count k (Some empty) = Ok None
verdict_of kind capacity count k (Some (holds e)) = cond (is_allowed kind capacity count e) (Ok (Some (counted count e))) (Err (Slot k))

-- that all slots are free, or the first that is not
abbrev pub first_used : Option ℕ → Result (List Entry) ℕ
first_used None = Ok []
first_used (Some k) = Err k
