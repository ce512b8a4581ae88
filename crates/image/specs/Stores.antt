-- What opening a store answers, for every store over an image.
use Rattle.std.specs.Prelude.{ℕ, List, Ok, Err, Result, Vec}
use Rattle.std.specs.declared.alloc.Global.{Global}
use Rattle.credential.specs.Rec.{Rec}
use Rattle.image.specs.declared.image.Image.{Image}
use Rattle.image.specs.declared.kind.Kind.{Kind}
use Rattle.image.specs.declared.opening.Refusal.{Refusal}
use Rattle.image.specs.declared.opening.Refused.{Refused}
use Rattle.image.specs.Cut.{bytes_of}
use Rattle.image.specs.Opening.{records_of}

-- the records of a store that was opened, by its image, or why it was refused
abbrev pub told : {S : Type 0} → Kind → (S → Image) → Result S Refused → Result (List Rec) Refusal
told kind image (Ok s) = Ok (records_of kind (bytes_of (image s)))
told kind image (Err e) = Err e.why

-- the image of a store that was opened, or that is given back
abbrev pub held : {S : Type 0} → (S → Image) → Result S Refused → Vec ℕ Global
held image (Ok s) = image s
held image (Err e) = e.bytes
