-- What the calls of a store answer.
use Rattle.std.specs.Prelude.{ℕ, Bool, true, false, List, length, Ok, Err, Result}
use Rattle.credential.specs.Rec.{Rec, is_within}
use Rattle.image.specs.declared.kind.Kind.{Kind}
use Rattle.image.specs.declared.opening.Refusal.{Refusal}
use Rattle.bench.specs.declared.wrong.Wrong.{Wrong}
use Rattle.bench.specs.declared.wrong.Wrong.TheVariants.{NoStore}
use Rattle.storebench.specs.declared.adding.AddError.{AddError}
use Rattle.storebench.specs.declared.adding.AddError.TheVariants.{Full, OutsideLimits}
use Rattle.storebench.specs.declared.fill.Fill.{Fill}
use Rattle.image.specs.Kinds.{capacity_of}
use Rattle.storebench.specs.State.{State, shut, holding, has_room, has_place}

-- an opening by how many records are listed and how many can be
abbrev pub fills : Kind → List ℕ → Result (List Rec) Refusal → Result (ℕ × ℕ) Refusal
fills kind im (Ok rs) = Ok (length rs, capacity_of kind im)
fills kind im (Err why) = Err why

-- the same, of the code's answer
abbrev pub filled : Result Fill Refusal → Result (ℕ × ℕ) Refusal
filled (Ok f) = Ok (f.count, f.capacity)
filled (Err why) = Err why

-- what comes of adding, by whether a record is within its limits, and whether there is room
abbrev pub added_by : Bool → Bool → Result (Unit {0}) AddError
added_by false room = Err OutsideLimits
added_by true false = Err Full
added_by true true = Ok tt

-- the answer to adding a record
unfoldable pub add_answer : State → Rec → Result (Result (Unit {0}) AddError) Wrong
add_answer shut r = Err NoStore
add_answer (holding kind im) r = Ok (added_by (is_within r) (has_room kind im))

-- the answer to removing the record at a place
unfoldable pub remove_answer : State → ℕ → Result Bool Wrong
remove_answer shut place = Err NoStore
remove_answer (holding kind im) place = Ok (has_place kind im place)
