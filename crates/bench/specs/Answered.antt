-- An answer that may be wanting for memory.
use Rattle.std.specs.Prelude.{◌≡◌, ◌⊎◌, Ok, Err, Result}
use Rattle.bench.specs.declared.wrong.Wrong.{Wrong}
use Rattle.bench.specs.declared.wrong.Wrong.TheVariants.{Memory}

-- go on with a value, or keep what is wrong
abbrev pub and_then : {X Y : Type 0} → Result X Wrong → (X → Result Y Wrong) → Result Y Wrong
and_then (Ok x) go = go x
and_then (Err w) go = Err w

-- the answer means what is due, or memory ran out
abbrev pub Answers : {T X : Type 0} → (T → X) → Result T Wrong → Result X Wrong → Type 0
Answers meaning (Ok t) due = due ≡ Ok (meaning t)
Answers meaning (Err w) due = (due ≡ Err w) ⊎ (w ≡ Memory)
