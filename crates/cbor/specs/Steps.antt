-- Going on after a step that may have failed.
use Rattle.std.specs.Prelude.{Some, None, Ok, Err, Option, Result}

-- go on with what was found, if anything was
unfoldable pub given : {A B : Type 0} → Option A → (A → Option B) → Option B
given None go = None
given (Some a) go = go a

-- go on with what was found, or fail with e
unfoldable pub or_fail : {A B E : Type 0} → Option A → E → (A → Result B E) → Result B E
or_fail None e go = Err e
or_fail (Some a) e go = go a

-- go on after a success; a failure stays
unfoldable pub and_then : {A B E : Type 0} → Result A E → (A → Result B E) → Result B E
and_then (Ok a) go = go a
and_then (Err e) go = Err e
