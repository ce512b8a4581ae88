-- What is printed in answer to a line, and the store that is open after it.
use Rattle.std.specs.Prelude.{◌≡◌, ℕ, Bool, true, false, ◌⊎◌, List, [], ◌++◌, Ok, Err, string_bytes, codes, Result, String}
use Rattle.bench.specs.declared.wrong.Wrong.{Wrong}
use Rattle.bench.specs.declared.wrong.Wrong.TheVariants.{Memory}
use Rattle.bench.specs.Asked as plain
use Rattle.bench.specs.Replied as bench
use Rattle.bench.specs.Worded.{error_line}
use Rattle.steps.specs.Asked as store
use Rattle.steps.specs.Asked.{Ask, StoreAsk, plain_ask, store_ask}
use Rattle.storebench.specs.Printed.{open_text, add_text, remove_text, listed, image_text}
use Rattle.storebench.specs.State.{State, blank_image, after_open, after_add, after_remove}

-- the lines of help
unfoldable pub help_lines : List ℕ
help_lines =
    codes "digest HEX         SHA-256 of the bytes\n"
    ++ (codes "hmac KEY HEX       HMAC-SHA-256 of the bytes under the key\n"
    ++ (codes "tag TOKEN SUB HEX  the first 16 bytes of the HMAC under the token, of SUB and then the bytes\n"
    ++ (codes "read HEX           the verdict on a message, and the place where it breaks\n"
    ++ (codes "explain HEX        the items of a message up to where it breaks, then the line of read\n"
    ++ (codes "blank KIND N       opens a store of N free slots; KIND is table or log\n"
    ++ (codes "open KIND HEX      opens a store from its image\n"
    ++ (codes "add PROTECT RP USER NAME DISPLAY CRED X Y\n"
    ++ (codes "                   adds a record to the store that is open\n"
    ++ (codes "remove I           takes out the record at place I\n"
    ++ (codes "list               the records of the store that is open\n"
    ++ (codes "image              its image\n"
    ++ codes "help               these lines\n")))))))))))

-- the answer of a step that every bench has: what it prints
abbrev pub Tells : plain.Ask → Result (List ℕ) Wrong → Type 0
Tells ask (Ok shown) = bench.Replied help_lines ask shown
Tells ask (Err w) = ⊥

-- the answer of a step over a store, where a store may be open: a text, or what is wrong
abbrev pub told : State → StoreAsk → Result (List ℕ) Wrong
told before (store.blank kind slots) = Ok (open_text kind (blank_image slots))
told before (store.opening kind im) = Ok (open_text kind im)
told before (store.add r) = add_text before r
told before (store.remove place) = remove_text before place
told before store.list = listed before
told before store.image = image_text before

-- what a step answers, where a store may be open
abbrev pub Replied : State → Ask → Result (List ℕ) Wrong → Type 0
Replied before (plain_ask a) answer = Tells a answer
Replied before (store_ask a) answer = answer ≡ told before a

-- the state after a step over a store
abbrev pub moved : State → StoreAsk → State
moved before (store.blank kind slots) = after_open kind (blank_image slots) before
moved before (store.opening kind im) = after_open kind im before
moved before (store.add r) = after_add before r
moved before (store.remove place) = after_remove before place
moved before store.list = before
moved before store.image = before

-- the state after a step
abbrev pub next : State → Ask → State
next before (plain_ask a) = before
next before (store_ask a) = moved before a

-- what is due for what a line asks: what the step answers, or what is wrong
abbrev pub Due : State → Result Ask Wrong → Result (List ℕ) Wrong → Type 0
Due before (Ok ask) answer = Replied before ask answer
Due before (Err w) answer = answer ≡ Err w

-- the state after what a line asks
abbrev pub next_of : State → Result Ask Wrong → State
next_of before (Ok ask) = next before ask
next_of before (Err w) = before

-- the answer is one that is due, or memory ran out
abbrev pub Runs : {Z : Type 0} → (Result (List ℕ) Wrong → Type 0) → Result (String Z) Wrong → Type 0
Runs Fits (Ok s) = Fits (Ok (string_bytes s))
Runs Fits (Err w) = Fits (Err w) ⊎ (w ≡ Memory)

-- the state is the next one, or memory ran out before it was reached
abbrev pub Moves : {T : Type 0} → Result T Wrong → State → State → State → Type 0
Moves (Ok s) before due after = after ≡ due
Moves (Err w) before due after = (after ≡ due) ⊎ ((w ≡ Memory) × (after ≡ before))

-- the line of an answer
abbrev pub line_of : Result (List ℕ) Wrong → List ℕ
line_of (Ok shown) = shown
line_of (Err w) = error_line w

-- memory ran out, before the next state was reached or after that
pub record WithoutMemory (before due after : State) (shown : List ℕ) : Type 0 where
  pub text : shown ≡ error_line Memory
  pub state : (after ≡ before) ⊎ (after ≡ due)

-- the line is answered as is due, and the state is the next one
pub record Carried (before : State) (due : Result Ask Wrong) (after : State) (shown : List ℕ) : Type 0 where
  pub answer : Result (List ℕ) Wrong
  pub is_due : Due before due answer
  pub text : shown ≡ line_of answer
  pub state : after ≡ next_of before due

-- what is printed in answer to a line, and the state after it: nothing where it is skipped; otherwise what is due, unless memory ran out
abbrev pub Printed : Bool → State → Result Ask Wrong → State → List ℕ → Type 0
Printed true before due after shown = (shown ≡ []) × (after ≡ before)
Printed false before due after shown = Carried before due after shown ⊎ WithoutMemory before (next_of before due) after shown
