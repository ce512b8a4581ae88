-- Canonical reading from the left. A reader takes the unread bytes and leaves those behind what it read;
-- where a rule is broken it leaves the bytes from the first faulty item on, which are the fault's place.
use Rattle.std.specs.Prelude.{ℕ, zero, suc, ◌+◌, ◌-◌, ◌/◌, ◌%◌, min, Bool, true, false, cond, List, [], ◌∷◌, length, take, drop, Some, None, Ok, Err, Option, Result, ◌==◌, nat_le, nat_lt}
use Rattle.cbor.specs.Steps.{given, or_fail, and_then}
use Rattle.cbor.specs.Head.{argument}

-- what an item says: a number n, the negative number -1 - n, a string's bytes, a container's count, or the simple value 20 (false), 21 (true) or 22 (null)
pub data Said : Type 0 where
  number : ℕ → Said
  negative : ℕ → Said
  bytes : List ℕ → Said
  text : List ℕ → Said
  array : ℕ → Said
  map : ℕ → Said
  simple : ℕ → Said

-- what an item says, and how many bytes its head and its string take
pub record Token : Type 0 where
  pub said : Said
  pub size : ℕ

-- a string of n bytes, which must be there whole
unfoldable pub string : (List ℕ → Said) → ℕ → List ℕ → Option Said
string kind n bs = cond (nat_le n (length bs)) (Some (kind (take n bs))) None

-- the simple values that are allowed: false, true and null
unfoldable pub simple_at : ℕ → Option Said
simple_at info = cond (nat_le 20 info) (cond (nat_lt info 23) (Some (simple info)) None) None

-- what an item says, by its major type, its low five bits, its argument and the bytes behind its head; tags, major type 6, are refused
unfoldable pub by_major : ℕ → ℕ → ℕ → List ℕ → Option Said
by_major major info n bs =
    cond (major == 0) (Some (number n))
    (cond (major == 1) (Some (negative n))
    (cond (major == 2) (string bytes n bs)
    (cond (major == 3) (string text n bs)
    (cond (major == 4) (Some (array n))
    (cond (major == 5) (Some (map n))
    (cond (major == 7) (simple_at info) None))))))

-- how many bytes of a string lie behind the head
abbrev pub string_size : Said → ℕ
string_size (number n) = 0
string_size (negative n) = 0
string_size (bytes bs) = length bs
string_size (text bs) = length bs
string_size (array n) = 0
string_size (map n) = 0
string_size (simple n) = 0

-- the item that the unread bytes begin with; none where its head or string is cut or breaks a rule
unfoldable pub token : List ℕ → Option Token
token [] = None
token (b ∷ bs) =
    given (argument (b % 32) bs) (λ arg. given (by_major (b / 32) (b % 32) arg.value (drop arg.width bs)) (λ s.
    Some (record { said = s; size = 1 + arg.width + string_size s })))

-- byte order between strings of equal length
unfoldable pub below : List ℕ → List ℕ → Bool
below [] ys = false
below (x ∷ xs) [] = false
below (x ∷ xs) (y ∷ ys) = cond (x == y) (below xs ys) (nat_lt x y)

-- the order of encoded map keys: by major type, within one by length, within one length by bytes; the first key comes after nothing
unfoldable pub precedes : List ℕ → List ℕ → Bool
precedes [] ys = true
precedes (x ∷ xs) [] = false
precedes (x ∷ xs) (y ∷ ys) =
    cond (x / 32 == y / 32)
    (cond (length (x ∷ xs) == length (y ∷ ys)) (below (x ∷ xs) (y ∷ ys)) (nat_lt (length (x ∷ xs)) (length (y ∷ ys))))
    (nat_lt (x / 32) (y / 32))

-- a map key is a number, a negative number or a string
abbrev pub may_be_key : Said → Bool
may_be_key (number n) = true
may_be_key (negative n) = true
may_be_key (bytes bs) = true
may_be_key (text bs) = true
may_be_key (array n) = false
may_be_key (map n) = false
may_be_key (simple n) = false

-- the key that the unread bytes begin with, if it may be one and comes after the key encoded as `before`
unfoldable pub key : List ℕ → List ℕ → Option Token
key before us =
    given (token us) (λ t. cond (may_be_key t.said) (cond (precedes before (take t.size us)) (Some t) None) None)

-- n items in a row
unfoldable pub items : (List ℕ → Result (List ℕ) (List ℕ)) → ℕ → List ℕ → Result (List ℕ) (List ℕ)
items one zero us = Ok us
items one (suc n) us = and_then (one us) (λ rest. items one n rest)

-- n keys in ascending order, each with its value
unfoldable pub entries : (List ℕ → Result (List ℕ) (List ℕ)) → List ℕ → ℕ → List ℕ → Result (List ℕ) (List ℕ)
entries one before zero us = Ok us
entries one before (suc n) us =
    or_fail (key before us) us (λ t. and_then (one (drop t.size us)) (λ rest. entries one (take t.size us) n rest))

-- what lies inside an item, behind its head and string
unfoldable pub inside : (List ℕ → Result (List ℕ) (List ℕ)) → Said → List ℕ → Result (List ℕ) (List ℕ)
inside one (number n) us = Ok us
inside one (negative n) us = Ok us
inside one (bytes bs) us = Ok us
inside one (text bs) us = Ok us
inside one (array n) us = items one n us
inside one (map n) us = entries one [] n us
inside one (simple n) us = Ok us

-- whether an item may hold others
abbrev pub container : Said → Bool
container (number n) = false
container (negative n) = false
container (bytes bs) = false
container (text bs) = false
container (array n) = true
container (map n) = true
container (simple n) = false

-- one item with all that lies inside it, where so many levels of maps and arrays are left
unfoldable pub item : ℕ → List ℕ → Result (List ℕ) (List ℕ)
item zero us = or_fail (token us) us (λ t. cond (container t.said) (Err us) (Ok (drop t.size us)))
item (suc levels) us = or_fail (token us) us (λ t. inside (item levels) t.said (drop t.size us))

-- how many maps and arrays may lie inside one another
abbrev pub deepest : ℕ
deepest = 4

-- nothing is left; surplus bytes are a fault at their first
unfoldable pub ended : List ℕ → Result (List ℕ) (List ℕ)
ended [] = Ok []
ended (b ∷ bs) = Err (b ∷ bs)

-- exactly one item and nothing behind it
unfoldable pub whole : List ℕ → Result (List ℕ) (List ℕ)
whole us = and_then (item deepest us) ended

-- where the unread bytes begin in the message
unfoldable pub placed : List ℕ → Result (List ℕ) (List ℕ) → Result ℕ ℕ
placed message (Ok rest) = Ok (length message - length rest)
placed message (Err rest) = Err (length message - length rest)

-- the message from `start` on is exactly one canonical item: its end, or the place of the first fault
unfoldable pub checked : List ℕ → ℕ → Result ℕ ℕ
checked message start = placed message (whole (drop start message))

-- an item as it lies in a message
pub record Found : Type 0 where
  pub said : Said
  pub place : ℕ
  pub end : ℕ

-- an item at a place, with its end
abbrev pub found_at : ℕ → Token → Found
found_at at t = record { said = t.said; place = at; end = at + t.size }

-- the item at a place: what it says and where its head and string end, or the place of the fault
unfoldable pub read_at : List ℕ → ℕ → Result Found ℕ
read_at message at =
    or_fail (token (drop at message)) (min at (length message)) (λ t. Ok (found_at at t))

-- the key at a place: where it ends, or the place of the fault
unfoldable pub key_at : List ℕ → List ℕ → ℕ → Result ℕ ℕ
key_at before message at = or_fail (key before (drop at message)) (min at (length message)) (λ t. Ok (at + t.size))
