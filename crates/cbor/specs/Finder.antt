-- A field of a map: the value under a key, with its place and its bytes as they lie in the message.
use Rattle.std.specs.Prelude.{ℕ, zero, suc, ◌-◌, Bool, false, cond, List, take, drop, Some, None, Option, ◌==◌}
use Rattle.std.specs.Result.{result_ok}
use Rattle.std.specs.Str.{bytes_eq}
use Rattle.cbor.specs.Steps.{given}
use Rattle.cbor.specs.Reader.{Said, number, negative, bytes, text, array, map, simple, Found, item, deepest, placed, read_at}

-- whether an item is the number n
abbrev pub is_number : ℕ → Said → Bool
is_number n (number m) = m == n
is_number n (negative m) = false
is_number n (bytes bs) = false
is_number n (text bs) = false
is_number n (array m) = false
is_number n (map m) = false
is_number n (simple m) = false

-- whether an item is the text of these bytes
abbrev pub is_text : List ℕ → Said → Bool
is_text xs (number m) = false
is_text xs (negative m) = false
is_text xs (bytes bs) = false
is_text xs (text bs) = bytes_eq bs xs
is_text xs (array m) = false
is_text xs (map m) = false
is_text xs (simple m) = false

-- the number of a map's entries
abbrev pub entry_count : Said → Option ℕ
entry_count (number m) = None
entry_count (negative m) = None
entry_count (bytes bs) = None
entry_count (text bs) = None
entry_count (array m) = None
entry_count (map n) = Some n
entry_count (simple m) = None

-- where the item at a place ends, with all that lies inside it
unfoldable pub end_at : List ℕ → ℕ → Option ℕ
end_at message at = result_ok (placed message (item deepest (drop at message)))

-- among n entries from a place on, the place of the value of the first whose key passes the test
unfoldable pub seek_at : (Said → Bool) → List ℕ → ℕ → ℕ → Option ℕ
seek_at wanted message zero at = None
seek_at wanted message (suc n) at =
    given (result_ok (read_at message at)) (λ k. cond (wanted k.said) (Some k.end) (given (end_at message k.end) (λ next. seek_at wanted message n next)))

-- a value with its place and its bytes as they lie in the message
pub record Held : Type 0 where
  pub found : Found
  pub raw : List ℕ

-- the value at a place
unfoldable pub held_at : List ℕ → ℕ → Option Held
held_at message at =
    given (result_ok (read_at message at)) (λ f. given (end_at message at) (λ end. Some (record { found = f; raw = take (end - at) (drop at message) })))

-- the field of the map at a place whose key passes the test; none where no map stands there, or it has no such key
unfoldable pub field_at : (Said → Bool) → List ℕ → ℕ → Option Held
field_at wanted message at =
    given (result_ok (read_at message at)) (λ m. given (entry_count m.said) (λ n. given (seek_at wanted message n m.end) (λ value. held_at message value)))
