-- The outline of a message.
use Rattle.std.specs.Prelude.{◌≡◌, ℕ, ◌-◌, ◌*◌, ◌<◌, ◌≤◌, cond, ◌⊎◌, List, [], ◌∷◌, map, length, Ok, Err, nat_lt}
use Rattle.std.specs.List.{AllByRecursion}
use Rattle.cbor.specs.Reader.{Said, number, negative, bytes, text, array, map as pairs, simple, Found, read_at}
use Rattle.cbor.specs.Meaning.{meant}
use Rattle.explain.specs.declared.items.Entry.{Entry}

-- the open containers, the innermost first, once an item in the innermost is complete:
-- one that awaited no other is complete too, and is itself such an item
unfoldable pub finished : List ℕ → List ℕ
finished [] = []
finished (n ∷ outer) = cond (nat_lt 1 n) ((n - 1) ∷ outer) (finished outer)

-- the open containers once an item that holds n items has been read
unfoldable pub entered : ℕ → List ℕ → List ℕ
entered n outer = cond (nat_lt 0 n) (n ∷ outer) (finished outer)

-- the open containers once items that hold so many items each have been read
unfoldable pub entered_all : List ℕ → List ℕ → List ℕ
entered_all outer [] = outer
entered_all outer (n ∷ ns) = entered_all (entered n outer) ns

-- the level of each of those items: how many containers are open when it is read
unfoldable pub levels : List ℕ → List ℕ → List ℕ
levels outer [] = []
levels outer (n ∷ ns) = length outer ∷ levels (entered n outer) ns

-- how many items an item holds: a map holds keys and values
abbrev pub held : Said → ℕ
held (number n) = 0
held (negative n) = 0
held (bytes bs) = 0
held (text bs) = 0
held (array n) = n
held (pairs n) = 2 * n
held (simple n) = 0

-- how many items each entry holds
abbrev pub insides : List Entry → List ℕ
insides es = map (λ e. held (meant e.item)) es

-- each entry lies after the one before it
abbrev pub Rising : List Entry → Type 0
Rising [] = Unit {0}
Rising (e ∷ []) = Unit {0}
Rising (e ∷ f ∷ es) = (e.place < f.place) × Rising (f ∷ es)

-- the entries lie in order, before a place, in at most four containers each, and in those that the entries before them have opened
pub record Outlined (es : List Entry) (stop : ℕ) : Type 0 where
  pub rising : Rising es
  pub before : AllByRecursion (λ e. e.place < stop) es
  pub shallow : AllByRecursion (λ e. e.level ≤ 4) es
  pub nested : map (λ e. e.level) es ≡ levels [] (insides es)

-- the entries are the items that are read one right behind the other, from one place to another
abbrev pub Chain : List ℕ → ℕ → List Entry → ℕ → Type 0
Chain message from [] to = from ≡ to
Chain message from (e ∷ es) to =
    (e.place ≡ from) × (f : Found) × (read_at message from ≡ Ok f) × (meant e.item ≡ f.said) × Chain message f.end es to

-- the entries are the items behind the command byte, with none left out, up to a place, unless one cannot be read or lies in a fifth container
pub record Chained (message : List ℕ) (es : List Entry) (stop : ℕ) : Type 0 where
  pub end : ℕ
  pub chain : Chain message 1 es end
  pub whole : end < stop → ((p : ℕ) × (read_at message end ≡ Err p)) ⊎ (4 < length (entered_all [] (insides es)))
