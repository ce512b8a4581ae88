-- The text of what is printed.
use Rattle.std.specs.Prelude.{◌≡◌, ℕ, ◌+◌, ◌*◌, min, Bool, cond, not, ◌&&◌, List, [], ◌∷◌, ◌++◌, length, replicate, Ok, Err, codes, decimal, Result, ◌==◌, nat_le}
use Rattle.std.specs.List.{flat_map}
use Rattle.cbor.specs.Reader.{Said, number, negative, bytes, text, array, map, simple, Found, read_at}
use Rattle.explain.specs.declared.items.Entry.{Entry}
use Rattle.explain.specs.Outlined.{Outlined, Chained}
use Rattle.lines.specs.Hex.{encoded}
use Rattle.explain.specs.Judged.{judged, reach, verdict_line}

-- a byte is printed as it is: ASCII from the space to the tilde, no quote and no backslash
abbrev pub is_plain : ℕ → Bool
is_plain b = nat_le 0x20 b && (nat_le b 0x7e && (not (b == 0x22) && not (b == 0x5c)))

-- a byte of a text, as it is or by its number
abbrev pub character : ℕ → List ℕ
character b = cond (is_plain b) (b ∷ []) (codes "\\x" ++ encoded (b ∷ []))

-- the bytes of a text in quotes
abbrev pub quoted : List ℕ → List ℕ
quoted bs = codes "\"" ++ (flat_map character bs ++ codes "\"")

-- the kind and the value of an item
abbrev pub item_text : Said → List ℕ
item_text (number n) = codes "number " ++ decimal n
item_text (negative n) = codes "negative -" ++ decimal (n + 1)
item_text (bytes bs) = codes "bytes " ++ encoded bs
item_text (text bs) = codes "text " ++ quoted bs
item_text (array n) = codes "array " ++ decimal n
item_text (map n) = codes "map " ++ decimal n
item_text (simple n) = cond (n == 20) (codes "false") (cond (n == 21) (codes "true") (codes "null"))

-- the line of an item, by its place, its level and what it says: two spaces for each level
abbrev pub item_line : ℕ → ℕ → Said → List ℕ
item_line place level said = replicate (2 * level) 0x20 ++ (codes "@" ++ (decimal place ++ (codes " " ++ (item_text said ++ codes "\n"))))

-- the line of what was read at a place
abbrev pub found_line : ℕ → ℕ → Result Found ℕ → List ℕ
found_line place level (Ok f) = item_line place level f.said
found_line place level (Err p) = []

-- the line of an entry of an outline
unfoldable pub entry_line : List ℕ → Entry → List ℕ
entry_line message e = found_line e.place e.level (read_at message e.place)

-- the explanation of a message: a line for each item up to the fault, then the line of the verdict
pub record Explained (message shown : List ℕ) : Type 0 where
  pub entries : List Entry
  pub listed : Outlined entries (min (reach (judged message) (length message)) (length message))
  pub chained : Chained message entries (min (reach (judged message) (length message)) (length message))
  pub is : shown ≡ flat_map (entry_line message) entries ++ verdict_line (judged message)
