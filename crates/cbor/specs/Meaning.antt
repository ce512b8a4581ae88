-- What the values of the code mean, in the words of the definitions.
use Rattle.std.specs.Prelude.{ℕ, Bool, Some, None, Ok, Err, Option, Result}
use Rattle.cbor.specs.declared.item.Item.{Item}
use Rattle.cbor.specs.declared.item.Item.TheVariants.{Number, Negative, Bytes, Text, Array, Map, False, True, Null}
use Rattle.cbor.specs.declared.item.Part.{Part}
use Rattle.cbor.specs.declared.item.Fault.{Fault}
use Rattle.cbor.specs.declared.finding.Key.{Key}
use Rattle.cbor.specs.declared.finding.Key.TheVariants as keys
use Rattle.cbor.specs.declared.finding.Field.{Field}
use Rattle.cbor.specs.Finder.{Held, is_number, is_text}
use Rattle.cbor.specs.Reader.{Said, number, negative, bytes, text, array, map, simple, Found}

-- what an item says
abbrev pub meant : Item → Said
meant (Number n) = number n
meant (Negative n) = negative n
meant (Bytes s) = bytes s.now
meant (Text s) = text s.now
meant (Array n) = array n
meant (Map n) = map n
meant False = simple 20
meant True = simple 21
meant Null = simple 22

-- an item with its place and its end
abbrev pub found : Part → Found
found p = record { said = meant p.item; place = p.place; end = p.end }

-- the answer of `read`
abbrev pub read_told : Result Part Fault → Result Found ℕ
read_told (Ok p) = Ok (found p)
read_told (Err f) = Err f.place

-- the answer of `check`: the end, or the place of the fault
abbrev pub told : Result ℕ Fault → Result ℕ ℕ
told (Ok end) = Ok end
told (Err f) = Err f.place

-- the items that a key names
abbrev pub named : Key → Said → Bool
named (keys.Number n) = is_number n
named (keys.Text s) = is_text s.now

-- the answer of `find`
abbrev pub field_told : Option Field → Option Held
field_told None = None
field_told (Some f) = Some (record { found = found f.part; raw = f.raw.now })
