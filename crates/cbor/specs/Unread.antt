-- What the private functions answer, in the words of the definitions.
use Rattle.std.specs.Prelude.{◌≡◌, ℕ, ◌-◌, ◌/◌, List, [], ◌∷◌, length, take, drop, Some, None, Ok, Err, Option, Result}
use Rattle.std.specs.Borrow.{Bor}
use Rattle.cbor.specs.declared.reading.Argument as code
use Rattle.cbor.specs.declared.reading.Token as token
use Rattle.cbor.specs.declared.checking.FaultyRest.{FaultyRest}
use Rattle.cbor.specs.Head.{Argument}
use Rattle.cbor.specs.Reader.{Said, Token}
use Rattle.cbor.specs.Meaning.{meant}

-- the answer of the checkers by the unread bytes: those behind what was read, or those from the faulty item on
abbrev pub told_rest : Result (Bor (List ℕ)) FaultyRest → Result (List ℕ) (List ℕ)
told_rest (Ok rest) = Ok rest.now
told_rest (Err b) = Err b.0.now

-- the argument of a head
abbrev pub argument_told : Option code.Argument → Option Argument
argument_told None = None
argument_told (Some a) = Some (record { value = a.value; width = a.width })

-- what an item says, its bytes and the bytes behind it
abbrev pub token_told : token.Token → Said × List ℕ × List ℕ
token_told t = (meant t.item, t.spelled.now, t.behind.now)

-- the same three, of an item that the definitions read from the front of some bytes
abbrev pub token_of : List ℕ → Token → Said × List ℕ × List ℕ
token_of us t = (t.said, take t.size us, drop t.size us)

-- the encoding of the key before, where there is one; the empty string stands for none
abbrev pub earlier : Option (Bor (List ℕ)) → List ℕ
earlier None = []
earlier (Some key) = key.now

-- the major type of an encoded item
abbrev pub major_of : List ℕ → Option ℕ
major_of [] = None
major_of (b ∷ bs) = Some (b / 32)

-- the last bytes of a message
abbrev pub Ends : List ℕ → List ℕ → Type 0
Ends message rest = drop (length message - length rest) message ≡ rest

-- the answer of `seek`: the last bytes of the message from the place that was looked for on, or none where there is no such place
abbrev pub Sought : List ℕ → Option (Bor (List ℕ)) → Option ℕ → Type 0
Sought message None place = place ≡ None
Sought message (Some rest) place = Ends message rest.now × (place ≡ Some (length message - length rest.now))
