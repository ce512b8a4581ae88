-- Messages with what is answered of them, each from its second byte on.
use Rattle.std.specs.Prelude.{◌≡◌, ℕ, List, [], ◌∷◌, map, Ok, Err, Result}
use Rattle.cbor.specs.Reader.{checked}

-- a message, and its end or the place of its fault
pub record Example : Type 0 where
  pub message : List ℕ
  pub answer : Result ℕ ℕ

abbrev pub examples : List Example
examples =
    -- the item is missing
    record { message = 0x41 ∷ []; answer = Err 1 }
    -- an empty array, and four arrays inside one another
    ∷ record { message = 0x41 ∷ 0x80 ∷ []; answer = Ok 2 }
    ∷ record { message = 0x41 ∷ 0x81 ∷ 0x81 ∷ 0x81 ∷ 0x80 ∷ []; answer = Ok 5 }
    -- a fifth level
    ∷ record { message = 0x41 ∷ 0x81 ∷ 0x81 ∷ 0x81 ∷ 0x81 ∷ 0x80 ∷ []; answer = Err 5 }
    -- 1 in two bytes
    ∷ record { message = 0x41 ∷ 0xa1 ∷ 0x18 ∷ 0x01 ∷ 0x01 ∷ []; answer = Err 2 }
    -- the key 1 after the key 2
    ∷ record { message = 0x41 ∷ 0xa2 ∷ 0x02 ∷ 0xa0 ∷ 0x01 ∷ 0x01 ∷ []; answer = Err 4 }
    -- a surplus byte
    ∷ record { message = 0x41 ∷ 0xa1 ∷ 0x01 ∷ 0x01 ∷ 0x00 ∷ []; answer = Err 4 }
    -- the key 1 with a string of one byte
    ∷ record { message = 0x41 ∷ 0xa1 ∷ 0x01 ∷ 0x41 ∷ 0x00 ∷ []; answer = Ok 5 }
    ∷ []

-- each is answered so
abbrev pub Examples : Type 0
Examples = map (λ e. checked e.message 1) examples ≡ map (λ e. e.answer) examples
