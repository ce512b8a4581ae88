-- HMAC-SHA-256 as RFC 2104 defines it, and the tag of 16 bytes that is made of it. Keys and texts are lists of bytes.
use Rattle.std.specs.Prelude.{◌≡◌, ℕ, ◌-◌, Bool, cond, if◌then◌else◌, ◌==◌, List, ◌++◌, map, length, take, replicate, bit_xor, nat_lt, Result, is_ok}
use Rattle.std.specs.Str.{bytes_eq}
use Rattle.sha256.specs.Sha256.{sha256}

-- the byte length of a block
abbrev pub B : ℕ
B = 64

-- the byte that is repeated in the inner pad
abbrev pub ipad : ℕ
ipad = 0x36

-- the byte that is repeated in the outer pad
abbrev pub opad : ℕ
opad = 0x5c

-- a key longer than a block is hashed first
unfoldable pub shortened : List ℕ → List ℕ
shortened K = cond (nat_lt B (length K)) (sha256 K) K

-- zeros are appended up to the length of a block
unfoldable pub filled : List ℕ → List ℕ
filled K = K ++ replicate (B - length K) 0

-- each byte is combined with the pad's byte by exclusive or
unfoldable pub xor : ℕ → List ℕ → List ℕ
xor pad bs = map (λ b. bit_xor b pad) bs

-- H(K XOR opad, H(K XOR ipad, text))
unfoldable pub hmac : List ℕ → List ℕ → List ℕ
hmac K text = sha256 (xor opad (filled (shortened K)) ++ sha256 (xor ipad (filled (shortened K)) ++ text))

-- the tag of a covered text: the first 16 bytes of its HMAC under the token
unfoldable pub tag : List ℕ → List ℕ → List ℕ
tag token covered = take 16 (hmac token covered)

-- what was given agrees when it is exactly the tag
unfoldable pub agreed : List ℕ → List ℕ → List ℕ → Bool
agreed token covered given = bytes_eq (tag token covered) given

-- there is an answer exactly when the work place has the length of a block
abbrev pub OkAtBlock : {T E : Type 0} → Result T E → List ℕ → Type 0
OkAtBlock result old = is_ok result ≡ (length old == B)

-- after an answer the work place holds zeros, and after a refusal what it held
abbrev pub ZeroedOnOk : {T E : Type 0} → Result T E → List ℕ → List ℕ → Type 0
ZeroedOnOk result old new = new ≡ (if is_ok result then replicate B 0 else old)
