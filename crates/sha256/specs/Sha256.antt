-- SHA-256 as FIPS 180-4 defines it, in the standard's order and names; numbers before a colon are its sections.
-- A word is a number below 2 ^ 32, and a message is a list of bytes.
use Rattle.std.specs.Prelude.{ℕ, zero, suc, ◌+◌, ◌-◌, ◌*◌, ◌/◌, ◌%◌, ◌^◌, List, [], ◌∷◌, ◌++◌, length, take, drop, replicate, bit_and, bit_or, bit_xor, slice_index, slice_index_or}
use Rattle.std.specs.List.{flat_map}
use Rattle.sha256.specs.declared.state.State.{State}

infixl 34 ◌&◌
infixl 32 ◌⊕◌
infixl 30 ◌⊞◌
-- 3.2: and, exclusive or, bit by bit
abbrev pub ◌&◌ : ℕ → ℕ → ℕ
x & y = bit_and x y

abbrev pub ◌⊕◌ : ℕ → ℕ → ℕ
x ⊕ y = bit_xor x y

-- 3.2: the complement
abbrev pub ¬w : ℕ → ℕ
¬w x = 2 ^ 32 - 1 - x

-- 3.2: addition modulo 2 ^ 32
abbrev pub ◌⊞◌ : ℕ → ℕ → ℕ
x ⊞ y = (x + y) % 2 ^ 32

-- 3.2: the left shift and the right shift by n bits
abbrev pub SHL : ℕ → ℕ → ℕ
SHL n x = x * 2 ^ n % 2 ^ 32

abbrev pub SHR : ℕ → ℕ → ℕ
SHR n x = x / 2 ^ n

-- 3.2: the rotation to the right by n bits
abbrev pub ROTR : ℕ → ℕ → ℕ
ROTR n x = bit_or (SHR n x) (SHL (32 - n) x)

-- 4.1.2: the functions
abbrev pub Ch : ℕ → ℕ → ℕ → ℕ
Ch x y z = (x & y) ⊕ (¬w x & z)

abbrev pub Maj : ℕ → ℕ → ℕ → ℕ
Maj x y z = (x & y) ⊕ (x & z) ⊕ (y & z)

abbrev pub Σ0 : ℕ → ℕ
Σ0 x = ROTR 2 x ⊕ ROTR 13 x ⊕ ROTR 22 x

abbrev pub Σ1 : ℕ → ℕ
Σ1 x = ROTR 6 x ⊕ ROTR 11 x ⊕ ROTR 25 x

abbrev pub σ0 : ℕ → ℕ
σ0 x = ROTR 7 x ⊕ ROTR 18 x ⊕ SHR 3 x

abbrev pub σ1 : ℕ → ℕ
σ1 x = ROTR 17 x ⊕ ROTR 19 x ⊕ SHR 10 x

-- 4.2.2: the constants
unfoldable pub K : List ℕ
K =
    0x428a2f98 ∷ 0x71374491 ∷ 0xb5c0fbcf ∷ 0xe9b5dba5 ∷ 0x3956c25b ∷ 0x59f111f1 ∷ 0x923f82a4 ∷ 0xab1c5ed5 ∷
    0xd807aa98 ∷ 0x12835b01 ∷ 0x243185be ∷ 0x550c7dc3 ∷ 0x72be5d74 ∷ 0x80deb1fe ∷ 0x9bdc06a7 ∷ 0xc19bf174 ∷
    0xe49b69c1 ∷ 0xefbe4786 ∷ 0x0fc19dc6 ∷ 0x240ca1cc ∷ 0x2de92c6f ∷ 0x4a7484aa ∷ 0x5cb0a9dc ∷ 0x76f988da ∷
    0x983e5152 ∷ 0xa831c66d ∷ 0xb00327c8 ∷ 0xbf597fc7 ∷ 0xc6e00bf3 ∷ 0xd5a79147 ∷ 0x06ca6351 ∷ 0x14292967 ∷
    0x27b70a85 ∷ 0x2e1b2138 ∷ 0x4d2c6dfc ∷ 0x53380d13 ∷ 0x650a7354 ∷ 0x766a0abb ∷ 0x81c2c92e ∷ 0x92722c85 ∷
    0xa2bfe8a1 ∷ 0xa81a664b ∷ 0xc24b8b70 ∷ 0xc76c51a3 ∷ 0xd192e819 ∷ 0xd6990624 ∷ 0xf40e3585 ∷ 0x106aa070 ∷
    0x19a4c116 ∷ 0x1e376c08 ∷ 0x2748774c ∷ 0x34b0bcb5 ∷ 0x391c0cb3 ∷ 0x4ed8aa4a ∷ 0x5b9cca4f ∷ 0x682e6ff3 ∷
    0x748f82ee ∷ 0x78a5636f ∷ 0x84c87814 ∷ 0x8cc70208 ∷ 0x90befffa ∷ 0xa4506ceb ∷ 0xbef9a3f7 ∷ 0xc67178f2 ∷ []

-- 5.1.1: the 64 bits of the message's length in bits. The standard speaks of messages below 2 ^ 64 bits;
-- past that the length is taken modulo 2 ^ 64.
unfoldable pub length_field : ℕ → List ℕ
length_field bits =
    bits / 2 ^ 56 % 256 ∷ bits / 2 ^ 48 % 256 ∷ bits / 2 ^ 40 % 256 ∷ bits / 2 ^ 32 % 256 ∷
    bits / 2 ^ 24 % 256 ∷ bits / 2 ^ 16 % 256 ∷ bits / 2 ^ 8 % 256 ∷ bits % 256 ∷ []

-- 5.1.1: the message, the bit 1, the fewest zeros that make whole blocks with the eight bytes of the length, and the length
unfoldable pub padded : List ℕ → List ℕ
padded m =
    m ++ (0x80 ∷ replicate ((119 - length m % 64) % 64) 0) ++ length_field (8 * length m % 2 ^ 64)

-- 5.2.1: the first word of some bytes, most significant byte first
abbrev pub word : List ℕ → ℕ
word bs = slice_index bs 0 * 2 ^ 24 + slice_index bs 1 * 2 ^ 16 + slice_index bs 2 * 2 ^ 8 + slice_index bs 3

-- 5.2.1: the first n words of some bytes
unfoldable pub words : ℕ → List ℕ → List ℕ
words zero bs = []
words (suc n) bs = word bs ∷ words n (drop 4 bs)

-- 5.3.3: the initial hash value
unfoldable pub H0 : State
H0 = record {
  a = 0x6a09e667;
  b = 0xbb67ae85;
  c = 0x3c6ef372;
  d = 0xa54ff53a;
  e = 0x510e527f;
  f = 0x9b05688c;
  g = 0x1f83d9ab;
  h = 0x5be0cd19;
}

-- 6.2.2, step 1: the word W t after the words before it
abbrev pub next_word : List ℕ → ℕ → ℕ
next_word W t = σ1 (slice_index W (t - 2)) ⊞ slice_index_or W (t - 7) 0 ⊞ σ0 (slice_index W (t - 15)) ⊞ slice_index_or W (t - 16) 0

-- 6.2.2, step 1: n more words
unfoldable pub extend : ℕ → List ℕ → List ℕ
extend zero W = W
extend (suc n) W = extend n (W ++ next_word W (length W) ∷ [])

-- 6.2.2, step 1: the message schedule of a block
unfoldable pub schedule : List ℕ → List ℕ
schedule block = extend 48 (words 16 block)

-- 6.2.2, step 3: the two sums of a round
abbrev pub T1 : ℕ → ℕ → State → ℕ
T1 k w v = v.h ⊞ Σ1 v.e ⊞ Ch v.e v.f v.g ⊞ k ⊞ w

abbrev pub T2 : State → ℕ
T2 v = Σ0 v.a ⊞ Maj v.a v.b v.c

-- 6.2.2, step 3: one round on the working variables
unfoldable pub round : ℕ → ℕ → State → State
round k w v = record {
  a = T1 k w v ⊞ T2 v;
  b = v.a;
  c = v.b;
  d = v.c;
  e = v.d ⊞ T1 k w v;
  f = v.e;
  g = v.f;
  h = v.g;
}

-- 6.2.2, step 3: a round for each constant and word
unfoldable pub rounds : List ℕ → List ℕ → State → State
rounds [] W v = v
rounds (k ∷ ks) [] v = v
rounds (k ∷ ks) (w ∷ W) v = rounds ks W (round k w v)

-- 6.2.2, step 4: the sum of two hash values, word by word
unfoldable pub plus : State → State → State
plus x y = record {
  a = x.a ⊞ y.a;
  b = x.b ⊞ y.b;
  c = x.c ⊞ y.c;
  d = x.d ⊞ y.d;
  e = x.e ⊞ y.e;
  f = x.f ⊞ y.f;
  g = x.g ⊞ y.g;
  h = x.h ⊞ y.h;
}

-- 6.2.2: the hash value after one more block
unfoldable pub compress : State → List ℕ → State
compress H block = plus (rounds K (schedule block) H) H

-- 6.2.2: the hash value after n more blocks
unfoldable pub blocks : ℕ → State → List ℕ → State
blocks zero H m = H
blocks (suc n) H m = blocks n (compress H (take 64 m)) (drop 64 m)

-- 6.2.2: a word's bytes, most significant byte first
unfoldable pub bytes : ℕ → List ℕ
bytes w = w / 2 ^ 24 % 256 ∷ w / 2 ^ 16 % 256 ∷ w / 2 ^ 8 % 256 ∷ w % 256 ∷ []

-- 6.2.2: the message digest of the last hash value
unfoldable pub digest_of : State → List ℕ
digest_of H = flat_map bytes (H.a ∷ H.b ∷ H.c ∷ H.d ∷ H.e ∷ H.f ∷ H.g ∷ H.h ∷ [])

-- 6.2: the SHA-256 digest of a message
unfoldable pub sha256 : List ℕ → List ℕ
sha256 m = digest_of (blocks (length (padded m) / 64) H0 (padded m))
