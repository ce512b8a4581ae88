-- Blocks of a message that comes in parts.
use Rattle.std.proofs.Common.{◌≡◌, ℕ, zero, suc, ◌+◌, ◌-◌, ◌*◌, ◌%◌, ◌^◌, ◌<◌, ◌≤◌, List, ◌∷◌, ◌++◌, length, take, drop, replicate, sym, refl, ap, ◌∙◌, suc-add, zero-add, arith}
use Rattle.std.proofs.lemmas.List.{drop-drop, drop-append-le, take-append-le, take_at, drop_at, length-append, length-drop, drop_all, append-nil, append_assoc, take-replicate}
use Rattle.std.specs.Simd.{first_chunks}
use Rattle.std.specs.List.{fold}
use Rattle.sha256.specs.declared.state.State.{State}
use Rattle.sha256.specs.Sha256.{H0, compress, blocks, digest_of, sha256, padded, length_field}
use Rattle.sha256.specs.declared.hasher.Hasher.{Hasher}
use Rattle.sha256.specs.Feeding.{Fed, whole, tail}

blocks-suc : (n : ℕ) (H : State) (m : List ℕ) → blocks (suc n) H m ≡ blocks n (compress H (take 64 m)) (drop 64 m)
unfolding blocks
blocks-suc n H m = refl

-- the blocks are a fold over the chunks of 64 bytes
pub blocks_fold : (n : ℕ) (H : State) (m : List ℕ) → blocks n H m ≡ fold compress H (first_chunks 64 n m)
unfolding blocks
blocks_fold zero H m = refl
blocks_fold (suc n) H m = blocks_fold n (compress H (take 64 m)) (drop 64 m)

-- first n blocks, then k more
pub blocks_add : (n k : ℕ) (H : State) (m : List ℕ) → blocks (n + k) H m ≡ blocks k (blocks n H m) (drop (64 * n) m)
unfolding blocks
blocks_add zero k H m = rw zero-add
blocks_add (suc n) k H m =
    let place : 64 * suc n ≡ 64 + 64 * n = omega arith in
    rw (suc-add, place, ← drop-drop (64 * n) 64 m) (blocks_add n k (compress H (take 64 m)) (drop 64 m))

-- what follows n blocks does not matter to them
pub blocks_front : (n : ℕ) (H : State) (xs ys : List ℕ) → 64 * n ≤ length xs → blocks n H (xs ++ ys) ≡ blocks n H xs
unfolding blocks
blocks_front zero H xs ys le = refl
blocks_front (suc n) H xs ys le =
    let here : 64 ≤ length xs = omega arith in
    rw (take-append-le 64 xs ys here, drop-append-le 64 xs ys here) (blocks_front n (compress H (take 64 xs)) (drop 64 xs) ys (simp length-drop (omega arith)))

-- one block in front
pub block_first : (H : State) (m b r : List ℕ) → m ≡ b ++ r → length b ≡ 64 → blocks (whole m) H m ≡ blocks (whole r) (compress H b) r
block_first H m b r is e =
    let n : whole (b ++ r) ≡ suc (whole r) = simp length-append (omega arith) in
    rw (is, n, blocks-suc, take_at b r 64 e, drop_at b r 64 e)

pub tail_first : (m b r : List ℕ) → m ≡ b ++ r → length b ≡ 64 → tail m ≡ tail r
tail_first m b r is e =
    let n : 64 * whole (b ++ r) ≡ 64 + 64 * whole r = simp length-append (omega arith) in
    rw (is, n, ← drop-drop (64 * whole r) 64 (b ++ r), drop_at b r 64 e)

-- less than a block
pub blocks_small : (H : State) (m : List ℕ) → length m < 64 → blocks (whole m) H m ≡ H
unfolding blocks
blocks_small H m lt = let n : whole m ≡ 0 = omega arith in rw n

pub tail_small : (m : List ℕ) → length m < 64 → tail m ≡ m
tail_small m lt = let n : 64 * whole m ≡ 0 = omega arith in rw n

pub length-tail : (m : List ℕ) → length (tail m) ≡ length m % 64
length-tail m = simp length-drop (omega arith)

-- a part after a message
pub whole_parts : (m xs : List ℕ) → whole (m ++ xs) ≡ whole m + whole (tail m ++ xs)
whole_parts m xs = simp (length-append, length-drop) (omega arith)

drop_whole : (m xs : List ℕ) → drop (64 * whole m) (m ++ xs) ≡ tail m ++ xs
drop_whole m xs = drop-append-le (64 * whole m) m xs (omega arith)

pub blocks_parts : (H : State) (m xs : List ℕ) → blocks (whole (m ++ xs)) H (m ++ xs) ≡ blocks (whole (tail m ++ xs)) (blocks (whole m) H m) (tail m ++ xs)
blocks_parts H m xs =
    rw (whole_parts m xs, blocks_add (whole m) (whole (tail m ++ xs)) H (m ++ xs), drop_whole m xs, blocks_front (whole m) H m xs (omega arith))

pub tail_parts : (m xs : List ℕ) → tail (tail m ++ xs) ≡ tail (m ++ xs)
tail_parts m xs =
    let n : 64 * whole (m ++ xs) ≡ 64 * whole m + 64 * whole (tail m ++ xs) = simp (length-append, length-drop) (omega arith) in
    rw (n, ← drop-drop (64 * whole (tail m ++ xs)) (64 * whole m) (m ++ xs), drop_whole m xs)

-- a buffer that begins with the tail keeps it
pub kept_from : (m t b r : List ℕ) (n : ℕ) → t ≡ tail m → n ≡ length m → b ≡ t ++ r → take (n % 64) b ≡ tail m
kept_from m t b r n is long e =
    let k : length t ≡ n % 64 = ap length is ∙ (length-tail m ∙ ap (λ x. x % 64) (sym long)) in
    rw (e, take_at t r (n % 64) k) is

-- a buffer that is full
pub filled : (b x head rest full : List ℕ) (u : ℕ) → x ≡ head ++ rest → length b ≤ u + length head → full ≡ take u b ++ (head ++ drop (u + length head) b) → take u b ++ x ≡ full ++ rest
filled b x head rest full u parts le e =
    rw (e, drop_all (u + length head) b le, append-nil, parts, append_assoc)

-- the hasher after one more part
pub fed_more : (h h' : Hasher) (m xs : List ℕ) → Fed h m → h'.state ≡ blocks (whole (take (h.count % 64) h.buffer ++ xs)) h.state (take (h.count % 64) h.buffer ++ xs) → take ((h.count % 64 + length xs) % 64) h'.buffer ≡ tail (take (h.count % 64) h.buffer ++ xs) → h'.count ≡ (h.count + length xs) % 2 ^ 64 → Fed h' (m ++ xs)
fed_more h h' m xs fed s k n =
    let place : h.count % 64 ≡ length m % 64 = rw fed.counted (omega arith) in
    let held : take (h.count % 64) h.buffer ≡ tail m = rw place fed.kept in
    let end : (h.count % 64 + length xs) % 64 ≡ length (m ++ xs) % 64 = simp length-append (omega arith) in
    record {
      compressed = (rw (held, fed.compressed) at s) ∙ sym (blocks_parts H0 m xs);
      kept = rw (← end) (k ∙ (rw held (tail_parts m xs)));
      counted = n ∙ (rw (fed.counted, length-append m xs) (omega arith));
    }

-- the padding that follows a message
padding : (z : ℕ) → z ≤ 63 → take {A = ℕ} (z + 1 - 0) (0x80 ∷ replicate 63 0) ≡ 0x80 ∷ replicate z 0
padding z le =
    let n : z + 1 - 0 ≡ suc z = omega arith in
    rw (n, take-replicate {X = ℕ} z 63 0 le)

pub padded_is : (h : Hasher) (m field : List ℕ) (z : ℕ) → Fed h m → z ≡ (119 - h.count % 64) % 64 → field ≡ length_field ((h.count * 8) % 2 ^ 64) → (m ++ take {A = ℕ} (z + 1 - 0) (0x80 ∷ replicate 63 0)) ++ field ≡ padded m
unfolding padded
padded_is h m field z fed zeros is =
    let n : z ≡ (119 - length m % 64) % 64 = zeros ∙ (rw fed.counted (omega arith)) in
    let bits : (h.count * 8) % 2 ^ 64 ≡ 8 * length m % 2 ^ 64 = rw fed.counted (omega arith) in
    let le : z ≤ 63 = omega arith in
    rw (padding z le, is, bits, n)

pub digest_is : (h : Hasher) (m p : List ℕ) → Fed h p → p ≡ padded m → digest_of h.state ≡ sha256 m
unfolding sha256
digest_is h m p fed is = ap digest_of fed.compressed ∙ ap (λ (x : List ℕ). digest_of (blocks (whole x) H0 x)) is
