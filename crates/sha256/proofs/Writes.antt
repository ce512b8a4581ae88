-- What a write to a part of an array leaves.
use Rattle.std.proofs.Common.{◌≡◌, ℕ, ◌+◌, ◌-◌, ◌*◌, ◌<◌, ◌≤◌, List, [], ◌++◌, length, get_or, take, drop, sym, refl, ap, ◌∙◌, arith}
use borrow.Rule.Slice.PartMut.{put_mid}
use Rattle.std.specs.List.{flat_map}
use Rattle.std.proofs.lemmas.List.{drop-drop, flat_map_more, take_more, take_all}
use Rattle.std.proofs.lemmas.Slice.{take-put_mid}
use Rattle.sha256.specs.Sha256.{bytes}

pub written : (a n : ℕ) (xs ys zs : List ℕ) → ys ≡ zs → put_mid a (a + n - a) xs ys ≡ take a xs ++ (zs ++ drop (a + n) xs)
written a n xs ys zs is =
    let k : a + n - a ≡ n = omega arith in
    rw (k, is, ← drop-drop n a xs)

length_bytes : (w : ℕ) → length (bytes w) ≡ 4
unfolding bytes
length_bytes w = refl

-- one more word's bytes
pub bytes_more : (ws out ys : List ℕ) (i k : ℕ) → length out ≡ 32 → i < length ws → i < 8 → take (4 * i) out ≡ flat_map bytes (take i ws) → ys ≡ bytes (get_or ws i 0) → take (4 * (i + 1)) (put_mid (4 * i) k out ys) ≡ flat_map bytes (take (i + 1) ws)
bytes_more ws out ys i k long lt low e is =
    let n : 4 * (i + 1) ≡ 4 * i + length ys = omega (arith, ap length is, length_bytes (get_or ws i 0)) in
    let le : 4 * i ≤ length out = omega arith in
    take-put_mid (4 * i) k out ys (4 * (i + 1)) n le ∙ (rw (e, is, take_more ws i 0 lt) (flat_map_more bytes [] (take i ws) (get_or ws i 0)))

pub bytes_all : (ws out : List ℕ) (i : ℕ) → length out ≡ 32 → length ws ≡ 8 → i ≡ 8 → take (4 * i) out ≡ flat_map bytes (take i ws) → out ≡ flat_map bytes ws
bytes_all ws out i long many is e =
    let le : length out ≤ 32 = omega arith in
    let few : length ws ≤ 8 = omega arith in
    sym (take_all 32 out le) ∙ ((rw is at e) ∙ ap (flat_map bytes) (take_all 8 ws few))
