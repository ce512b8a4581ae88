use Rattle.std.proofs.Common.{◌≡◌, ℕ, ◌+◌, ◌-◌, ◌%◌, ◌<◌, List, ◌++◌, length, take, drop, sym, refl, ap, ◌∙◌, zero-add, arith}
use Rattle.std.proofs.lemmas.List.{length-append, length-take-le, append_assoc, take-append-drop}
use Rattle.sha256.specs.Sha256.{blocks}
use Rattle.sha256.specs.Feeding.{whole}
use Rattle.sha256.proofs.Streams.{block_first, tail_first, blocks_small, tail_small, kept_from, filled, fed_more}
use Rattle.sha256.proofs.hasher.Hasher.update.Goals as goal

length-held : (b x : List ℕ) (u : ℕ) → u < 64 → length b ≡ 64 → u + length x ≡ length (take u b ++ x)
length-held b x u lt long = rw (length-append, length-take-le u b (omega arith))

pub returns-then-used-eq0 : goal.returns-then-used-eq0
returns-then-used-eq0 c m fed =
    let none : c.args.self.now.count % 64 ≡ 0 = sym c.used-used.ensures ∙ c.if-used-eq0.true in
    fed_more c.args.self.now _ m c.args.input.now fed (rw none c.absorb.ensures.compressed) (rw (none, zero-add) c.absorb.ensures.kept) c.absorb.ensures.counted

pub returns-in_default : goal.returns-in_default
returns-in_default c m fed =
    let h = c.args.self.now in
    let b = h.buffer in
    let x = c.args.input.now in
    let u = h.count % 64 in
    let held = take u b ++ x in
    let n = length-held b x u (omega arith) (omega arith) in
    let lt : length held < 64 = omega (arith, c.in_default.ensures.cases) in
    let after = rw (c.used-used.ensures) at c.copy_at.ensures in
    fed_more h _ m x fed (sym (blocks_small h.state held lt))
    (kept_from held held c.copy_at.new.buffer (drop (u + length x) b) (u + length x) (sym (tail_small held lt)) n (rw (append_assoc (take u b) x (drop (u + length x) b)) after)) refl

pub returns : goal.returns
returns c m fed =
    let h = c.args.self.now in
    let b = h.buffer in
    let x = c.args.input.now in
    let u = h.count % 64 in
    let held = take u b ++ x in
    let head = c.in-Some.head.now in
    let rest = c.in-Some.rest.now in
    let split = c.in-Some.ensures.cases in
    let full = c.copy_at-2.new.buffer in
    let room = 64 - c.used-used.result in
    let parts : x ≡ head ++ rest = rw (split.1, split.2) (sym (take-append-drop room x)) in
    let is = filled b x head rest full u parts (omega arith) (rw (c.used-used.ensures) at c.copy_at-2.ensures) in
    let long : length full ≡ 64 = omega arith in
    let n = length-held b x u (omega arith) (omega arith) in
    let end : (u + length x) % 64 ≡ length rest % 64 = rw (n, is, length-append full rest) (omega arith) in
    let state = c.absorb-2.ensures.compressed ∙ (ap (λ s. blocks (whole rest) s rest) c.compress_block-self.ensures ∙ sym (block_first h.state held full rest is long)) in
    fed_more h _ m x fed state (rw end (c.absorb-2.ensures.kept ∙ sym (tail_first held full rest is long))) c.absorb-2.ensures.counted
