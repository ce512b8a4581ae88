use Rattle.std.proofs.Common.{◌≡◌, ◌+◌, ◌*◌, replicate, refl, ap, ◌∙◌, arith}
use Rattle.std.proofs.lemmas.List.{replicate-append-replicate}
use Rattle.std.proofs.lemmas.Grind.{put_two}
use Rattle.explain.proofs.text.EntryDisplay.fmt.Goals as goal

pub loop-level-preserved : goal.loop-level-preserved
loop-level-preserved g c = λ plain.
    let i = c.loop-level._level in
    let two : 2 * i + 2 ≡ 2 * (i + 1) = omega arith in
    let before = c.loop-level.invariant plain in
    put_two _ _ _ _ _ _ _ before (c.in_ok-write.ensures.writes before.plain refl) (replicate-append-replicate (2 * i) 2 0x20 ∙ ap (λ n. replicate n 0x20) two)
