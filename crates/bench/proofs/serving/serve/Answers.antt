use Rattle.std.proofs.Common.{◌≡◌, [], ◌∷◌, ◌++◌, length, drop, string_bytes, sym, ap, ◌∙◌, subst, inl, arith, length-append, length-drop}
use Rattle.std.specs.Io.{StopsAt, appended_bytes}
use Rattle.std.specs.Io.KnownBytes.{Consumes, Appends}
use Rattle.bench.specs.Served.{Turn}
use Rattle.bench.proofs.Turns.{taken_more, taken_end, at_end, line_of_read}
use Rattle.bench.proofs.serving.serve.Goals as goal

pub loop-turn-preserved : goal.loop-turn-preserved
loop-turn-preserved g c =
    let inv = c.loop-turn.invariant in
    let read = c.in_ok-read_until.ensures in
    let line : appended_bytes c.new-line.result.items c.read_until.new.buf.items ≡ c.deref.result.now
    = ap (λ old. drop (length old) c.read_until.new.buf.items) c.new-line.ensures.items ∙ sym c.deref.ensures.value in
    let turn : Turn = record { line = c.deref.result.now; shown = string_bytes c.in_ok-text.text } in (
      inv.0 ++ turn ∷ [],
      taken_more g.B.Bench.answers _ _ _ _ _ _ _ _ _ _ inv.0 turn inv.1 c.in_ok-text.ensures.text
          (omega (arith, ap length line, length-drop (length c.new-line.result.items) c.read_until.new.buf.items, read.ok, c.read_until.new.buf.ok.0, c.new-line.ensures.len, c.if-branch-eq0.false), subst (λ l. StopsAt l 10) line read.stops)
          (line_of_read (g.R.Read.remaining c.loop-turn.input) _ _ _ c.deref.ensures.value c.new-line.ensures.items read.bytes)
          read.rest
          (subst (Consumes (g.R.Read.remaining c.loop-turn.input) (g.R.Read.remaining c.read_until.new.self)) line read.none_lost)
          (subst (Appends (g.W.Write.contents c.loop-turn.output) (g.W.Write.contents c.write_all.new.self)) c.as_bytes.ensures.value c.in_ok-write_all.ensures.bytes)
          c.in_ok-flush.ensures.bytes,
      omega (arith, length-append inv.0 (turn ∷ []), inv.2),
    )

pub returns-then-branch-eq0 : goal.returns-then-branch-eq0
returns-then-branch-eq0 g c =
    let inv = c.loop-turn.invariant in
    let read = c.in_ok-read_until.ensures in
    let bytes = appended_bytes c.new-line.result.items c.read_until.new.buf.items in
    let none : length bytes ≡ 0
    = omega (arith, length-drop (length c.new-line.result.items) c.read_until.new.buf.items, read.ok, c.read_until.new.buf.ok.0, c.new-line.ensures.len, c.if-branch-eq0.true) in
    record {
      served = record {
        turns = inv.0;
        taken = taken_end g.B.Bench.answers _ _ _ _ _ _ _ inv.0 bytes inv.1 read.none_lost none (read.end c.if-branch-eq0.true) read.rest;
        whole = inl (at_end _ _ _ _ bytes inv.1.read (read.end c.if-branch-eq0.true) read.none_lost);
      };
    }
