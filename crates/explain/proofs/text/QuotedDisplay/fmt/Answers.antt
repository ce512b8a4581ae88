use Rattle.std.proofs.Common.{◌≡◌, [], ◌∷◌, ◌++◌, ap, append-nil, refl, sym, ◌∙◌}
use Rattle.std.proofs.Output.{has_written_append, has_written_of_eq}
use Rattle.std.proofs.lemmas.Bool.{eqb-true}
use Rattle.std.proofs.lemmas.List.{nil_from_length}
use Rattle.std.proofs.lemmas.Result.{MatchResult-at_ok}
use Rattle.std.proofs.lemmas.Str.{IsUtf8-from_ascii}
use Rattle.std.specs.List.{flat_map}
use Rattle.explain.specs.Shown.{character}
use Rattle.lines.proofs.Written.{no_error}
use Rattle.explain.proofs.Texts.{front_plain, piece_shown, plain_ascii}
use Rattle.explain.proofs.text.QuotedDisplay.fmt.Goals as goal

pub unwrap-requires : goal.unwrap-requires
unwrap-requires g c =
    let plain = front_plain c.loop-rest.rest.now _ c.plain_len.result c.split_at.ensures.front c.plain_len.ensures.within c.plain_len.ensures.plain in
    no_error c.from_utf8.result _ _ c.from_utf8.ensures.cases (λ e broken. broken.0 (IsUtf8-from_ascii _ (plain_ascii _ plain)))

pub loop-rest-preserved : goal.loop-rest-preserved
loop-rest-preserved g c = λ plain.
    let so_far = c.loop-rest.invariant plain in
    let run = c.split_at.result.0.now in
    let is_run = front_plain c.loop-rest.rest.now run c.plain_len.result c.split_at.ensures.front c.plain_len.ensures.within c.plain_len.ensures.plain in
    let text : c.unwrap.result.now ≡ run = (MatchResult-at_ok _ _ c.unwrap.result c.unwrap.ensures c.from_utf8.ensures.cases).0 in
    let one = has_written_append _ _ _ _ _ _ so_far.1 (has_written_of_eq _ _ _ _ _ text (c.in_ok-write_str.ensures.writes so_far.1.plain refl)) in
    let two = has_written_append _ _ _ _ _ _ one (c.in_ok-write-2.ensures.writes one.plain refl) in
    let parts = c.split_at.ensures.by_index.0 ∙ ap (λ t. run ++ t) c.split_at-in-loop-rest.ensures.by_index.0 in (
      (so_far.0 ++ run) ++ flat_map character c.split_at-in-loop-rest.result.0.now,
      two,
      piece_shown so_far.0 run c.split_at-in-loop-rest.result.0.now c.split_at-in-loop-rest.result.1.now c.loop-rest.rest.now (flat_map character c.args.self.now.0.now) parts is_run so_far.2,
    )

pub returns-clause-writes : goal.returns-clause-writes
returns-clause-writes g c = λ plain ok.
    let first = c.in_ok-write.ensures.writes plain refl in
    let so_far = c.loop-rest.invariant first.plain in
    let none = nil_from_length _ (eqb-true _ 0 (sym c.is_empty.ensures ∙ c.loop-rest-test.false)) in
    let all : so_far.0 ≡ flat_map character c.args.self.now.0.now = sym (append-nil so_far.0) ∙ (rw none at so_far.2) in
    let last = has_written_append _ _ _ _ _ _ so_far.1 (c.write-2.ensures.writes so_far.1.plain ok) in
    has_written_of_eq _ _ _ _ _ (ap (λ t. 34 ∷ (t ++ 34 ∷ [])) all) (has_written_append _ _ _ _ _ _ first last)
