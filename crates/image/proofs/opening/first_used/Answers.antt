use Rattle.std.proofs.Common.{◌≡◌, ℕ, ◌+◌, List, Bor, Some, None, Option, drop, tests, rules, sym, ap, ◌∙◌, arith}
use Rattle.std.specs.Iterator.Adapters.{skip_source}
use Rattle.std.specs.Slice.Iter.{chunks_exact_steps}
use Rattle.std.specs.Option.{option_map}
use Rattle.std.proofs.lemmas.Iterator.{YieldsList}
use Rattle.std.proofs.lemmas.Iterator.Adapters.{YieldsList-from_skip, position_from-zero}
use Rattle.std.proofs.lemmas.Iterator.Search.{position_from_yields_List}
use Rattle.credential.specs.Slot.{free}
use Rattle.image.specs.Cut.{cells}
use Rattle.image.specs.Opening.{unused}
use Rattle.image.specs.Scan.{first_used}
use Rattle.image.proofs.Tally.{is_used, first_is}
use Rattle.image.proofs.opening.first_used.Goals as goal
use Rattle.image.proofs.opening.first_used.Goals.{After-position}

-- what was found, as a slot of the image
found :
    (c : goal.After-position) (r : Option ℕ) → c.position.result ≡ r
    → first_used (option_map (λ k. c.args.from + k) r) ≡ unused c.args.from (drop c.args.from (cells c.args.image.now))
unfolding free
found c r was =
    let from = c.args.from in
    let rest = drop from (cells c.args.image.now) in
    let n : from + 0 ≡ from = omega arith in
    let slots : YieldsList chunks_exact_steps (λ (slot : Bor (List ℕ)). slot.now) (skip_source c.skip.result) (cells c.args.image.now) =
    record { runs = rw c.skip.ensures.source c.slots.ensures.answer } in
    let road = YieldsList-from_skip from slots c.skip.ensures.count in
    let is = position_from_yields_List is_used _ _ c.position.result c.position.ensures.ran road (λ x b q k. search (rules, tests)) ∙ position_from-zero is_used rest in
    ap (λ r. first_used (option_map (λ k. from + k) r)) (sym was ∙ is) ∙ first_is from 0 rest ∙ ap (λ k. unused k rest) n

pub returns-in_err-behind : goal.returns-in_err-behind
returns-in_err-behind c = rw c.from_residual.ensures (found (goal.at.returns-in_err-behind c).After-position None c.in_err-behind.was)

pub returns : goal.returns
returns c = found (goal.at.returns c).After-position (Some c.in_ok-behind.behind) c.in_ok-behind.was
