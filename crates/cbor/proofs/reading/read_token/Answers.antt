use Rattle.std.proofs.Common.{ℕ, arith, length-take, length-drop}
use Rattle.cbor.proofs.Strings.{argument_fits, string_fits}
use Rattle.cbor.proofs.reading.read_token.Goals as goal

pub slice_bounds-by_major-count : goal.slice_bounds-by_major-count
slice_bounds-by_major-count c = argument_fits _ _ _ c.in_ok-value.ensures

pub slice_bounds-by_major-start : goal.slice_bounds-by_major-start
slice_bounds-by_major-start c = argument_fits _ _ _ c.in_ok-value.ensures

pub split_at-requires : goal.split_at-requires
split_at-requires c =
    let first = c.in_ok-initial.ensures.cases.1 in
    let width = argument_fits _ _ _ c.in_ok-value.ensures in
    let size = string_fits _ _ _ _ _ c.in_ok-item.ensures in
    omega (arith, length-take {A = ℕ}, length-drop {A = ℕ})

pub overflow_add-width : goal.overflow_add-width
overflow_add-width c =
    let first = c.in_ok-initial.ensures.cases.1 in
    let width = argument_fits _ _ _ c.in_ok-value.ensures in
    omega arith

pub overflow_add-width-2 : goal.overflow_add-width-2
overflow_add-width-2 c =
    let first = c.in_ok-initial.ensures.cases.1 in
    let width = argument_fits _ _ _ c.in_ok-value.ensures in
    let size = string_fits _ _ _ _ _ c.in_ok-item.ensures in
    omega (arith, length-take {A = ℕ}, length-drop {A = ℕ})
