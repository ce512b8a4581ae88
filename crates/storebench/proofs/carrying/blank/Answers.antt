use Rattle.std.proofs.Common.{◌≡◌, IfOk, vec_items, string_bytes, ap, ◌∙◌, subst, inr}
use Rattle.storebench.specs.Printed.{open_text}
use Rattle.storebench.specs.State.{blank_image, state_of, after_open}
use Rattle.storebench.proofs.Opens.{blank_open, always}
use Rattle.storebench.proofs.carrying.blank.Goals as goal

pub returns : goal.returns
returns c =
    let kind = c.args.kind in
    let before = state_of c.args.held.now in
    let zeros : vec_items c.in_ok-image.image ≡ blank_image c.min-slots.result = c.in_ok-image.ensures.items_if_clones_equal (λ y e. e) in
    let both = blank_open kind c.args.slots c.min-slots.result before c.min-slots.ensures in
    let after = c.«open».ensures.state ∙ ap (λ im. after_open kind im before) zeros ∙ both.1 in
    record {
      text =
          subst (λ t. IfOk c.«open».result (λ s. string_bytes s ≡ t)) (ap (open_text kind) zeros ∙ both.0) c.«open».ensures.text;
      state = always c.«open».result after;
      either = inr after;
    }
