use Rattle.std.proofs.Common.{◌≡◌, take, string_bytes}
use Rattle.std.specs.List.{flat_map}
use Rattle.cbor.specs.Meaning.{meant}
use Rattle.explain.specs.Shown.{item_line}
use Rattle.explain.proofs.explaining.explanation.Given as goal

abbrev pub invariant-loop-entry : goal.invariant-loop-entry
invariant-loop-entry l = string_bytes l.text ≡ flat_map (λ e. item_line e.place e.level (meant e.item)) (take l.entry-index l.entry-items)
