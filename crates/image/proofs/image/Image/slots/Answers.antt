use Rattle.std.proofs.Common.{◌∙◌}
use Rattle.image.proofs.Chunks.{gives_slots}
use Rattle.image.proofs.image.Image.slots.Goals as goal

pub returns-clause-answer : goal.returns-clause-answer
returns-clause-answer c =
    rw (← c.self.view_is) (gives_slots c.chunks_exact.result _ c.chunks_exact.ensures.size (c.chunks_exact.ensures.rest ∙ c.deref.ensures.value))
