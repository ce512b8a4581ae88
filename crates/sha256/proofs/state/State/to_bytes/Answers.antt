use Rattle.std.proofs.Common.{[], ◌∷◌, ◌∙◌, ap, refl, rules}
use Rattle.std.specs.List.{flat_map}
use Rattle.std.proofs.lemmas.List.Folds.{flat_map-map}
use Rattle.sha256.specs.Sha256.{bytes, digest_of}
use Rattle.sha256.proofs.Maps.{mapped}
use Rattle.sha256.proofs.state.State.to_bytes.Goals as goal

pub returns : goal.returns
unfolding digest_of bytes
returns c =
    let s = c.args.self in
    let each = mapped bytes c.map-bytes.ensures.items refl (λ p w r q k. search rules) in
    c.copy_from_slice.ensures.after ∙ (c.as_flattened.ensures.value ∙ (ap (flat_map (λ x. x)) each ∙ flat_map-map (λ x. x) bytes (s.a ∷ s.b ∷ s.c ∷ s.d ∷ s.e ∷ s.f ∷ s.g ∷ s.h ∷ [])))
