use Rattle.std.proofs.Common.{[], length, map, sym, ap, ◌∙◌, subst, arith}
use Rattle.std.proofs.lemmas.List.{length-map}
use Rattle.credential.specs.Slot.{put}
use Rattle.image.specs.Cut.{cells, bytes_of}
use Rattle.image.specs.Replay.{replay}
use Rattle.image.proofs.Stores.{same_slots}
use Rattle.logstore.specs.Cells.{Ahead}
use Rattle.logstore.specs.Log.{entries_in, records_in}
use Rattle.logstore.proofs.Numbers.{ahead_listed}
use Rattle.logstore.proofs.Standing.{Kept, compaction, stands-opened, stands_few, spared-free, spared_full, replay_puts}
use Rattle.logstore.proofs.log.Log.make_room.Goals as goal
use Rattle.logstore.proofs.log.Log.make_room.Goals.{After-compact}

pub returns-then-self-len-clause-entries : goal.returns-then-self-len-clause-entries
returns-then-self-len-clause-entries c = rw (← c.self.view_is) (sym (spared-free _ _ (omega (arith, c.self.invariant.filled))))

pub compact-requires : goal.compact-requires
compact-requires c =
    let ss = cells c.self.inside.image in
    subst (Ahead (length ss)) (sym (c.as_slice.ensures.value ∙ c.places-places.ensures)) (ahead_listed ss)

-- the image after the compaction
after : (c : goal.After-compact) → Kept c.compact.new.image (map put (records_in (bytes_of c.self.inside.image)))
after c =
    compaction c.self.inside.image c.compact.new.image _ c.compact.ensures.kept c.self.invariant.opens (c.as_slice.ensures.value ∙ c.places-places.ensures) c.compact.ensures.slots

pub invariant_of-self : goal.invariant_of-self
invariant_of-self c =
    let k = after (goal.at.invariant_of-self c).After-compact in
    let rs = records_in (bytes_of c.self.inside.image) in
    let listed = c.self.invariant.listed in
    record { opens = k.ok; filled = ap length k.entries ∙ length-map rs put ∙ listed; listed = ap (λ es. length (replay [] es)) k.entries ∙ ap length (replay_puts rs) ∙ listed }

pub returns-clause-entries : goal.returns-clause-entries
returns-clause-entries c =
    let k = after (goal.at.returns-clause-entries c).After-compact in
    rw (← c.self.view_is) (k.entries ∙ sym (spared_full _ (entries_in (bytes_of c.self.inside.image)) (omega (arith, c.self.invariant.filled))))

pub returns-clause-free : goal.returns-clause-free
returns-clause-free c =
    let im = c.self.inside.image in
    let k = after (goal.at.returns-clause-free c).After-compact in
    let stands = stands-opened im c.self.invariant.opens in
    omega (arith, ap length k.entries, length-map (records_in (bytes_of im)) put, stands_few im _ stands, stands.rules.enough, same_slots im c.compact.new.image c.compact.ensures.kept)
