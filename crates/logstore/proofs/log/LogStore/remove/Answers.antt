use Rattle.std.proofs.Common.{◌≡◌, length, set, refl, ap, ◌∙◌, arith}
use Rattle.std.proofs.lemmas.List.Edits.{length-remove}
use Rattle.credential.specs.Slot.{gone}
use Rattle.image.specs.Cut.{cells, bytes_of}
use Rattle.image.specs.Laws.{went, done}
use Rattle.logstore.specs.Log.{records_in}
use Rattle.logstore.proofs.Standing.{Spare, spare_is, Logged, one_more, listed_at}
use Rattle.logstore.proofs.log.LogStore.remove.Goals as goal
use Rattle.logstore.proofs.log.LogStore.remove.Goals.{After-self-2, After-write}

-- the log once there is room
room : (c : goal.After-self-2) → Spare c.args.self.now c.self-2.inside.image c.self-2.inside.counts.used c.self-2.inside.counts.listed
room c =
    let made = c.make_room.ensures in
    spare_is c.args.self.now c.make_room.new.self c.self-2.inside.image _ _ c.self-2.view_is c.self-2.invariant made.entries made.kept made.free

-- how many records are listed at the call
listed : (c : goal.After-self-2) → length (records_in (bytes_of c.args.self.now)) ≡ c.self.inside.counts.listed
listed c = listed_at c.args.self.now c.self.inside.image c.self.view_is c.self.invariant

-- the image after the write
after : (c : goal.After-write) → Logged c.args.self.now c.write.new.self (gone c.args.place) c.self-2.inside.counts.used
after c =
    let s = (goal.at.After-write c).After-self-2 in
    let now = c.self-2.inside in
    one_more c.args.self.now now.image c.write.new.self (gone c.args.place) now.counts.used now.counts.listed (room s) c.write.ensures.kept
    (went refl (omega (arith, listed s)) done)
    (c.write.ensures.written ∙ ap (set (cells now.image) now.counts.used) c.withdrawal.ensures.answer)

pub overflow_cast-place : goal.overflow_cast-place
overflow_cast-place c =
    let w = (goal.at.overflow_cast-place c).After-self-2 in
    let s = room w in
    omega (arith, s.listed, listed w, s.fewer, s.few)

pub overflow_add-self : goal.overflow_add-self
overflow_add-self c = let s = room (goal.at.overflow_add-self c).After-self-2 in omega (arith, s.free, s.few)

pub overflow_sub-self : goal.overflow_sub-self
overflow_sub-self c =
    let w = (goal.at.overflow_sub-self c).After-self-2 in
    omega (arith, (room w).listed, listed w)

pub invariant_of-self : goal.invariant_of-self
invariant_of-self c =
    let w = (goal.at.invariant_of-self c).After-write in
    let s = (goal.at.invariant_of-self c).After-self-2 in
    let l = after w in
    let rs = records_in (bytes_of c.args.self.now) in
    record { opens = l.ok; filled = l.many; listed = ap length l.records ∙ omega (arith, length-remove rs c.args.place (omega (arith, listed s)), (room s).listed) }

pub returns-clause-list : goal.returns-clause-list
returns-clause-list c = (after (goal.at.returns-clause-list c).After-write).records

pub returns-clause-bytes : goal.returns-clause-bytes
returns-clause-bytes c = (after (goal.at.returns-clause-bytes c).After-write).bytes

pub returns-clause-opens : goal.returns-clause-opens
returns-clause-opens c = (after (goal.at.returns-clause-opens c).After-write).ok
