use Rattle.std.proofs.Common.{◌+◌, length, set, ap, ◌∙◌, arith}
use Rattle.std.proofs.lemmas.List.{length_push}
use Rattle.credential.specs.Slot.{put}
use Rattle.image.specs.Cut.{cells, bytes_of}
use Rattle.image.specs.Laws.{came, done}
use Rattle.image.proofs.Stores.{capacity_slots}
use Rattle.logstore.specs.Log.{kind, records_in}
use Rattle.logstore.proofs.Standing.{Spare, spare_is, Logged, one_more, listed_at}
use Rattle.logstore.proofs.log.LogStore.add.Goals as goal
use Rattle.logstore.proofs.log.LogStore.add.Goals.{After-write}

-- the log once there is room
room : (c : goal.After-write) → Spare c.args.self.now c.self-2.inside.image c.self-2.inside.counts.used c.self-2.inside.counts.listed
room c =
    let made = c.make_room.ensures in
    spare_is c.args.self.now c.make_room.new.self c.self-2.inside.image _ _ c.self-2.view_is c.self-2.invariant made.entries made.kept made.free

-- the image after the write
after : (c : goal.After-write) → Logged c.args.self.now c.write.new.self (put c.args.new.now) c.self-2.inside.counts.used
after c =
    let im = c.args.self.now in
    let now = c.self-2.inside in
    let listed = listed_at im c.self.inside.image c.self.view_is c.self.invariant in
    one_more im now.image c.write.new.self (put c.args.new.now) now.counts.used now.counts.listed (room c) c.write.ensures.kept
    (came (omega (arith, capacity_slots kind im)) c.to_slot.ensures.within done)
    (c.write.ensures.written ∙ ap (set (cells now.image) now.counts.used) c.to_slot.ensures.answer)

pub overflow_add-self : goal.overflow_add-self
overflow_add-self c = let s = room c in omega (arith, s.free, s.few)

pub overflow_add-self-2 : goal.overflow_add-self-2
overflow_add-self-2 c = let s = room (goal.at.overflow_add-self-2 c).After-write in omega (arith, s.fewer, s.few)

pub invariant_of-self : goal.invariant_of-self
invariant_of-self c =
    let w = (goal.at.invariant_of-self c).After-write in
    let l = after w in
    record { opens = l.ok; filled = l.many; listed = ap length l.records ∙ length_push (records_in (bytes_of c.args.self.now)) c.args.new.now ∙ ap (λ n. n + 1) (room w).listed }

pub returns-clause-list : goal.returns-clause-list
returns-clause-list c = (after (goal.at.returns-clause-list c).After-write).records

pub returns-clause-bytes : goal.returns-clause-bytes
returns-clause-bytes c = (after (goal.at.returns-clause-bytes c).After-write).bytes

pub returns-clause-opens : goal.returns-clause-opens
returns-clause-opens c = (after (goal.at.returns-clause-opens c).After-write).ok
