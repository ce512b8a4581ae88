use Rattle.std.proofs.Common.{◌/◌, ◌∷◌, [], ◌++◌, length, sym, arith}
use Rattle.std.proofs.lemmas.Bool.{lt-ltb, le-ltb}
use Rattle.image.specs.Cut.{bytes_of}
use Rattle.image.proofs.Stores.{bytes_slots}
use Rattle.table.specs.Tables.{records_in}
use Rattle.table.proofs.Kept.{Next, table_bounds, after_add_lem, counted_add}
use Rattle.table.proofs.table.TableStore.add.Goals as goal
use Rattle.table.proofs.table.TableStore.add.Goals.{After-write}

pub overflow_add-self : goal.overflow_add-self
overflow_add-self c = let b = table_bounds c.self.inside.image c.self.inside.listed c.self.invariant in omega (arith, b.few, b.most)

-- the image after the write
after : (c : goal.After-write) → Next c.self.inside.image c.write.new.self (records_in (bytes_of c.self.inside.image) ++ c.args.new.now ∷ [])
after c =
    after_add_lem c.self.inside.image c.write.new.self c.self.inside.listed c.self.invariant c.write.ensures.kept
    c.args.new.now c.to_slot.result c.len.result c.to_slot.ensures.within c.len.ensures.answer c.if-listed-len.false c.to_slot.ensures.answer c.write.ensures.written

pub invariant_of-self : goal.invariant_of-self
invariant_of-self c =
    counted_add c.self.inside.image c.write.new.self c.self.inside.listed c.self.invariant c.write.ensures.kept c.args.new.now (after (goal.at.invariant_of-self c).After-write)

pub returns-then-listed-len-clause-answer : goal.returns-then-listed-len-clause-answer
returns-then-listed-len-clause-answer c =
    let im = c.self.inside.image in
    rw (← c.self.view_is) (sym (le-ltb (length (records_in (bytes_of im))) (length (bytes_of im) / 512) (omega (arith, bytes_slots im, c.self.invariant.listed))))

pub returns-clause-answer : goal.returns-clause-answer
returns-clause-answer c =
    let im = c.self.inside.image in
    let few = (table_bounds im c.self.inside.listed c.self.invariant).few in
    rw (← c.self.view_is) (sym (lt-ltb (length (records_in (bytes_of im))) (length (bytes_of im) / 512) (omega (arith, bytes_slots im, c.self.invariant.listed))))

pub returns-clause-list : goal.returns-clause-list
returns-clause-list c = rw (← c.self.view_is) ((after (goal.at.returns-clause-list c).After-write).list)

pub returns-clause-bytes : goal.returns-clause-bytes
returns-clause-bytes c = rw (← c.self.view_is) ((after (goal.at.returns-clause-bytes c).After-write).bytes)

pub returns-clause-opens : goal.returns-clause-opens
returns-clause-opens c = (after (goal.at.returns-clause-opens c).After-write).opens
