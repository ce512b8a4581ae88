use Rattle.std.specs.List.{remove}
use Rattle.image.specs.Cut.{bytes_of}
use Rattle.table.specs.Tables.{records_in}
use Rattle.table.proofs.Kept.{Next, table_bounds, after_remove_lem, counted-remove}
use Rattle.table.proofs.table.TableStore.remove.Goals as goal
use Rattle.table.proofs.table.TableStore.remove.Goals.{After-close}

pub close-requires-clause-count : goal.close-requires-clause-count
close-requires-clause-count c = (table_bounds c.self.inside.image c.self.inside.listed c.self.invariant).few

-- the image after the gap was closed
after : (c : goal.After-close) → Next c.self.inside.image c.close.new.image (remove (records_in (bytes_of c.self.inside.image)) c.args.place)
after c = after_remove_lem c.self.inside.image c.close.new.image c.self.inside.listed c.self.invariant c.close.ensures.kept c.args.place c.if-place-listed.false c.close.ensures.slots

pub invariant_of-self : goal.invariant_of-self
invariant_of-self c =
    counted-remove c.self.inside.image c.close.new.image c.self.inside.listed c.self.invariant c.close.ensures.kept c.args.place c.if-place-listed.false (after (goal.at.invariant_of-self c).After-close)

pub returns-clause-list : goal.returns-clause-list
returns-clause-list c = rw (← c.self.view_is) ((after (goal.at.returns-clause-list c).After-close).list)

pub returns-clause-bytes : goal.returns-clause-bytes
returns-clause-bytes c = rw (← c.self.view_is) ((after (goal.at.returns-clause-bytes c).After-close).bytes)

pub returns-clause-opens : goal.returns-clause-opens
returns-clause-opens c = (after (goal.at.returns-clause-opens c).After-close).opens
