use Rattle.image.specs.Cut.{bytes_of}
use Rattle.image.proofs.Stores.{opened_laid}
use Rattle.table.specs.Tables.{kind}
use Rattle.table.proofs.Kept.{known_bytes}
use Rattle.table.proofs.table.TableImageStore.bytes.Goals as goal

pub returns-clause-entries : goal.returns-clause-entries
returns-clause-entries c = rw c.bytes.ensures.answer (opened_laid kind (bytes_of c.self.inside.image) c.self.invariant.opens)

pub returns-clause-layout : goal.returns-clause-layout
returns-clause-layout c = rw c.bytes.ensures.answer (known_bytes c.self.inside.image c.self.invariant.opens)
