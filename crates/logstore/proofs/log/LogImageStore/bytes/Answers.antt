use Rattle.image.specs.Cut.{bytes_of}
use Rattle.image.proofs.Stores.{opened_laid}
use Rattle.logstore.specs.Log.{kind}
use Rattle.logstore.proofs.log.LogImageStore.bytes.Goals as goal

pub returns-clause-entries : goal.returns-clause-entries
returns-clause-entries c = rw c.bytes.ensures.answer (opened_laid kind (bytes_of c.self.inside.image) c.self.invariant.opens)
