-- The words of the kinds of store.
use Rattle.std.specs.Prelude.{ℕ, cond, List, Ok, Err, codes, Result}
use Rattle.std.specs.Str.{bytes_eq}
use Rattle.image.specs.declared.kind.Kind.{Kind}
use Rattle.image.specs.declared.kind.Kind.TheVariants.{Table, Log}
use Rattle.bench.specs.declared.wrong.Wrong.{Wrong}
use Rattle.bench.specs.declared.wrong.Wrong.TheVariants as wrong

-- the kind of store that a word names
abbrev pub kinded : List ℕ → Result Kind Wrong
kinded word = cond (bytes_eq word (codes "table")) (Ok Table) (cond (bytes_eq word (codes "log")) (Ok Log) (Err wrong.Kind))
