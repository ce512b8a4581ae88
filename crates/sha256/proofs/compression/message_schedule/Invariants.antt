-- The words so far are those of the chunks so far, and then lead to the whole schedule.
use Rattle.std.proofs.Common.{◌≡◌, ◌-◌, map, length, take}
use Rattle.sha256.specs.Sha256.{word, words, extend}
use Rattle.sha256.proofs.compression.message_schedule.Given as goal

abbrev pub invariant-loop-t : goal.invariant-loop-t
invariant-loop-t l = (length l.w ≡ 64) × (take l.t l.w ≡ map word (take l.t l.chunks))

abbrev pub invariant-loop-t-2 : goal.invariant-loop-t-2
invariant-loop-t-2 l = (length l.w ≡ 64) × (extend (64 - l.t) (take l.t l.w) ≡ extend 48 (words 16 l.block))
