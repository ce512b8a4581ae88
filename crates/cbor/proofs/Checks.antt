-- One turn of the checker, by the unread bytes, and what it leaves of a message.
use Rattle.std.proofs.Common.{◌≡◌, ℕ, suc, ◌+◌, ◌-◌, ◌<◌, ◌≤◌, List, length, drop, Ok, Err, sym, refl, arith}
use Rattle.cbor.specs.Steps.{or_fail, and_then}
use Rattle.cbor.specs.Reader.{Said, key, items, entries, item, deepest}
use Rattle.cbor.proofs.Rests.{Reader, Rest, rest_of_rest, rest_short, item_rest, fault_rest}
use Rattle.cbor.proofs.Tokens.{Has}

module _ (one : Reader) (n i : ℕ) (us : List ℕ) (h : i < n) where
  step : n - i ≡ suc (n - (i + 1))
  step = omega arith

  pub items_more : (rest : List ℕ) → Ok rest ≡ one us → items one (n - (i + 1)) rest ≡ items one (n - i) us
  unfolding items and_then
  items_more rest e = rw (step, ← e) refl

  pub entries_more : (before : List ℕ) (said : Said) (spelled behind rest : List ℕ) → Has us (key before us) said spelled behind → Ok rest ≡ one behind → entries one spelled (n - (i + 1)) rest ≡ entries one before (n - i) us
  unfolding entries or_fail and_then
  entries_more before said spelled behind rest k e = rw (step, k.is, k.behind_is, k.spelled_is, ← e) refl

module _ (s : List ℕ) (start : ℕ) (us : List ℕ) (is : us ≡ drop start s) (rest : List ℕ) where
  within : Rest us rest → length rest ≤ length s
  within r = rest_short s rest (rest_of_rest s us rest (record { skipped = start; is = sym is }) r)

  pub left_short : Ok rest ≡ item deepest us → length rest ≤ length s
  left_short e = within (item_rest deepest us rest e)

  pub fault_short : Err rest ≡ item deepest us → length rest ≤ length s
  fault_short e = within (fault_rest deepest us rest e)
