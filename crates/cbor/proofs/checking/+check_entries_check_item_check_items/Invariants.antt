-- The unread bytes fall from call to call; what is left to read gives what the whole gives.
use Rattle.std.proofs.Common.{◌≡◌, ◌+◌, ◌-◌, ◌*◌, ◌≤◌, [], length}
use Rattle.cbor.specs.Reader.{items, entries, item}
use Rattle.cbor.specs.Unread.{earlier}
use Rattle.cbor.proofs.checking.+check_entries_check_item_check_items.Given as goal

abbrev pub decreases-check_entries : goal.decreases-check_entries
decreases-check_entries l = 2 * length l.start.now + 1

abbrev pub decreases-check_item : goal.decreases-check_item
decreases-check_item l = 2 * length l.bytes.now

abbrev pub decreases-check_items : goal.decreases-check_items
decreases-check_items l = 2 * length l.start.now + 1

abbrev pub invariant-check_entries-loop-i : goal.invariant-check_entries-loop-i
invariant-check_entries-loop-i l =
    (length l.rest ≤ length l.start)
    × (entries (item l.levels) (earlier l.before) (l.count - l._i) l.rest ≡ entries (item l.levels) [] l.count l.start)

abbrev pub invariant-check_items-loop-i : goal.invariant-check_items-loop-i
invariant-check_items-loop-i l =
    (length l.rest ≤ length l.start)
    × (items (item l.levels) (l.count - l._i) l.rest ≡ items (item l.levels) l.count l.start)
