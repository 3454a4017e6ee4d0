use Rattle.std.specs.Prelude.{◌≡◌, ℕ, ℤ, Bool, ◌&&◌, ◌==◌, Option, Some, None, List, [], map}
use Rattle.std.specs.List.{filter}
use Rattle.std.specs.declared.cmp.Ordering.{Ordering}
use Rattle.std.specs.Ordering.{nat_cmp, int_cmp, int_eq, ordering_then}
use Rattle.std.specs.BTreeMap.{get}
use Rattle.fork_edits.specs.declared.waiting.Queue.{Queue}
use Rattle.fork_edits.specs.declared.waiting.Waiting.{Waiting}
use Rattle.fork_edits.specs.Resources.{Row, is_at}
use Rattle.fork_edits.specs.View.{view_row}

-- Resources that wait for a counterpart, in queues by type and ID.

-- The order of types and IDs.
abbrev pub key_cmp : ℕ × ℤ → ℕ × ℤ → Ordering
key_cmp x y = ordering_then (nat_cmp x.0 y.0) (int_cmp x.1 y.1)

-- The types and the IDs are the same.
abbrev pub same_key : ℕ × ℤ → ℕ × ℤ → Bool
same_key x y = x.0 == y.0 && int_eq x.1 y.1

-- The resources in a queue, if there is one.
abbrev pub queued : Option Queue → List Row
queued None = []
queued (Some q) = map view_row q.rows.items

-- The resources of a type and an ID that wait.
abbrev pub waits : Waiting → ℕ × ℤ → List Row
waits w key = queued (get key_cmp w.queues key)

-- These resources wait: those of each type and ID in their order.
abbrev pub AreWaiting : Waiting → List Row → Type 0
AreWaiting w rows = (key : ℕ × ℤ) → waits w key ≡ filter (is_at key.0 key.1) rows
