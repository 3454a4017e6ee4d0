use Rattle.std.specs.Prelude.{◌≤◌, ◌+◌, length}
use Rattle.heap_calls.specs.State.{Memory}
use Rattle.heap_calls.specs.Table.{Asked}
use Rattle.heap_calls.specs.Counts.{try_searches}

-- How many searches for room a try of a call makes.

-- A try makes at most one search more than there are blocks at its start.
abbrev pub SearchesFew : Asked → Memory → Type 0
SearchesFew asked m = try_searches asked m ≤ length m.heap.zone + 1
