use Rattle.std.specs.Prelude.{List, [], ◌∷◌}
use Rattle.heap_calls.specs.State.{Memory}
use Rattle.heap_calls.specs.Table.{Asked}
use Rattle.heap_calls.specs.Table.{served}

-- Calls one after another.

-- The heap after these calls, each tried once.
abbrev pub after_calls : List Asked → Memory → Memory
after_calls [] m = m
after_calls (asked ∷ more) m = after_calls more (served asked m).1
