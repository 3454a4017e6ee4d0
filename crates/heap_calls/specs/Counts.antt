use Rattle.std.specs.Prelude.{◌≡◌, ℕ, Option, Some, None}
use Rattle.mac_words.specs.declared.code.OsErr.{OsErr}
use Rattle.block_store.specs.Rest.{counted}
use Rattle.heap_calls.specs.State.{Memory}
use Rattle.heap_calls.specs.Table.{Asked}
use Rattle.heap_calls.specs.Table.{gate, served, row_searches, row_moves}

-- What a try of a call counts: its searches for room, and the blocks that it moves down by compaction.

-- A number of a call's row, by the call's gate: 0 where the call is barred.
abbrev pub behind : Option OsErr → ℕ → ℕ
behind None n = n
behind (Some code) n = 0

-- The searches for room of a try.
abbrev pub try_searches : Asked → Memory → ℕ
try_searches asked m = behind (gate asked m) (row_searches asked m.heap)

-- The blocks that a try moves down.
abbrev pub try_moves : Asked → Memory → ℕ
try_moves asked m = behind (gate asked m) (row_moves asked m.heap)

-- A try raises the count of searches by its searches.
abbrev pub CountsSearches : Asked → Memory → Type 0
CountsSearches asked m = (served asked m).1.log.searches ≡ counted m.log.searches (try_searches asked m)

-- A try raises the count of moves by its moves.
abbrev pub CountsMoves : Asked → Memory → Type 0
CountsMoves asked m = (served asked m).1.moves ≡ counted m.moves (try_moves asked m)
