use Rattle.heap_calls.proofs.Cited.{◌≡◌, ◌∙◌, Option, Some, None, Result, true, false, refl, sym, OsErr, Told, Block, List, State, Memory}
use Rattle.heap_calls.proofs.Cited.{noting, silent, Asked, telling, seeking, doing, unless_silent, Row, row, bar_of, barred_by, notes_code}
use Rattle.heap_calls.proofs.Cited.{answer_of, serve, gated_row, gate, gated, served}
use Rattle.heap_calls.specs.Busy.{unless}
use Rattle.heap_calls.specs.Row as table

-- A call as its method answers it is the call of the table after its gate.

-- a call whose code MemError returns
by_unless : {T : Type 0} (tell : T → Told) (r : Row) (call : Memory → Result T OsErr × Memory) (m : Memory)
    (o : Option OsErr) → notes_code r ≡ true → answer_of r m ≡ telling tell (call m)
    → telling tell (unless o call m) ≡ gated_row o r m
by_unless tell r call m None noted is = sym is
by_unless tell r call m (Some code) noted is = rw noted refl

-- and one whose code it doesn't return
by_silent : {T : Type 0} (tell : T → Told) (r : Row) (call : Memory → Result T OsErr × Memory) (m : Memory)
    (o : Option OsErr) → notes_code r ≡ false → answer_of r m ≡ telling tell (call m)
    → telling tell (unless_silent o call m) ≡ gated_row o r m
by_silent tell r call m None silent is = sym is
by_silent tell r call m (Some code) silent is = rw silent refl

-- a row whose refusal leaves another zone
by_leaving : (o : Option OsErr) (left : State → List Block) (r : Row) (m : Memory)
    → gated_row o r m ≡ gated_row o (table.Leaves left r) m
by_leaving None left r m = refl
by_leaving (Some code) left r m = refl

-- each row as its method answers it
served-row : (r : Row) (m : Memory) → serve r m ≡ gated_row (barred_by (bar_of r) m) r m
served-row (table.Plain {T = T} bar tell call) m =
    by_unless {T = T} tell (table.Plain {T = T} bar tell call) (noting call) m (barred_by bar m) refl refl
served-row (table.Quiet {T = T} bar tell call) m =
    by_silent {T = T} tell (table.Quiet {T = T} bar tell call) (silent call) m (barred_by bar m) refl refl
served-row (table.Does {T = T} bar tell does) m =
    by_unless {T = T} tell (table.Does {T = T} bar tell does) (doing does) m (barred_by bar m) refl refl
served-row (table.Seeks {T = T} bar tell searches gone call) m =
    by_unless {T = T} tell (table.Seeks {T = T} bar tell searches gone call) (seeking searches call) m (barred_by bar m) refl refl
served-row (table.Compacts moves searches call) m = refl
served-row table.PurgesAll m = refl
served-row table.LastCode m = refl
served-row (table.Leaves left r) m = served-row r m ∙ by_leaving (barred_by (bar_of r) m) left r m

-- each call as its method answers it
pub served-gated : (a : Asked) (m : Memory) → served a m ≡ gated (gate a m) a m
served-gated a m = served-row (row a) m
