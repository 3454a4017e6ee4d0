use Rattle.heap_calls.proofs.Cited.{◌≡◌, Bool, true, false, List, [], Option, Some, None, refl, sym, Told, OsErr, Block, State, Memory}
use Rattle.heap_calls.proofs.Cited.{gone_unless, Done, Bar, Row, may_purge, bar_of, barred_by, gone_of_row}
use Rattle.heap_calls.specs.Row.{purged_by}
use Rattle.heap_calls.specs.Row as table

-- The rows that are paths, and the others.

-- whether a row is a path
abbrev pub has_path : Row → Bool
has_path (table.Does bar tell does) = true
has_path (table.Leaves left r) = has_path r
has_path r = false

-- what is said of each path is said of each row that is one
pub of-path : (P : Row → Type 0)
    → ((T : Type 0) (bar : Bar) (tell : T → Told) (does : State → Done T) → P (table.Does {T = T} bar tell does))
    → ((left : State → List Block) (r : Row) → P r → P (table.Leaves left r)) → (r : Row) → has_path r ≡ true → P r
of-path P does leaves (table.Does {T = T} bar tell call) path = does T bar tell call
of-path P does leaves (table.Leaves left r) path = leaves left r (of-path P does leaves r path)
of-path P does leaves (table.Plain bar tell call) path = let f : false ≡ true = path in cc
of-path P does leaves (table.Quiet bar tell call) path = let f : false ≡ true = path in cc
of-path P does leaves (table.Seeks bar tell searches gone call) path = let f : false ≡ true = path in cc
of-path P does leaves (table.Compacts moves searches call) path = let f : false ≡ true = path in cc
of-path P does leaves table.PurgesAll path = let f : false ≡ true = path in cc
of-path P does leaves table.LastCode path = let f : false ≡ true = path in cc

-- a call that purges nothing tells of nothing
pub none-by : (r : Row) (s : State) → may_purge r ≡ false → purged_by r s ≡ []
none-by (table.Plain bar tell call) s e = refl
none-by (table.Quiet bar tell call) s e = refl
none-by (table.Does bar tell does) s e = let f : true ≡ false = e in cc
none-by (table.Seeks bar tell searches gone call) s e = let f : true ≡ false = e in cc
none-by (table.Compacts moves searches call) s e = refl
none-by table.PurgesAll s e = let f : true ≡ false = e in cc
none-by table.LastCode s e = refl
none-by (table.Leaves left r) s e = none-by r s e

-- what a try tells of, by its gate
unless-none : (o : Option OsErr) → gone_unless o [] ≡ []
unless-none None = refl
unless-none (Some code) = refl

pub gated-by : (r : Row) (m : Memory) → gone_of_row r m ≡ gone_unless (barred_by (bar_of r) m) (purged_by r m.heap)
gated-by (table.Plain bar tell call) m = sym (unless-none (barred_by bar m))
gated-by (table.Quiet bar tell call) m = sym (unless-none (barred_by bar m))
gated-by (table.Does bar tell does) m = refl
gated-by (table.Seeks bar tell searches gone call) m = refl
gated-by (table.Compacts moves searches call) m = refl
gated-by table.PurgesAll m = refl
gated-by table.LastCode m = refl
gated-by (table.Leaves left r) m = gated-by r m
