use Rattle.heap_calls.proofs.Cited.{◌≡◌, sym, ℕ, Bool, true, false, refl, ◌∙◌, ap, cond, Option, Some, None, OsErr, Site, Memory, Told}
use Rattle.heap_calls.proofs.Cited.{Refused, Asked, answered, Bar, Row, row, bar_of, barred_by, gone_of_row, gone_unless, purges_made}
use Rattle.heap_calls.proofs.Cited.{gone_in, keep_code, pointer_barred, either_barred, move_barred, gate, gated, notes, served}
use Rattle.heap_calls.specs.Row as table
use Rattle.heap_calls.specs.Table as asked
use Rattle.heap_calls.proofs.Gates.Served.{served-gated}

-- What a call tells, and what it makes of the heap, doesn't hang on where the heap lies.

abbrev pub elsewhere : Site → Memory → Memory
elsewhere window m = record m { window = window }

pub answered-elsewhere : (window : Site) (a : Asked) (m : Memory)
    → answered a (elsewhere window m) ≡ ((answered a m).0, elsewhere window (answered a m).1)
answered-elsewhere window asked.MemError m = refl
answered-elsewhere window a m = refl

pointer-elsewhere : (window : Site) (pointer : Option ℕ) (m : Memory)
    → pointer_barred pointer (elsewhere window m) ≡ pointer_barred pointer m
pointer-elsewhere window None m = refl
pointer-elsewhere window (Some p) m = refl

either-elsewhere : (window : Site) (name : Option ℕ) (m : Memory)
    → either_barred name (elsewhere window m) ≡ either_barred name m
either-elsewhere window None m = refl
either-elsewhere window (Some n) m = refl

move-elsewhere : (window : Site) (from to : Option ℕ) (m : Memory)
    → move_barred from to (elsewhere window m) ≡ move_barred from to m
move-elsewhere window None None m = refl
move-elsewhere window None (Some b) m = refl
move-elsewhere window (Some a) None m = refl
move-elsewhere window (Some a) (Some b) m = refl

bar-elsewhere : (window : Site) (b : Bar) (m : Memory) → barred_by b (elsewhere window m) ≡ barred_by b m
bar-elsewhere window table.Open m = refl
bar-elsewhere window (table.OnHandle handle) m = refl
bar-elsewhere window (table.OnChange handle) m = refl
bar-elsewhere window (table.OnBoth from to) m = refl
bar-elsewhere window (table.OnPointer pointer) m = pointer-elsewhere window pointer m
bar-elsewhere window (table.OnEither name) m = either-elsewhere window name m
bar-elsewhere window (table.OnMove from to) m = move-elsewhere window from to m

pub gate-elsewhere : (window : Site) (a : Asked) (m : Memory) → gate a (elsewhere window m) ≡ gate a m
gate-elsewhere window a m = bar-elsewhere window (bar_of (row a)) m

gated-elsewhere : (window : Site) (o : Option OsErr) (a : Asked) (m : Memory)
    → gated o a (elsewhere window m) ≡ ((gated o a m).0, elsewhere window (gated o a m).1)
gated-elsewhere window None a m = answered-elsewhere window a m
gated-elsewhere window (Some code) a m = ap (λ (n : Memory). (Refused code, n)) (by_notes (notes a))
  where
    by_notes : (t : Bool) → cond t (keep_code code (elsewhere window m)) (elsewhere window m)
        ≡ elsewhere window (cond t (keep_code code m) m)
    by_notes true = refl
    by_notes false = refl

pub served-elsewhere : (window : Site) (a : Asked) (m : Memory)
    → served a (elsewhere window m) ≡ ((served a m).0, elsewhere window (served a m).1)
served-elsewhere window a m =
    served-gated a (elsewhere window m)
    ∙ ap (λ (o : Option OsErr). gated o a (elsewhere window m)) (gate-elsewhere window a m)
    ∙ gated-elsewhere window (gate a m) a m
    ∙ ap (λ (x : Told × Memory). (x.0, elsewhere window x.1)) (sym (served-gated a m))

-- what a call purges
gone-row : (window : Site) (r : Row) (m : Memory) → gone_of_row r (elsewhere window m) ≡ gone_of_row r m
gone-row window (table.Plain bar tell call) m = refl
gone-row window (table.Quiet bar tell call) m = refl
gone-row window (table.Does bar tell does) m =
    ap (λ o. gone_unless o (purges_made does m.heap)) (bar-elsewhere window bar m)
gone-row window (table.Seeks bar tell searches gone call) m =
    ap (λ o. gone_unless o (gone m.heap)) (bar-elsewhere window bar m)
gone-row window (table.Compacts moves searches call) m = refl
gone-row window table.PurgesAll m = refl
gone-row window table.LastCode m = refl
gone-row window (table.Leaves left r) m = gone-row window r m

pub gone-elsewhere : (window : Site) (a : Asked) (m : Memory) → gone_in a (elsewhere window m) ≡ gone_in a m
gone-elsewhere window a m = gone-row window (row a) m
