use Rattle.real_zone_view.proofs.Cited.{◌≡◌, ◌++◌, rows_text}
use Rattle.real_zone_view.proofs.picture.push_rows.Given as goal

-- the rows so far
abbrev pub invariant-loop-row : goal.invariant-loop-row
invariant-loop-row l = l.text.items ≡ l.fn.text.items ++ rows_text l.zone l.width l.row
