use Rattle.fork_edits.proofs.Cited.{◌≡◌, ◌++◌, drop, map, packed_rows, view_entry, view_row}
use Rattle.fork_edits.proofs.packing.rows_of_list.Given as goal

-- the resources so far, with those to come, are all
abbrev pub invariant-loop-i : goal.invariant-loop-i
invariant-loop-i l = map view_row l.rows.items
    ++ packed_rows (map view_entry (drop l.i l.entries)) (map (λ file. file.items) (drop l.i l.files))
    ≡ packed_rows (map view_entry l.entries) (map (λ file. file.items) l.files)
