use Rattle.res_calls.proofs.Cited.{◌≡◌, map, length, undone, view_file}
use Rattle.res_calls.proofs.undoing.restore_all.Given as goal

-- the files where the forks that are left are put back are the files where all are
abbrev pub invariant-loop-last : goal.invariant-loop-last
invariant-loop-last l = undone l.undo.items (map view_file l.files.items)
    ≡ undone l.initial.undo.items (map view_file l.initial.files.items)

abbrev pub decreases-loop-last : goal.decreases-loop-last
decreases-loop-last l = length l.undo.items
