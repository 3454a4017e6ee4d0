use Rattle.desk.proofs.Cited.{◌≡◌, ◌++◌, map, drop, view_file, Extends, forks_told}
use Rattle.desk.proofs.forks.write_files.Given as goal

-- the lines so far, and those of the files that are left
abbrev pub invariant-loop-place : goal.invariant-loop-place
invariant-loop-place l =
    (l.text.items ++ forks_told l.name.0.items l.place (map view_file (drop l.place l.files))
    ≡ l.fn.text.items ++ forks_told l.name.0.items 0 (map view_file l.files))
    × Extends l.fn.text.items l.text.items
