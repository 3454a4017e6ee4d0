use Rattle.desk.proofs.Cited.{◌≡◌, ◌++◌, map, take, view_file, file_given}
use Rattle.desk.proofs.preparing.files_of.Given as goal

-- behind the application's own file lie copies of the first others
abbrev pub invariant-loop-file : goal.invariant-loop-file
invariant-loop-file l =
    map view_file l.files.items
    ≡ map view_file l.initial.files.items ++ map file_given (take l.file-index l.app.files.items)
