use Rattle.fork_commands.proofs.Cited.{◌≡◌, ◌++◌, drop, map, view_filed, resource_files, view_file}
use Rattle.fork_commands.proofs.extracting.resource_files.Given as goal

-- the files so far, with those of the resources to come, are all
abbrev pub invariant-loop-filed : goal.invariant-loop-filed
invariant-loop-filed l =
    map view_file l.files.items ++ resource_files l.folder (map view_filed (drop l.filed-index l.rows))
    ≡ resource_files l.folder (map view_filed l.rows)
