use Rattle.fork_tasks.proofs.Cited.{◌≡◌, ◌++◌, drop, map, FileName, path_from}
use Rattle.std.specs.Prelude.{string_bytes}
use Rattle.fork_tasks.proofs.assembling.paths_from.Given as goal

-- the paths so far, with those to come, are all
abbrev pub invariant-loop-name : goal.invariant-loop-name
invariant-loop-name l = map string_bytes l.paths.items
    ++ map (λ (name : FileName). path_from l.source name.bytes.items) (drop l.name-index l.names)
    ≡ map (λ (name : FileName). path_from l.source name.bytes.items) l.names
