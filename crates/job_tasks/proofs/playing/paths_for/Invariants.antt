use Rattle.job_tasks.proofs.Cited.{◌≡◌, ◌∷◌, ◌++◌, drop, map, string_bytes, part_seen, path_of}
use Rattle.job_tasks.proofs.playing.paths_for.Given as goal

-- the paths so far, with those to come, are all
abbrev pub invariant-loop-part : goal.invariant-loop-part
invariant-loop-part l = map string_bytes l.paths.items ++ map path_of (map part_seen (drop l.part-index l.parts))
    ≡ l.script ∷ map path_of (map part_seen l.parts)
