use Rattle.fork_commands.proofs.Cited.{◌≡◌, ◌++◌, drop, map, string_bytes, Entry, view_entry, within}
use Rattle.fork_commands.proofs.packing.listed_paths.Given as goal

-- the paths so far, with those to come, are all
abbrev pub invariant-loop-entry : goal.invariant-loop-entry
invariant-loop-entry l = map string_bytes l.paths.items
    ++ map (λ (e : Entry). within l.folder e.file) (map view_entry (drop l.entry-index l.list.entries.items))
    ≡ map (λ (e : Entry). within l.folder e.file) (map view_entry l.list.entries.items)
