use Rattle.fork_edits.proofs.Cited.{◌≡◌, ◌++◌, drop, map, flat_map, entry, entry_line, view_filed}
use Rattle.fork_edits.proofs.contents.push_entries.Given as goal

-- the lines so far, with those of the resources to come, are all
abbrev pub invariant-loop-filed : goal.invariant-loop-filed
invariant-loop-filed l = l.text.items ++ flat_map entry_line (map entry (map view_filed (drop l.filed-index l.files)))
    ≡ l.fn.text.items ++ flat_map entry_line (map entry (map view_filed l.files))
