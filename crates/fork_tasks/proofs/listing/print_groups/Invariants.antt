use Rattle.fork_tasks.proofs.Cited.{◌≡◌, ◌++◌, drop, map, flat_map, view_group, group_lines, PrintsBut}
use Rattle.fork_tasks.proofs.listing.print_groups.Given as goal

-- the lines that wait, with those of the types to come, are the rest of the whole
abbrev pub invariant-loop-group : goal.invariant-loop-group
invariant-loop-group g l = record {
  printed : PrintsBut (l.fn.lines.items ++ flat_map (group_lines l.spelling) (map view_group l.content.groups.items))
      (l.lines.items ++ flat_map (group_lines l.spelling) (map view_group (drop l.group-index l.content.groups.items)))
      (g.H.Host.printed l.fn.host) (g.H.Host.printed l.host);
  files : g.H.Host.accesses l.host ≡ g.H.Host.accesses l.fn.host;
}
