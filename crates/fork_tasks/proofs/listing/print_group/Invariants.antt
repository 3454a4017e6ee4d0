use Rattle.fork_tasks.proofs.Cited.{◌≡◌, ◌++◌, drop, map, flat_map, big_number, view_ref, view_group, group_lines, PrintsBut}
use Rattle.fork_tasks.specs.Listing.{line_of}
use Rattle.fork_tasks.proofs.listing.print_group.Given as goal

-- the lines that wait, with those of the resources to come, are the rest of the whole
abbrev pub invariant-loop-resource : goal.invariant-loop-resource
invariant-loop-resource g l = record {
  printed : PrintsBut (l.fn.lines.items ++ group_lines l.spelling (view_group l.group))
      (l.lines.items ++ flat_map (line_of l.spelling (big_number 4 l.group.ty.0)) (map view_ref (drop l.resource-index l.group.refs.items)))
      (g.H.Host.printed l.fn.host) (g.H.Host.printed l.host);
  files : g.H.Host.accesses l.host ≡ g.H.Host.accesses l.fn.host;
}
