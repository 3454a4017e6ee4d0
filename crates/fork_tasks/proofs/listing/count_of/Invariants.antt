use Rattle.fork_tasks.proofs.Cited.{◌≡◌, ◌≤◌, ◌+◌, ◌*◌, ◌^◌, drop, map, length, refs_of, view_group}
use Rattle.fork_tasks.proofs.listing.count_of.Given as goal

-- the resources so far, with those of the types to come, are all
abbrev pub invariant-loop-group : goal.invariant-loop-group
invariant-loop-group l = record {
  small : l.count ≤ l.group-index * 2 ^ 64;
  all : l.count + length (refs_of (map view_group (drop l.group-index l.content.groups.items)))
      ≡ length (refs_of (map view_group l.content.groups.items));
}
