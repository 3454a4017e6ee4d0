use Rattle.fork_format.proofs.Cited.{◌≡◌, ◌++◌, map, drop, IsSome, types, AreKinds, refs_end, view_group}
use Rattle.fork_format.proofs.write.put_types.Given as goal

abbrev pub invariant-loop-group : goal.invariant-loop-group
invariant-loop-group l = record {
  kinds : AreKinds (map view_group (drop l.group-index l.groups)) → AreKinds (map view_group l.groups);
  ends : IsSome (refs_end l.at (map view_group (drop l.group-index l.groups)));
  out : l.out.items ++ types l.at (map view_group (drop l.group-index l.groups)) ≡ l.fn.out.items
      ++ types l.fn.first (map view_group l.groups);
}
