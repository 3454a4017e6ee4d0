use Rattle.fork_format.proofs.Cited.{◌≡◌, ◌++◌, map, drop, refs_of, HaveRefs, references, behind, no_starts, view_group}
use Rattle.fork_format.proofs.write.put_all_references.Given as goal

abbrev pub invariant-loop-group : goal.invariant-loop-group
invariant-loop-group l = record {
  sized : HaveRefs (map view_group (drop l.group-index l.groups)) → HaveRefs (map view_group l.groups);
  behind : behind l.starts (refs_of (map view_group (drop l.group-index l.groups)))
      ≡ behind no_starts (refs_of (map view_group l.groups));
  out : l.out.items ++ references l.starts.datum l.starts.name (refs_of (map view_group (drop l.group-index l.groups)))
      ≡ l.fn.out.items ++ references 0 0 (refs_of (map view_group l.groups));
}
