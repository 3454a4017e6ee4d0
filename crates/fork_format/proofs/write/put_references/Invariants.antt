use Rattle.fork_format.proofs.Cited.{◌≡◌, ◌++◌, map, drop, references, AreRefs, behind, view_ref}
use Rattle.fork_format.proofs.write.put_references.Given as goal

abbrev pub invariant-loop-r : goal.invariant-loop-r
invariant-loop-r l = record {
  sized : AreRefs (map view_ref (drop l.r-index l.refs)) → AreRefs (map view_ref l.refs);
  behind : behind l.next (map view_ref (drop l.r-index l.refs)) ≡ behind l.fn.starts (map view_ref l.refs);
  out : l.out.items ++ references l.next.datum l.next.name (map view_ref (drop l.r-index l.refs)) ≡ l.fn.out.items
      ++ references l.fn.starts.datum l.fn.starts.name (map view_ref l.refs);
}
