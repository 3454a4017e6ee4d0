use Rattle.real_zone.proofs.Cited.{◌≡◌, ◌+◌, ◌*◌, ◌-◌, list_all, spaced, entries, type_count, type_list, has_references}
use Rattle.real_zone.proofs.resource_map.has_all_references.Given as goal

-- whether the types that are left have their references is whether all do
abbrev pub invariant-loop : goal.invariant-loop
invariant-loop l = record {
  all : l.count ≡ type_count l.content;
  place : l.entry ≡ type_list l.content + 2 + 8 * l.counter;
  rest : list_all (has_references l.content) (spaced 8 (l.count - l.counter) l.entry)
      ≡ list_all (has_references l.content) (entries l.content);
}
