use Rattle.real_zone.proofs.Cited.{◌≡◌, ◌+◌, ◌*◌, ◌-◌, ◌≤◌, sum_by, spaced, type_count, type_list, reference_count, all_references}
use Rattle.real_zone.proofs.resource_map.all_references.Given as goal

-- the references so far, with those of the types that are left, are all
abbrev pub invariant-loop : goal.invariant-loop
invariant-loop l = record {
  all : l.count ≡ type_count l.content;
  place : l.entry ≡ type_list l.content + 2 + 8 * l.counter;
  few : l.sum ≤ 65535 * l.counter;
  rest : l.sum + sum_by (reference_count l.content) (spaced 8 (l.count - l.counter) l.entry) ≡ all_references l.content;
}
