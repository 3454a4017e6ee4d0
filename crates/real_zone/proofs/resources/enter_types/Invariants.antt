use Rattle.real_zone.proofs.Cited.{◌≡◌, ℕ, ◌+◌, ◌*◌, ◌-◌, true, get, list_all, option_or, nat_cmp, first_found, spaced, entries, type_count}
use Rattle.real_zone.proofs.Cited.{type_list, has_references, named_in_type}
use Rattle.real_zone.proofs.resources.enter_types.Given as goal

-- what was entered, before the types that are left, is what all types name
abbrev pub invariant-loop : goal.invariant-loop
invariant-loop l = record {
  all : l.count ≡ type_count l.content;
  place : l.entry ≡ type_list l.content + 2 + 8 * l.counter;
  inside : list_all (has_references l.content) (spaced 8 (l.count - l.counter) l.entry) ≡ true;
  entered : (other : ℕ) → option_or (get nat_cmp l.resources other)
      (first_found (named_in_type l.form l.content other) (spaced 8 (l.count - l.counter) l.entry))
      ≡ option_or (get nat_cmp l.initial.resources other)
      (first_found (named_in_type l.form l.content other) (entries l.content));
}
