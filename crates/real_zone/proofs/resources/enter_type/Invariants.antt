use Rattle.real_zone.proofs.Cited.{◌≡◌, ℕ, ◌+◌, ◌*◌, ◌-◌, get, option_or, nat_cmp, first_found, spaced, reference_count, first_reference}
use Rattle.real_zone.proofs.Cited.{named_by, named_in_type}
use Rattle.real_zone.proofs.resources.enter_type.Given as goal

-- what was entered, before the references that are left, is what all references name
abbrev pub invariant-loop : goal.invariant-loop
invariant-loop l = record {
  all : l.count ≡ reference_count l.content l.entry;
  place : l.reference ≡ first_reference l.content l.entry + 12 * l.counter;
  entered : (other : ℕ) → option_or (get nat_cmp l.resources other)
      (first_found (named_by l.form l.content l.entry other) (spaced 12 (l.count - l.counter) l.reference))
      ≡ option_or (get nat_cmp l.initial.resources other) (named_in_type l.form l.content other l.entry);
}
