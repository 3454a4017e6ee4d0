use Rattle.real_zone.proofs.Cited.{◌≡◌, ◌-◌, ◌<◌, ◌^◌, length, first, list_damages, damages_of_list}
use Rattle.real_zone.proofs.masters.damage_by_marks.Given as goal

-- what is wrong with the rest of the list is what is wrong with the whole
abbrev pub invariant-loop : goal.invariant-loop
invariant-loop l = record {
  small : l.address < 2 ^ 32;
  rest : first (list_damages l.form l.zone l.bytes (length l.bytes - l.counter) l.address)
      ≡ first (damages_of_list l.form l.zone l.bytes);
}
