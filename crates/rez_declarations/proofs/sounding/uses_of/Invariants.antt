use Rattle.rez_declarations.proofs.Cited.{◌≡◌, ◌≤◌, ◌+◌, drop, fields_of, uses_of}
use Rattle.rez_declarations.proofs.sounding.uses_of.Given as goal

-- those so far, with those to come, are all
abbrev pub invariant-loop-field : goal.invariant-loop-field
invariant-loop-field l = record {
  rest : l.uses + uses_of l.place (fields_of (drop l.field-index l.fields)) ≡ uses_of l.place (fields_of l.fields);
  small : l.uses ≤ l.field-index;
}
