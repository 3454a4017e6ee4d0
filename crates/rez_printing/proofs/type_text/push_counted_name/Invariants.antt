use Rattle.rez_printing.proofs.Cited.{◌≡◌, drop, fields_of, array_counted}
use Rattle.rez_printing.proofs.type_text.push_counted_name.Given as goal

-- no array so far is the one, and nothing is written
abbrev pub invariant-loop-field : goal.invariant-loop-field
invariant-loop-field l = record {
  rest : array_counted l.place (fields_of (drop l.field-index l.fields)) ≡ array_counted l.place (fields_of l.fields);
  same : l.out.items ≡ l.fn.out.items;
}
