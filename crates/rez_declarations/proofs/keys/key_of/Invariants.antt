use Rattle.rez_declarations.proofs.Cited.{◌≡◌, drop, fields_of, key_after}
use Rattle.rez_declarations.proofs.keys.key_of.Given as goal

-- the key from here on is that of all fields
abbrev pub invariant-loop-field : goal.invariant-loop-field
invariant-loop-field l = key_after l.before (fields_of (drop l.field-index l.fields)) ≡ key_after 0 (fields_of l.fields)
