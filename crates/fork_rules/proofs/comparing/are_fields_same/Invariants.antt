use Rattle.fork_rules.proofs.Cited.{◌≡◌, drop, bytes_eq, pointwise, column}
use Rattle.fork_rules.proofs.comparing.are_fields_same.Given as goal

-- whether the fields that are left are the same is whether all are
abbrev pub invariant-loop-i : goal.invariant-loop-i
invariant-loop-i l = pointwise bytes_eq
    (column l.fields.size l.fields.distance (drop l.i l.fields.places.now) l.bytes)
    (column l.other_fields.size l.other_fields.distance (drop l.i l.other_fields.places.now) l.others)
    ≡ pointwise bytes_eq (column l.fields.size l.fields.distance l.fields.places.now l.bytes)
    (column l.other_fields.size l.other_fields.distance l.other_fields.places.now l.others)
