use Rattle.fork_rules.proofs.Cited.{◌≡◌, ◌+◌, ◌*◌, ◌-◌, ◌++◌, flat_map, offsets, ref_places}
use Rattle.fork_rules.proofs.places.references_of.Given as goal

-- the references of the types so far, with those of the types that are left, are all
abbrev pub invariant-loop : goal.invariant-loop
invariant-loop l = record {
  place : l.at ≡ l.fn.first + 8 * l.counter;
  all : l.places.items ++ flat_map (λ type. ref_places type l.bytes) (offsets l.at 8 (l.count - l.counter))
      ≡ flat_map (λ type. ref_places type l.bytes) (offsets l.fn.first 8 l.count);
}
