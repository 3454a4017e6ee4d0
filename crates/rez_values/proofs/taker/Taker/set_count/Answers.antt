use Rattle.rez_values.proofs.Cited.{refl, map-set, value_of}
use Rattle.rez_types.specs.declared.value.Value.TheVariants as held
use Rattle.rez_values.proofs.taker.Taker.set_count.Goals as goal

-- the values as they are seen, with the count in its place
pub returns-then-count-len : goal.returns-then-count-len
returns-then-count-len c =
    rw (map-set value_of c.args.self.now.values.items c.args.count.place (held.Count c.args.number)) refl
