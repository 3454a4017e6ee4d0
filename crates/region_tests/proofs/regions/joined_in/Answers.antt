use Rattle.std.proofs.Common.{refl, arith}
use Rattle.region_tests.proofs.regions.joined_in.Goals as goal

-- the second of the two windows that are still out
pub joined-requires-in-cba-clause-second : goal.joined-requires-in-cba-clause-second
joined-requires-in-cba-clause-second c =
    let three = c.in_ok-region.ensures in
    rw (three.out, three.places.1, three.places.2, three.sizes.1, three.sizes.2) (1, omega arith, refl)
