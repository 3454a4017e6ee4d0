use Rattle.list_store.proofs.Cited.{◌≡◌, ◌≤◌, false, rules, arith, nat_tests, most_purges, serves, blocks_of, none-serve}
use Rattle.list_store.proofs.walk.fewest_over.Goals as goal

pub returns-else-is_some : goal.returns-else-is_some
returns-else-is_some c =
    let zone = blocks_of c.args.entries.now in
    let most : most_purges c.args.sparing zone ≤ c.loop-purges.purges =
    grind (arith, nat_tests, c.purgeable_in-most.ensures, c.loop-purges-test.true, c.walk_over.ensures) in
    let here : serves c.args.bytes c.args.sparing zone c.loop-purges.purges ≡ false = search rules in
    none-serve c.args.bytes c.args.sparing zone c.loop-purges.purges most c.loop-purges.invariant here
