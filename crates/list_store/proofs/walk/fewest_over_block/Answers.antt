use Rattle.list_store.proofs.Cited.{◌≡◌, ◌≤◌, false, rules, arith, nat_tests, most_purges, serves_block, blocks_of, none-serve_block}
use Rattle.list_store.proofs.walk.fewest_over_block.Goals as goal

pub returns-else-has_run_of : goal.returns-else-has_run_of
returns-else-has_run_of c =
    let zone = blocks_of c.args.entries.now in
    let most : most_purges c.args.sparing zone ≤ c.loop-count.count =
    grind (arith, nat_tests, c.purgeable_in-most.ensures, c.loop-count-test.true, c.walk_over.ensures) in
    let here : serves_block c.args.number c.args.bytes c.args.sparing zone c.loop-count.count ≡ false = search rules in
    none-serve_block c.args.number c.args.bytes c.args.sparing zone c.loop-count.count most c.loop-count.invariant here
