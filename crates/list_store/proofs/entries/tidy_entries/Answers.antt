use Rattle.list_store.proofs.Cited.{◌-◌, ◌++◌, take, drop, ◌∙◌, ap, arith, length-map, sizes, tidy_top, blocks_of, block_of, tidy-step}
use Rattle.list_store.proofs.Cited.{sizes-tidied}
use Rattle.list_store.proofs.entries.tidy_entries.Goals as goal

pub join_at-requires-clause-fits : goal.join_at-requires-clause-fits
join_at-requires-clause-fits c =
    let bs = blocks_of c.args.entries.now.items in
    omega (arith, ap sizes c.loop-i.invariant.above ∙ sizes-tidied bs c.loop-i.i)

pub loop-i-preserved : goal.loop-i-preserved
loop-i-preserved c =
    let bs = blocks_of c.args.entries.now.items in
    let j = c.loop-i.i - 1 in
    record {
      within = omega arith;
      above = c.join_at.ensures ∙ ap (λ l. take j l ++ tidy_top (drop j l)) c.loop-i.invariant.above
          ∙ tidy-step bs j c.loop-i.i (omega arith) (omega (
            arith,
            c.loop-i.invariant.within,
            length-map c.args.entries.now.items block_of,
          ));
    }
