use Rattle.zone_marks.proofs.Cited.{◌∙◌, ◌-◌, ◌+◌, ap, arith, sym, spared, told-size, told-sizes, run_purges_for}
use Rattle.block_store.proofs.Walks.Telling.{told}
use Rattle.zone_marks.proofs.fewest.count_in_run.Goals as goal
use Rattle.zone_marks.proofs.Stretches.BlockRuns.{run-goes}
use Rattle.zone_marks.proofs.Stretches.Fewest.{goes-size}

pub loop-left-preserved-then-may_purge_now : goal.loop-left-preserved-then-may_purge_now
loop-left-preserved-then-may_purge_now g c =
    let sp = spared c.args.sparing in
    let after = g.W.Walk.rest c.next_block.new.self in
    let t = told _ _ _ _ c.next_block.ensures c.in-Some.is in
    let goes = sym (c.may_purge_now.ensures t.block t.is) ∙ c.if-may_purge_now.true in
    record {
      few = omega (arith, told-sizes t, told-size t, goes-size sp t.block goes);
      is = ap (λ k. run_purges_for sp (c.loop-left.total + 1) k after)
          (c.saturating_sub-left.ensures ∙ ap (λ k. c.loop-left.left - k) (c.size_of_seen.ensures ∙ told-size t))
          ∙ sym (run-goes sp _ _ t.block after (omega arith) goes)
          ∙ sym (ap (run_purges_for sp c.loop-left.total c.loop-left.left) t.before_is) ∙ c.loop-left.invariant.is;
    }

pub loop-left-preserved : goal.loop-left-preserved
loop-left-preserved g c =
    let t = told _ _ _ _ c.next_block.ensures c.in-Some.is in
    grind arith
