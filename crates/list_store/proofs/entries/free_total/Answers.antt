use Rattle.list_store.proofs.Cited.{◌≡◌, ap, arith, free_of, block_of}
use Rattle.list_store.proofs.Zone.Listing.{free-more, free-le, free_of-not_free}
use Rattle.list_store.proofs.entries.free_total.Goals as goal
use Rattle.list_store.proofs.entries.free_total.Goals.{in-Free, in_default}

pub overflow_add-total : goal.overflow_add-total
overflow_add-total c =
    let f : free_of (block_of c.entry-item.result) ≡ c.in-Free.n = ap (λ e. free_of (block_of e)) c.in-Free.is in
    omega (arith, free-le c.args.entries.now c.loop-entry.entry-index c.entry-item.result (omega arith) c.entry-item.is)

pub loop-entry-preserved : goal.loop-entry-preserved
loop-entry-preserved c =
    let more = free-more c.args.entries.now c.loop-entry.entry-index c.entry-item.result (omega arith)
    c.entry-item.is in
    elim c.match-entry.branch [
      | in-Free w ↦ (let f : free_of (block_of c.entry-item.result) ≡ w.in-Free.n = ap (λ e. free_of (block_of e))
          w.in-Free.is in omega (arith, more))
      | in_default w ↦ (let f : free_of (block_of c.entry-item.result) ≡ 0 = free_of-not_free c.entry-item.result
          w.in_default.not-Free in omega (arith, more))
    ]
