use Rattle.list_store.proofs.Cited.{◌+◌, ◌-◌, take, drop, sym, ◌∙◌, ap, arith, size, spot_at, blocks_of, block_of, spot_at-more}
use Rattle.list_store.proofs.Cited.{spot_at-past, raised_by}
use Rattle.list_store.proofs.Zone.Listing.{drop-blocks, take-blocks, entry_fits, spot_at-here}
use Rattle.list_store.proofs.entries.index_at.Goals as goal

pub returns-then-rest-eq0 : goal.returns-then-rest-eq0
returns-then-rest-eq0 c =
    let es = c.args.entries.now in (
      omega arith,
      sym c.loop-i.invariant ∙ spot_at-here es c.loop-i.i c.loop-i.rest c.index-entries-i.result
          (omega arith) c.index-entries-i.is c.if-rest-eq0.true,
    )

pub entry_size-bytes-requires : goal.entry_size-bytes-requires
entry_size-bytes-requires c = omega (
  arith,
  entry_fits c.args.entries.now c.loop-i.i c.index-entries-i.result (omega arith) c.index-entries-i.is,
)

pub returns-then-bytes-rest : goal.returns-then-bytes-rest
returns-then-bytes-rest c =
    let es = c.args.entries.now in
    let e = c.index-entries-i.result in
    sym c.loop-i.invariant ∙ ap (λ l. raised_by (take c.loop-i.i (blocks_of es)) (spot_at c.loop-i.rest l))
    (drop-blocks es c.loop-i.i e (omega arith) c.index-entries-i.is)
    ∙ spot_at-past (take c.loop-i.i (blocks_of es)) c.loop-i.rest (block_of e) (drop (c.loop-i.i + 1) (blocks_of es))
    c.if-rest-eq0.false (omega arith)

pub loop-i-preserved : goal.loop-i-preserved
loop-i-preserved c =
    let es = c.args.entries.now in
    let i = c.loop-i.i in
    let e = c.index-entries-i.result in
    ap (λ n. raised_by (take (i + 1) (blocks_of es)) (spot_at (c.loop-i.rest - n) (drop (i + 1) (blocks_of es))))
    c.entry_size-bytes.ensures
    ∙ ap (λ l. raised_by l (spot_at (c.loop-i.rest - size (block_of e)) (drop (i + 1) (blocks_of es))))
    (take-blocks es i e (omega arith) c.index-entries-i.is)
    ∙ sym (spot_at-more (take i (blocks_of es)) c.loop-i.rest (block_of e) (drop (i + 1) (blocks_of es))
    c.if-rest-eq0.false (omega arith)) ∙ ap (λ l. raised_by (take i (blocks_of es)) (spot_at c.loop-i.rest l))
    (sym (drop-blocks es i e (omega arith) c.index-entries-i.is))
    ∙ c.loop-i.invariant
