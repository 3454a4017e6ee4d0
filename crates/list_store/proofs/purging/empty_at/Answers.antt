use Rattle.list_store.proofs.Cited.{◌≡◌, ◌∙◌, ◌+◌, ◌++◌, ◌∷◌, ◌&&◌, nat_lt, take, drop, sym, ap, arith, take-append-drop, and_right, Free}
use Rattle.list_store.proofs.Cited.{sizes, may_be_purged, spared, blocks_of, block_of, sizes-same, emptied-goes, lowest_purged-stays}
use Rattle.list_store.specs.declared.entries.StoredBlock.TheVariants as entry
use Rattle.list_store.proofs.Zone.Listing.{entry_fits, drop-blocks}
use Rattle.list_store.proofs.Zone.Spots.{blocks-set}
use Rattle.list_store.proofs.purging.empty_at.Goals as goal
use Rattle.list_store.proofs.purging.empty_at.Goals.{else-left-gt0-via-then-left-gt0+else-may_purge_at}
use Rattle.list_store.proofs.purging.empty_at.Goals.{else-left-gt0-via-else-left-gt0}

pub entry_size-bytes-requires : goal.entry_size-bytes-requires
entry_size-bytes-requires c = omega (
  arith,
  c.requires.fits,
  entry_fits c.args.entries.now.items c.args.i c.index-entry.result.now (omega arith) c.index-entry.ensures,
)

pub returns-then-may_purge_at-clause-blocks : goal.returns-then-may_purge_at-clause-blocks
returns-then-may_purge_at-clause-blocks c =
    let es = c.args.entries.now.items in
    let bs = blocks_of es in
    let i = c.args.i in
    let e = c.index-entry.result.now in
    emptied-goes (spared c.args.sparing) bs _ i c.args.left (block_of e) c.if-left-gt0.true
    (drop-blocks es i e (omega arith) c.index-entry.ensures) (sym c.may_purge_at.ensures ∙ c.if-may_purge_at.true)
    (blocks-set es i (entry.Free c.entry_size-bytes.result) (omega arith)
    ∙ ap (λ n. take i bs ++ Free n ∷ drop (i + 1) bs) c.entry_size-bytes.ensures)

pub returns-then-may_purge_at-clause-bytes : goal.returns-then-may_purge_at-clause-bytes
returns-then-may_purge_at-clause-bytes c =
    let es = c.args.entries.now.items in
    let bs = blocks_of es in
    let i = c.args.i in
    let e = c.index-entry.result.now in
    ap sizes (blocks-set es i (entry.Free c.entry_size-bytes.result) (omega arith))
    ∙ sizes-same (take i bs) (drop (i + 1) bs) (block_of e) (Free c.entry_size-bytes.result) c.entry_size-bytes.ensures
    ∙ ap sizes (ap (λ l. take i bs ++ l) (sym (drop-blocks es i e (omega arith) c.index-entry.ensures))
    ∙ take-append-drop i bs)

pub returns-else-left-gt0-clause-blocks : goal.returns-else-left-gt0-clause-blocks
returns-else-left-gt0-clause-blocks c =
    let es = c.args.entries.now.items in
    let e = c.index-entry.result.now in
    lowest_purged-stays (spared c.args.sparing) (blocks_of es) c.args.i c.args.left (block_of e)
    (drop-blocks es c.args.i e (omega arith) c.index-entry.ensures)
    (elim c.else-left-gt0.branch [
      | else-left-gt0-via-then-left-gt0+else-may_purge_at w ↦ and_right (nat_lt 0 c.args.left)
          (may_be_purged (spared c.args.sparing) (block_of e)) (sym w.may_purge_at.ensures ∙ w.if-may_purge_at.false)
      | else-left-gt0-via-else-left-gt0 w ↦ ap (λ n. nat_lt 0 n && may_be_purged (spared c.args.sparing) (block_of e))
          (let z : c.args.left ≡ 0 = omega (arith, w.if-left-gt0.false) in z)
    ])
