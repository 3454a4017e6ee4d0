use Rattle.list_store.proofs.Cited.{◌≡◌, ◌+◌, ◌∷◌, drop, slice_set, sym, ◌∙◌, ap, arith, size, add, blocks_of, block_of}
use Rattle.list_store.specs.declared.entries.StoredBlock.TheVariants as entry
use Rattle.list_store.proofs.Zone.Listing.{joined-same, joined-empty, joined-two, add-not_free, add-free_other}
use Rattle.list_store.proofs.Zone.Listing.{drop-blocks, two-le}
use Rattle.list_store.proofs.entries.join_at.Goals as goal

pub returns-in_default : goal.returns-in_default
returns-in_default c =
    let es = c.args.entries.now.items in
    joined-same es c.args.i c.index.result.now (omega arith) c.index.ensures
    (add-not_free c.index.result.now (drop (c.args.i + 1) (blocks_of es)) c.in_default.not-Free)

pub returns-then-n-eq0 : goal.returns-then-n-eq0
returns-then-n-eq0 c =
    let es = c.args.entries.now.items in
    ap blocks_of c.remove.ensures.items ∙ joined-empty es c.args.i c.in-Free.n c.index.result.now (omega arith)
    c.index.ensures c.in-Free.is c.if-n-eq0.true

pub overflow_add-n : goal.overflow_add-n
overflow_add-n c =
    let es = c.args.entries.now.items in
    let n : size (block_of c.index.result.now) ≡ c.in-Free.n = ap (λ e. size (block_of e)) c.in-Free.is in
    let m : size (block_of c.index-then-i-len.result.now) ≡ c.in-Free-index.m =
    ap (λ e. size (block_of e)) c.in-Free-index.is in
    omega (
      arith,
      two-le es c.args.i c.index.result.now c.index-then-i-len.result.now (omega arith) c.index.ensures
          c.index-then-i-len.ensures,
    )

pub returns-in-Free-index : goal.returns-in-Free-index
returns-in-Free-index c =
    let es = c.args.entries.now.items in
    ap (λ l. blocks_of (slice_set l c.args.i (entry.Free (c.in-Free.n + c.in-Free-index.m))))
    c.remove-in-Free-index.ensures.items
    ∙ joined-two es c.args.i c.in-Free.n c.in-Free-index.m c.index.result.now c.index-then-i-len.result.now
    (omega arith) c.index.ensures c.in-Free.is c.index-then-i-len.ensures c.in-Free-index.is c.if-n-eq0.false

pub returns-in_default-index : goal.returns-in_default-index
returns-in_default-index c =
    let es = c.args.entries.now.items in
    let next = drop-blocks es (c.args.i + 1) c.index-then-i-len.result.now (omega arith) c.index-then-i-len.ensures in
    joined-same es c.args.i c.index.result.now (omega arith) c.index.ensures
    (ap (λ l. add (block_of c.index.result.now) l) next
    ∙ ap (λ e. add (block_of e) (block_of c.index-then-i-len.result.now ∷ drop (c.args.i + 1 + 1) (blocks_of es)))
    c.in-Free.is
    ∙ add-free_other c.in-Free.n c.index-then-i-len.result.now (drop (c.args.i + 1 + 1) (blocks_of es)) c.if-n-eq0.false
    c.in_default-index.not-Free
    ∙ ap (λ e. block_of e ∷ block_of c.index-then-i-len.result.now ∷ drop (c.args.i + 1 + 1) (blocks_of es))
    (sym c.in-Free.is) ∙ ap (λ l. block_of c.index.result.now ∷ l) (sym next))
