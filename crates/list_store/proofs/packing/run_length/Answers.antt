use Rattle.list_store.proofs.Cited.{◌+◌, ◌++◌, ◌∷◌, [], take, drop, sym, ◌∙◌, ap, append_assoc, append-nil, segments, beyond, blocks_of}
use Rattle.list_store.proofs.Cited.{block_of, first-stop, beyond-stop, first-more, beyond-more}
use Rattle.list_store.proofs.Zone.Listing.{drop-blocks, take-blocks}
use Rattle.list_store.proofs.packing.run_length.Goals as goal

pub returns-then-not-is_loose-clause-run : goal.returns-then-not-is_loose-clause-run
returns-then-not-is_loose-clause-run c =
    let bs = blocks_of c.args.entries.now in
    let i = c.loop-i.i in
    let e = c.index-entries-i.result in
    c.loop-i.invariant.run ∙ ap (λ l. take i bs ++ (segments l).first)
    (drop-blocks c.args.entries.now i e c.loop-i-test.true c.index-entries-i.is)
    ∙ ap (λ l. take i bs ++ l) (first-stop (block_of e) (drop (i + 1) bs)
    (sym c.is_loose.ensures ∙ c.if-not-is_loose.true)) ∙ append-nil (take i bs)

pub returns-then-not-is_loose-clause-above : goal.returns-then-not-is_loose-clause-above
returns-then-not-is_loose-clause-above c =
    let bs = blocks_of c.args.entries.now in
    let i = c.loop-i.i in
    let e = c.index-entries-i.result in
    let next = drop-blocks c.args.entries.now i e c.loop-i-test.true c.index-entries-i.is in
    c.loop-i.invariant.above ∙ ap (λ l. beyond (segments l).rest) next ∙ beyond-stop (block_of e) (drop (i + 1) bs)
    (sym c.is_loose.ensures ∙ c.if-not-is_loose.true) ∙ sym next

pub loop-i-preserved : goal.loop-i-preserved
loop-i-preserved c =
    let bs = blocks_of c.args.entries.now in
    let i = c.loop-i.i in
    let e = c.index-entries-i.result in
    let next = drop-blocks c.args.entries.now i e c.loop-i-test.true c.index-entries-i.is in
    let loose = sym c.is_loose.ensures ∙ c.if-not-is_loose.false in
    record {
      run =
          c.loop-i.invariant.run ∙ ap (λ l. take i bs ++ (segments l).first) next
          ∙ ap (λ l. take i bs ++ l) (first-more (block_of e) (drop (i + 1) bs) loose)
          ∙ sym (append_assoc (take i bs) (block_of e ∷ []) (segments (drop (i + 1) bs)).first)
          ∙ ap (λ l. l ++ (segments (drop (i + 1) bs)).first)
          (sym (take-blocks c.args.entries.now i e c.loop-i-test.true c.index-entries-i.is));
      above = c.loop-i.invariant.above ∙ ap (λ l. beyond (segments l).rest) next
          ∙ beyond-more (block_of e) (drop (i + 1) bs) loose;
    }
