use Rattle.list_store.proofs.Cited.{◌+◌, Some, sym, ap, ◌∙◌, refl, subst, drop, arith, size, blocks_of, block_of, seen, Tells}
use Rattle.list_store.proofs.Zone.Listing.{drop-blocks, entry_fits}
use Rattle.list_store.proofs.walk.ListWalkWalk.next_block.Goals as goal

pub look-requires : goal.look-requires
look-requires c =
    let n = c.if-self.false in
    let same = ap (λ v. size (block_of v)) c.index-self-self.is in
    omega (
      arith,
      same,
      c.args.self.now.small,
      entry_fits c.args.self.now.entries.now c.args.self.now.index c.index-self-self.result (omega (arith, n))
          c.index-self-self.is,
    )

pub returns : goal.returns
returns c =
    let n = c.if-self.false in
    let es = c.args.self.now.entries.now in
    let d = drop-blocks es c.args.self.now.index c.index-self-self.result (omega (arith, n)) c.index-self-self.is in
    subst (λ l. Tells l (Some c.look.result) (drop (c.args.self.now.index + 1) (blocks_of es))) (sym d)
    (ap Some (c.look.ensures ∙ ap (λ v. seen (block_of v)) (sym c.index-self-self.is)), refl)
