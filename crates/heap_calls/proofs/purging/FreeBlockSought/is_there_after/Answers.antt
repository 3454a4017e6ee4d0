use Rattle.heap_calls.proofs.Cited.{◌<◌, ◌∙◌, ℕ, Option, nat_le, sym, ap, subst, IfSome, has_room, purged, Nothing, room-largest}
use Rattle.heap_calls.proofs.purging.FreeBlockSought.is_there_after.Goals as goal

pub returns-in-Some : goal.returns-in-Some
returns-in-Some g c =
    let zone = purged c.args.purges Nothing (g.S.BlockStore.zone c.args.store.now) in
    let P : Option ℕ → Type 0 = λ o. IfSome o (λ p. 0 < p) in
    ap (nat_le c.in-Some.bytes) c.largest_after.ensures
    ∙ room-largest c.in-Some.bytes zone (subst P c.in-Some.is c.requires)
    ∙ ap (λ (o : Option ℕ). has_room o zone) (sym c.in-Some.is)
