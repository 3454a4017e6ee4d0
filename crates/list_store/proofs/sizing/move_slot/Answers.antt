use Rattle.list_store.proofs.Cited.{◌≡◌, ℕ, List, sym, subst, IsTrue, IfSome, IsSomeAnd, is_room, is_relocatable, resized, spot, spot_at}
use Rattle.list_store.proofs.Cited.{StoredBlock, blocks_of, block_of, size-slot}
use Rattle.list_store.proofs.sizing.move_slot.Goals as goal

pub put_away-requires-clause-room : goal.put_away-requires-clause-room
put_away-requires-clause-room c =
    let bs = blocks_of c.args.entries.now.items in
    let is = subst (λ (l : List StoredBlock). IfSome (spot (is_relocatable c.args.number) (blocks_of l))
    (λ from. block_of c.in_ok-new.new ≡ resized c.args.bytes from.here)) c.deref.ensures.value c.in_ok-new.ensures in
    subst (λ (n : ℕ). IsSomeAnd (spot_at c.args.place bs) (λ s. IsTrue (is_room n s.here)))
    (sym (size-slot c.args.number c.args.bytes bs (block_of c.in_ok-new.new) c.requires.block is)) c.requires.room
