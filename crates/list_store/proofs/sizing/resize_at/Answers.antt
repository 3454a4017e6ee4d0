use Rattle.list_store.proofs.Cited.{◌≡◌, ◌≤◌, ◌<◌, ◌⊎◌, sym, subst, on_ok_weaker, IsSome, IfSome, Block, size, resized, filled, grow_up}
use Rattle.list_store.proofs.Cited.{blocks_of, block_of}
use Rattle.list_store.proofs.Zone.Spots.{from_entry}
use Rattle.list_store.proofs.Content.Resizing.{entry_spot, and_entry, if_entry}
use Rattle.list_store.proofs.sizing.resize_at.Goals as goal

pub replace-requires-clause-room : goal.replace-requires-clause-room
replace-requires-clause-room c =
    let es = c.args.entries.now.items in
    let e = c.index.result.now in
    let room = from_entry es _ c.args.place c.in-Some.i e
    (λ s. (size (resized c.args.bytes s.here) ≤ size s.here) ⊎ IsSome (grow_up (resized c.args.bytes s.here) s))
    c.deref.ensures.value c.in-Some.ensures c.index.ensures c.requires.room in
    let P : Block → Type 0 = λ b. (size b ≤ size (block_of e)) ⊎ IsSome (grow_up b (entry_spot es c.in-Some.i e)) in
    and_entry es _ c.args.place c.in-Some.i e (λ s. (size (block_of c.in_ok-new.new) ≤ size s.here)
    ⊎ IsSome (grow_up (block_of c.in_ok-new.new) s)) c.deref.ensures.value c.in-Some.ensures c.index.ensures
    (subst P (sym c.in_ok-new.ensures) room)

pub returns-clause-cut : goal.returns-clause-cut
returns-clause-cut c =
    let zone = blocks_of c.replace.new.entries.items in
    on_ok_weaker c.replace.result
    (if_entry c.args.entries.now.items _ c.args.place c.in-Some.i c.index.result.now (resized c.args.bytes)
    (block_of c.in_ok-new.new) (λ b s. size b ≤ size s.here → zone ≡ filled b s) c.deref.ensures.value
    c.in-Some.ensures c.index.ensures c.in_ok-new.ensures)
    c.replace.ensures.cut

pub returns-clause-grown : goal.returns-clause-grown
returns-clause-grown c =
    let zone = blocks_of c.replace.new.entries.items in
    on_ok_weaker c.replace.result
    (if_entry c.args.entries.now.items _ c.args.place c.in-Some.i c.index.result.now (resized c.args.bytes)
    (block_of c.in_ok-new.new) (λ b s. size s.here < size b → IfSome (grow_up b s) (λ after. zone ≡ after))
    c.deref.ensures.value c.in-Some.ensures c.index.ensures c.in_ok-new.ensures)
    c.replace.ensures.grown
