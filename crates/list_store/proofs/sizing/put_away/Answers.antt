use Rattle.list_store.proofs.Cited.{◌≡◌, ◌<◌, length, ◌+◌, ◌-◌, ◌++◌, ◌∷◌, ◌∙◌, take, drop, ap, arith, slice_set, Free, size, sizes, tidy}
use Rattle.list_store.proofs.Cited.{is_relocatable, filled, freed, moved_away, blocks_of, block_of, room-fits, sizes-inserted}
use Rattle.list_store.proofs.Zone.Spots.{at_entry}
use Rattle.list_store.proofs.Content.Fitting.{FitsAt, fits-at}
use Rattle.list_store.proofs.Content.Resizing.{blocks-inserted, sizes-moved, moved-at}
use Rattle.list_store.proofs.sizing.put_away.Goals.{After-index, After-free_slot}
use Rattle.list_store.proofs.sizing.put_away.Goals as goal

-- the block has room in the entry at the place
facts : (c : After-index) → FitsAt c.args.entries.now.items c.in-Some.i c.index.result.now (block_of c.args.new)
facts c = fits-at c.args.entries.now.items _ c.args.place c.in-Some.i c.index.result.now (block_of c.args.new)
    c.deref.ensures.value c.in-Some.ensures c.index.ensures (room-fits _ _ c.requires.room)

-- the slot's block is freed, and the new one is in its place
moved : (c : After-free_slot) → c.in-Some.i < length c.args.entries.now.items
    → blocks_of (slice_set c.free_slot.new.entries.items c.in-Some.i c.args.new)
    ≡ freed (is_relocatable c.args.number) (take c.in-Some.i (blocks_of c.args.entries.now.items))
    ++ block_of c.args.new ∷ Free (c.entry_size.result - c.entry_size-2.result)
    ∷ freed (is_relocatable c.args.number) (drop (c.in-Some.i + 1) (blocks_of c.args.entries.now.items))
moved c within =
    moved-at c.args.number c.args.entries.now.items _ c.free_slot.new.entries.items c.in-Some.i
    (c.entry_size.result - c.entry_size-2.result) c.args.new
    within c.in_ok-insert.ensures.items c.free_slot.ensures

pub entry_size-requires : goal.entry_size-requires
entry_size-requires c =
    let at = facts (goal.at.entry_size-requires c).After-index in
    omega (arith, at.room, at.below, c.requires.fits)

pub entry_size-requires-2 : goal.entry_size-requires-2
entry_size-requires-2 c =
    let at = facts (goal.at.entry_size-requires-2 c).After-index in
    omega (arith, at.room, at.below, c.requires.fits)

pub overflow_sub-left : goal.overflow_sub-left
overflow_sub-left c =
    let at = facts (goal.at.overflow_sub-left c).After-index in
    omega (arith, at.room, at.below, c.requires.fits)

pub free_slot-requires : goal.free_slot-requires
free_slot-requires c =
    let es = c.args.entries.now.items in
    let above = c.in-Some.i + 1 in
    let left = c.entry_size.result - c.entry_size-2.result in
    let at = facts (goal.at.free_slot-requires c).After-index in
    let after = ap sizes (ap blocks_of c.in_ok-insert.ensures.items ∙ blocks-inserted es above left)
    ∙ sizes-inserted (blocks_of es) above left in
    omega (arith, after, at.below, c.requires.fits)

pub tidy_entries-requires : goal.tidy_entries-requires
tidy_entries-requires c =
    let at = facts (goal.at.tidy_entries-requires c).After-index in
    let left = c.entry_size.result - c.entry_size-2.result in
    let whole = ap sizes (moved (goal.at.tidy_entries-requires c).After-free_slot at.within)
    ∙ sizes-moved c.args.number c.args.entries.now.items c.in-Some.i left c.index.result.now (block_of c.args.new)
    at.within c.index.ensures (omega (arith, at.room)) in
    omega (arith, whole, c.requires.fits)

pub returns-clause-ok : goal.returns-clause-ok
returns-clause-ok c =
    let bs = blocks_of c.args.entries.now.items in
    let i = c.in-Some.i in
    let e = c.index.result.now in
    let t = is_relocatable c.args.number in
    let new = block_of c.args.new in
    let at = goal.at.returns-clause-ok c in
    let same : c.entry_size.result - c.entry_size-2.result ≡ size (block_of e) - size new = omega arith in
    at_entry c.args.entries.now.items _ c.args.place i e
    (λ s. blocks_of c.tidy_entries.new.entries.items ≡ filled new (moved_away t s)) c.deref.ensures.value
    c.in-Some.ensures c.index.ensures
    (c.tidy_entries.ensures ∙ ap tidy (moved at.After-free_slot (facts at.After-index).within)
    ∙ ap (λ n. tidy (freed t (take i bs) ++ new ∷ Free n ∷ freed t (drop (i + 1) bs))) same)
