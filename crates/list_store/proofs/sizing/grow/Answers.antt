use Rattle.list_store.proofs.Cited.{◌≡◌, ◌<◌, ◌+◌, ◌-◌, ◌++◌, ◌∷◌, ◌∙◌, take, drop, sym, ap, subst, arith, length, ℕ, slice_set, length-map}
use Rattle.list_store.proofs.Cited.{IsSome, IfSome, growth, taken, grow_up, blocks_of, block_of, if_grown, if_some-map, set-last}
use Rattle.list_store.proofs.Zone.Spots.{at_entry, blocks-set}
use Rattle.list_store.proofs.Content.Resizing.{GrowsAt, grows-at, entry_spot}
use Rattle.list_store.proofs.Content.Resizing.{grown-within}
use Rattle.list_store.proofs.sizing.grow.Goals.{After-index, After-entry_size, After-take_bytes}
use Rattle.list_store.proofs.sizing.grow.Goals as goal

-- the block grows at the place
facts : (c : After-index) → GrowsAt c.args.entries.now.items c.in-Some.i c.index.result.now (block_of c.args.new)
facts c = grows-at c.args.entries.now.items _ c.args.place c.in-Some.i c.index.result.now (block_of c.args.new)
    c.deref.ensures.value c.in-Some.ensures c.index.ensures c.requires.more c.requires.room

-- the bytes that are wanted, which are above
wanted : (c : After-entry_size) → growth (block_of c.args.new)
    (entry_spot c.args.entries.now.items c.in-Some.i c.index.result.now)
    ≡ c.entry_size.result - c.entry_size-old.result
wanted c = omega (arith, c.entry_size.ensures, c.entry_size-old.ensures)

above : (c : After-entry_size) → IsSome (taken (c.entry_size.result - c.entry_size-old.result)
    (drop (c.in-Some.i + 1) (blocks_of c.args.entries.now.items)))
above c = subst (λ (n : ℕ). IsSome (taken n (drop (c.in-Some.i + 1) (blocks_of c.args.entries.now.items)))) (wanted c)
    (facts c.before.before.before).above

within : (c : After-take_bytes) → c.in-Some.i < length c.take_bytes.new.entries.items
within c =
    let at = c.before.before in
    grown-within c.args.entries.now.items c.take_bytes.new.entries.items c.in-Some.i
    (c.entry_size.result - c.entry_size-old.result) (facts at.before.before.before).sized.within
    (above at) c.take_bytes.ensures

pub overflow_sub-more : goal.overflow_sub-more
overflow_sub-more c =
    let more = (facts (goal.at.overflow_sub-more c).After-index).more in
    omega (arith, more, c.entry_size.ensures, c.entry_size-old.ensures)

pub entry_size-old-requires : goal.entry_size-old-requires
entry_size-old-requires c =
    let sized = (facts (goal.at.entry_size-old-requires c).After-index).sized in
    omega (arith, sized.old, c.requires.fits)

pub entry_size-requires : goal.entry_size-requires
entry_size-requires c =
    let sized = (facts (goal.at.entry_size-requires c).After-index).sized in
    omega (arith, sized.fits, c.requires.fits)

pub take_bytes-requires-clause-room : goal.take_bytes-requires-clause-room
take_bytes-requires-clause-room c = above (goal.at.take_bytes-requires-clause-room c).After-entry_size

pub index_mut-requires : goal.index_mut-requires
index_mut-requires c =
    let there = within (goal.at.index_mut-requires c).After-take_bytes in
    omega (arith, there)

pub returns : goal.returns
returns c =
    let es = c.args.entries.now.items in
    let es' = c.take_bytes.new.entries.items in
    let i = c.in-Some.i in
    let e = c.index.result.now in
    let new = block_of c.args.new in
    let s = entry_spot es i e in
    let at = goal.at.returns c in
    let long : i < length (blocks_of es) = omega (arith, length-map es block_of, (facts at.After-index).sized.within) in
    let rest = subst (λ (n : ℕ). IfSome (taken n (drop (i + 1) (blocks_of es)))
    (λ above. blocks_of es' ≡ take (i + 1) (blocks_of es) ++ above)) (sym (wanted at.After-entry_size))
    c.take_bytes.ensures in
    at_entry es _ c.args.place i e (λ s. IfSome (grow_up new s)
    (λ after. blocks_of (slice_set es' i c.args.new) ≡ after)) c.deref.ensures.value c.in-Some.ensures c.index.ensures
    (if_grown new s (blocks_of (slice_set es' i c.args.new))
    (if_some-map (taken (growth new s) s.above) (λ above is. blocks-set es' i c.args.new (within at.After-take_bytes)
    ∙ ap (λ l. take i l ++ new ∷ drop (i + 1) l) is ∙ set-last (blocks_of es) above i new long) rest))
