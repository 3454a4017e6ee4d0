use Rattle.list_store.proofs.Cited.{◌≡◌, ◌≤◌, ◌<◌, arith, IsSome, IsSomeAnd, IfSome, size, Spot, spot_at, filled, grow_up, blocks_of}
use Rattle.list_store.proofs.Cited.{block_of, larger, on_ok}
use Rattle.list_store.proofs.Zone.Spots.{at_entry}
use Rattle.list_store.proofs.Content.Resizing.{SizedAt, sized-at, entry_spot, and_entry}
use Rattle.list_store.proofs.sizing.replace.Goals.{After-index}
use Rattle.list_store.proofs.sizing.replace.Goals as goal

-- the block has room at the place, or grows there
facts : (c : After-index) → SizedAt c.args.entries.now.items c.in-Some.i c.index.result.now (block_of c.args.new)
facts c = sized-at c.args.entries.now.items _ c.args.place c.in-Some.i c.index.result.now (block_of c.args.new)
    c.deref.ensures.value c.in-Some.ensures c.index.ensures c.requires.room

-- what holds of the entry's spot holds of that at the place
there : (c : After-index) (P : Spot → Type 0) → P (entry_spot c.args.entries.now.items c.in-Some.i c.index.result.now)
    → IsSomeAnd (spot_at c.args.place (blocks_of c.args.entries.now.items)) P
there c P = and_entry c.args.entries.now.items _ c.args.place c.in-Some.i c.index.result.now P c.deref.ensures.value
    c.in-Some.ensures c.index.ensures

if_there : (c : After-index) (P : Spot → Type 0) → P
    (entry_spot c.args.entries.now.items c.in-Some.i c.index.result.now)
    → IfSome (spot_at c.args.place (blocks_of c.args.entries.now.items)) P
if_there c P = at_entry c.args.entries.now.items _ c.args.place c.in-Some.i c.index.result.now P c.deref.ensures.value
    c.in-Some.ensures c.index.ensures

pub entry_size-old-requires : goal.entry_size-old-requires
entry_size-old-requires c =
    let old = (facts (goal.at.entry_size-old-requires c).After-index).old in
    omega (arith, old, c.requires.fits)

pub entry_size-requires : goal.entry_size-requires
entry_size-requires c =
    let new = (facts (goal.at.entry_size-requires c).After-index).fits in
    omega (arith, new, c.requires.fits)

pub fill-requires-clause-room : goal.fill-requires-clause-room
fill-requires-clause-room c =
    let le : size (block_of c.args.new) ≤ size (block_of c.index.result.now) = omega arith in
    there (goal.at.fill-requires-clause-room c).After-index (λ s. size (block_of c.args.new) ≤ size s.here) le

pub returns-then-entry_size-old-clause-grown : goal.returns-then-entry_size-old-clause-grown
returns-then-entry_size-old-clause-grown c =
    let e = block_of c.index.result.now in
    let new = block_of c.args.new in
    let le : size new ≤ size e = omega arith in
    on_ok c.fill.result
    (if_there (goal.at.returns-then-entry_size-old-clause-grown c).After-index
    (λ s. size s.here < size new → IfSome (grow_up new s) (λ after. blocks_of c.fill.new.entries.items ≡ after))
    (λ less. absurd (let z : size e < size new = less in omega arith)))

pub grow-requires-clause-more : goal.grow-requires-clause-more
grow-requires-clause-more c =
    let more : size (block_of c.index.result.now) < size (block_of c.args.new) = omega arith in
    there (goal.at.grow-requires-clause-more c).After-index (λ s. size s.here < size (block_of c.args.new)) more

pub grow-requires-clause-room : goal.grow-requires-clause-room
grow-requires-clause-room c =
    let at = (goal.at.grow-requires-clause-room c).After-index in
    let e = block_of c.index.result.now in
    let new = block_of c.args.new in
    let more : size e < size new = omega arith in
    there at (λ s. IsSome (grow_up new s)) (larger (size new) (size e) more (facts at).room)

pub returns-clause-cut : goal.returns-clause-cut
returns-clause-cut c =
    let e = block_of c.index.result.now in
    let new = block_of c.args.new in
    let more : size e < size new = omega arith in
    if_there (goal.at.returns-clause-cut c).After-index
    (λ s. size new ≤ size s.here → blocks_of c.grow.new.entries.items ≡ filled new s)
    (λ le. absurd (let z : size new ≤ size e = le in omega arith))
