use Rattle.list_store.proofs.Cited.{◌≡◌, ◌≤◌, ◌-◌, sym, ap, arith, size, block_of}
use Rattle.list_store.proofs.Zone.Listing.{entry_fits}
use Rattle.list_store.proofs.Content.Resizing.{within-taken, taken-at, taken-none, taken-some}
use Rattle.list_store.proofs.sizing.take_bytes.Goals as goal

pub entry_size-requires : goal.entry_size-requires
entry_size-requires c =
    let es = c.args.entries.now.items in
    let le = entry_fits es c.args.i c.index.result.now (within-taken c.args.bytes c.args.i es c.requires.room)
    c.index.ensures in
    let fits = c.requires.fits in
    omega arith

pub overflow_sub-left : goal.overflow_sub-left
overflow_sub-left c =
    let es = c.args.entries.now.items in
    let at = taken-at es c.args.i c.args.bytes c.index.result.now
    (within-taken c.args.bytes c.args.i es c.requires.room) c.index.ensures c.requires.room in
    let fits : c.args.bytes ≤ size (block_of c.index.result.now) = at.0 in
    omega arith

pub returns-then-left-eq0 : goal.returns-then-left-eq0
returns-then-left-eq0 c =
    let es = c.args.entries.now.items in
    taken-none es _ c.args.i c.args.bytes c.index.result.now c.remove.ensures.items
    (within-taken c.args.bytes c.args.i es c.requires.room) c.index.ensures c.requires.room
    (let left : size (block_of c.index.result.now) - c.args.bytes ≡ 0 = omega arith in left)

pub returns-else-left-eq0 : goal.returns-else-left-eq0
returns-else-left-eq0 c =
    let es = c.args.entries.now.items in
    taken-some es c.args.i c.args.bytes (c.entry_size.result - c.args.bytes) c.index.result.now
    (within-taken c.args.bytes c.args.i es c.requires.room) c.index.ensures c.requires.room
    (ap (λ n. n - c.args.bytes) (sym c.entry_size.ensures)) c.if-left-eq0.false
