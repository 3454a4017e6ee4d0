use Rattle.list_store.proofs.Cited.{◌≡◌, ◌+◌, ◌-◌, ◌++◌, ◌∷◌, ◌∙◌, take, drop, ap, arith, Free, size, tidy, filled, blocks_of, block_of}
use Rattle.list_store.proofs.Zone.Spots.{at_entry}
use Rattle.list_store.proofs.Content.Fitting.{fits-at, carved-at}
use Rattle.list_store.proofs.entries.fill.Goals as goal

pub entry_size-requires : goal.entry_size-requires
entry_size-requires c =
    let at = fits-at c.args.entries.now.items _ c.args.place c.in-Some.i c.index.result.now (block_of c.args.new)
    c.deref.ensures.value c.in-Some.ensures c.index.ensures c.requires.room in
    omega (arith, at.room, at.below, c.requires.fits)

pub entry_size-requires-2 : goal.entry_size-requires-2
entry_size-requires-2 c =
    let at = fits-at c.args.entries.now.items _ c.args.place c.in-Some.i c.index.result.now (block_of c.args.new)
    c.deref.ensures.value c.in-Some.ensures c.index.ensures c.requires.room in
    omega (arith, at.room, at.below, c.requires.fits)

pub overflow_sub-left : goal.overflow_sub-left
overflow_sub-left c =
    let at = fits-at c.args.entries.now.items _ c.args.place c.in-Some.i c.index.result.now (block_of c.args.new)
    c.deref.ensures.value c.in-Some.ensures c.index.ensures c.requires.room in
    omega (arith, at.room, at.below, c.requires.fits)

pub tidy_entries-requires : goal.tidy_entries-requires
tidy_entries-requires c =
    let es = c.args.entries.now.items in
    let i = c.in-Some.i in
    let e = c.index.result.now in
    let at = fits-at es _ c.args.place i e (block_of c.args.new) c.deref.ensures.value c.in-Some.ensures c.index.ensures
    c.requires.room in
    let is = carved-at es c.insert.new.self.items i (c.entry_size.result - c.entry_size-2.result) e c.args.new at
    c.in_ok-insert.ensures.items (omega (arith, at.room)) in
    omega (arith, is.1, c.requires.fits)

pub returns-clause-ok : goal.returns-clause-ok
returns-clause-ok c =
    let es = c.args.entries.now.items in
    let i = c.in-Some.i in
    let e = c.index.result.now in
    let at = fits-at es _ c.args.place i e (block_of c.args.new) c.deref.ensures.value c.in-Some.ensures c.index.ensures
    c.requires.room in
    let left = c.entry_size.result - c.entry_size-2.result in
    let is = carved-at es c.insert.new.self.items i left e c.args.new at c.in_ok-insert.ensures.items
    (omega (arith, at.room)) in
    let same : left ≡ size (block_of e) - size (block_of c.args.new) = omega arith in
    at_entry es _ c.args.place i e (λ s. blocks_of c.tidy_entries.new.entries.items ≡ filled (block_of c.args.new) s)
    c.deref.ensures.value c.in-Some.ensures c.index.ensures (c.tidy_entries.ensures ∙ ap tidy is.0 ∙ ap (λ k. tidy
    (take i (blocks_of es) ++ block_of c.args.new ∷ Free k ∷ drop (i + 1) (blocks_of es))) same)
