use Rattle.heap_calls.proofs.Cited.{◌≡◌, ◌+◌, ◌++◌, ◌∷◌, length, take, drop, Ok, Err, nat_le, ◌&&◌, err_from_is_err_and, IfSome, content_of}
use Rattle.heap_calls.proofs.Cited.{with_content, spot_at, written, block_named, state_of, FindsHeld}
use Rattle.heap_calls.proofs.BlockMoves.{first-refused, second-refused, move-outside, move-done, both-within, one-past}
use Rattle.heap_calls.proofs.Numbering.Answering.{at_place}
use Rattle.heap_calls.proofs.Numbering.Changing.{agrees-same, nonrelocatable-at}
use Rattle.heap_calls.proofs.Numbering.Pointing.{found_by}
use Rattle.heap_calls.proofs.Numbering.Reserved.{fits-same}
use Rattle.heap_calls.proofs.Numbering.Memories.{memory_as}
use Rattle.heap_calls.proofs.Room.Staying.{nonrelocatable-spot, alike-content, nonrelocatable-same, nonrelocatable-then}
use Rattle.heap_calls.proofs.heap.Heap.move_bytes.Given.{Over}
use Rattle.heap_calls.proofs.heap.Heap.move_bytes.Goals.{In_ok-source, In_ok-place}
use Rattle.heap_calls.proofs.heap.Heap.move_bytes.Goals as goal

-- the block of the first name
source : (g : Over) (c : In_ok-source g) → FindsHeld (block_named c.args.from (state_of
    (g.S.BlockStore.zone c.self.inside.store) (g.S.BlockStore.rest c.self.inside.store).slots c.self.inside.names.items))
    (g.S.BlockStore.zone c.self.inside.store) c.self.inside.names.items (Ok c.in_ok-source.source)
source g c =
    let a = c.self.inside in
    found_by (block_named c.args.from) (g.S.BlockStore.zone a.store) (g.S.BlockStore.rest a.store).slots a.names.items _
    (Ok c.in_ok-source.source) c.deref.ensures.value c.in_ok-source.ensures

-- and that of the second
place : (g : Over) (c : In_ok-place g) → FindsHeld (block_named c.args.to (state_of
    (g.S.BlockStore.zone c.self.inside.store) (g.S.BlockStore.rest c.self.inside.store).slots c.self.inside.names.items))
    (g.S.BlockStore.zone c.self.inside.store) c.self.inside.names.items (Ok c.in_ok-place.place)
place g c =
    let a = c.self.inside in
    found_by (block_named c.args.to) (g.S.BlockStore.zone a.store) (g.S.BlockStore.rest a.store).slots a.names.items _
    (Ok c.in_ok-place.place) c.deref-2.ensures.value c.in_ok-place.ensures

pub same-self : goal.same-self
same-self g c = fits-same _ _

pub same-self-in_err-place : goal.same-self-in_err-place
same-self-in_err-place g c = fits-same _ _

pub same-self-then-not-are_within : goal.same-self-then-not-are_within
same-self-then-not-are_within g c = fits-same _ _

pub returns-in_err-source-clause-answer : goal.returns-in_err-source-clause-answer
returns-in_err-source-clause-answer g c =
    let p = err_from_is_err_and c.from_residual.result c.from_residual.ensures.1 in
    let a = c.self.inside in
    let found = found_by (block_named c.args.from) (g.S.BlockStore.zone a.store) (g.S.BlockStore.rest a.store).slots
    a.names.items _ (Err c.in_err-source.field-0.0) c.deref.ensures.value c.in_err-source.ensures in
    rw (p.1, p.2) (first-refused c.args.self.now.memory (g.S.BlockStore.zone a.store) (g.S.BlockStore.rest a.store)
    a.names.items a.log (memory_as c.self.view_is) c.args.from c.args.to c.args.start c.args.offset c.args.count
    c.in_err-source.field-0.0 found)

pub returns-in_err-place-clause-answer : goal.returns-in_err-place-clause-answer
returns-in_err-place-clause-answer g c =
    let p = err_from_is_err_and c.from_residual-in_err-place.result c.from_residual-in_err-place.ensures.1 in
    let a = c.self.inside in
    let first = source g (goal.at.returns-in_err-place-clause-answer g c).In_ok-source in
    let found = found_by (block_named c.args.to) (g.S.BlockStore.zone a.store) (g.S.BlockStore.rest a.store).slots
    a.names.items _ (Err c.in_err-place.field-0.0) c.deref-2.ensures.value c.in_err-place.ensures in
    rw (p.1, p.2) (second-refused c.args.self.now.memory (g.S.BlockStore.zone a.store) (g.S.BlockStore.rest a.store)
    a.names.items a.log (memory_as c.self.view_is) c.args.from c.args.to c.args.start c.args.offset c.args.count
    first.0 first.1 first.2 c.in_err-place.field-0.0 found)

pub returns-then-not-are_within-clause-answer : goal.returns-then-not-are_within-clause-answer
returns-then-not-are_within-clause-answer g c =
    let a = c.self.inside in
    let zone = g.S.BlockStore.zone a.store in
    let first = source g (goal.at.returns-then-not-are_within-clause-answer g c).In_ok-source in
    let second = place g (goal.at.returns-then-not-are_within-clause-answer g c).In_ok-place in
    let within = at_place c.in_ok-place.place zone second.1 (λ t. c.are_within.result
    ≡ (nat_le (c.args.start + c.args.count) (length (content_of first.1.here))
    && nat_le (c.args.offset + c.args.count) (length (content_of t.here)))) second.3
    (at_place c.in_ok-source.source zone first.1 (λ s. IfSome (spot_at c.in_ok-place.place zone) (λ t. c.are_within.result
    ≡ (nat_le (c.args.start + c.args.count) (length (content_of s.here))
    && nat_le (c.args.offset + c.args.count) (length (content_of t.here))))) first.3 c.are_within.ensures) in
    move-outside c.args.self.now.memory zone (g.S.BlockStore.rest a.store) a.names.items a.log (memory_as c.self.view_is)
    c.args.from c.args.to c.args.start c.args.offset c.args.count first.0 first.1 first.2 second.0 second.1 second.2
    (one-past (c.args.start + c.args.count) (length (content_of first.1.here)) (c.args.offset + c.args.count)
    (length (content_of second.1.here)) c.are_within.result within c.if-not-are_within.true)

pub invariant_of-self : goal.invariant_of-self
invariant_of-self g c =
    let a = c.self.inside in
    let zone = g.S.BlockStore.zone a.store in
    let rest = g.S.BlockStore.rest a.store in
    let zone' = g.S.BlockStore.zone c.copy.new.self in
    let first = source g (goal.at.invariant_of-self g c).In_ok-source in
    let second = place g (goal.at.invariant_of-self g c).In_ok-place in
    let s = second.1 in
    let content = written c.args.offset (take c.args.count (drop c.args.start (content_of first.1.here)))
    (content_of s.here) in
    let now = s.below ++ with_content content s.here ∷ s.above in
    let done = at_place c.in_ok-place.place zone s (λ t. zone' ≡ t.below ++ with_content (written c.args.offset
    (take c.args.count (drop c.args.start (content_of first.1.here))) (content_of t.here)) t.here ∷ t.above) second.3
    (at_place c.in_ok-source.source zone first.1 (λ f. IfSome (spot_at c.in_ok-place.place zone) (λ t. zone' ≡ t.below
    ++ with_content (written c.args.offset (take c.args.count (drop c.args.start (content_of f.here)))
    (content_of t.here)) t.here ∷ t.above)) first.3 c.copy.ensures.zone) in
    agrees-same zone zone' rest (g.S.BlockStore.rest c.copy.new.self) a.names.items c.self.invariant
    (nonrelocatable-then zone now zone' (nonrelocatable-at c.in_ok-place.place zone now s second.3
    (nonrelocatable-spot s.below s.above s.here (with_content content s.here) (alike-content content s.here)))
    (nonrelocatable-same now zone' done)) c.copy.ensures.rest

pub returns-clause-answer : goal.returns-clause-answer
returns-clause-answer g c =
    let a = c.self.inside in
    let zone = g.S.BlockStore.zone a.store in
    let rest = g.S.BlockStore.rest a.store in
    let zone' = g.S.BlockStore.zone c.copy.new.self in
    let first = source g (goal.at.returns-clause-answer g c).In_ok-source in
    let second = place g (goal.at.returns-clause-answer g c).In_ok-place in
    let within = at_place c.in_ok-place.place zone second.1 (λ t. c.are_within.result
    ≡ (nat_le (c.args.start + c.args.count) (length (content_of first.1.here))
    && nat_le (c.args.offset + c.args.count) (length (content_of t.here)))) second.3
    (at_place c.in_ok-source.source zone first.1 (λ s. IfSome (spot_at c.in_ok-place.place zone) (λ t. c.are_within.result
    ≡ (nat_le (c.args.start + c.args.count) (length (content_of s.here))
    && nat_le (c.args.offset + c.args.count) (length (content_of t.here))))) first.3 c.are_within.ensures) in
    let fit = both-within (c.args.start + c.args.count) (length (content_of first.1.here)) (c.args.offset + c.args.count)
    (length (content_of second.1.here)) c.are_within.result within c.if-not-are_within.false in
    let done = at_place c.in_ok-place.place zone second.1 (λ t. zone' ≡ t.below ++ with_content (written c.args.offset
    (take c.args.count (drop c.args.start (content_of first.1.here))) (content_of t.here)) t.here ∷ t.above) second.3
    (at_place c.in_ok-source.source zone first.1 (λ f. IfSome (spot_at c.in_ok-place.place zone) (λ t. zone' ≡ t.below
    ++ with_content (written c.args.offset (take c.args.count (drop c.args.start (content_of f.here)))
    (content_of t.here)) t.here ∷ t.above)) first.3 c.copy.ensures.zone) in
    move-done c.args.self.now.memory zone rest a.names.items a.log (memory_as c.self.view_is) c.args.from c.args.to
    c.args.start c.args.offset c.args.count first.0 first.1 first.2 second.0 second.1 second.2 zone'
    (g.S.BlockStore.rest c.copy.new.self) fit.0 fit.1 c.copy.ensures.rest done
