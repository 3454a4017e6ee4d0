use Rattle.segments.proofs.Cited.{◌+◌, ◌-◌, arith, sym, ◌∙◌, w16, to_z-of_z, is_of, view_entry, view_entries}
use Rattle.segments.proofs.Marking.{seen, own_next, own_ends}
use Rattle.segments.proofs.entries.are_own.Goals as goal

pub returns-in-Some-2 : goal.returns-in-Some-2
returns-in-Some-2 c =
    let segment = to_z-of_z w16 c.args.segment c.ranges.segment in
    let here = seen c.args.entries.now (c.args.named.first + c.loop-i.i) c.in-Some.entry.now
    c.in-Some.ensures.lookup.3.0 c.in-Some.ensures.lookup.1 in
    own_ends (is_of c.args.segment) (view_entries c.args.entries.now) (c.args.named.first + c.loop-i.i)
    (c.args.named.count - c.loop-i.i) (c.args.named.count - (c.loop-i.i + 1)) (view_entry c.in-Some.entry.now) _ here
    (rw segment at (sym c.is_of.ensures ∙ c.if-is_of.false)) (omega arith) (rw segment at c.loop-i.invariant)

pub loop-i-preserved : goal.loop-i-preserved
loop-i-preserved c =
    let segment = to_z-of_z w16 c.args.segment c.ranges.segment in
    let here = seen c.args.entries.now (c.args.named.first + c.loop-i.i) c.in-Some.entry.now
    c.in-Some.ensures.lookup.3.0 c.in-Some.ensures.lookup.1 in
    rw segment (own_next (is_of c.args.segment) (view_entries c.args.entries.now) (c.args.named.first + c.loop-i.i)
    (c.args.named.first + (c.loop-i.i + 1)) (c.args.named.count - c.loop-i.i) (c.args.named.count - (c.loop-i.i + 1))
    (view_entry c.in-Some.entry.now) here (rw segment at (sym c.is_of.ensures ∙ c.if-is_of.true)) (omega arith)
    (omega arith)
    ∙ (rw segment at c.loop-i.invariant))
