use Rattle.segments.proofs.Cited.{◌+◌, ◌-◌, arith, ap, sym, ◌∙◌, loaded_from, view_entries}
use Rattle.segments.proofs.Marking.{loaded_next, loaded_ends}
use Rattle.segments.proofs.entries.load_entries.Goals as goal

pub loop-i-preserved : goal.loop-i-preserved
loop-i-preserved c =
    let next = c.args.named.first + (c.loop-i.i + 1) in
    let left = c.args.named.count - (c.loop-i.i + 1) in
    ap (loaded_from next left) c.load_entry.ensures
    ∙ loaded_next (view_entries c.loop-i.entries) (c.args.named.first + c.loop-i.i) next
    (c.args.named.count - c.loop-i.i) left (omega arith) (omega arith) ∙ c.loop-i.invariant

pub returns : goal.returns
returns c = sym (loaded_ends (view_entries c.loop-i.entries) (c.args.named.first + c.loop-i.i)
    (c.args.named.count - c.loop-i.i) (omega arith)) ∙ c.loop-i.invariant
