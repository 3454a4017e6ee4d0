use Rattle.rez_printing.proofs.Cited.{◌≡◌, ◌<◌, ◌++◌, rules, row_text}
use Rattle.rez_printing.proofs.Onward.{row_more}
use Rattle.rez_printing.proofs.pieces.push_more_rows.Goals as goal

pub loop-i-preserved : goal.loop-i-preserved
loop-i-preserved c =
    let less : c.loop-i.i < c.args.count = search rules in
    let apart : c.extend_from_slice.new.self.items ≡ c.loop-i.out.items ++ c.args.before.now = search rules in
    let shown : c.push_row.new.out.items ≡ c.extend_from_slice.new.self.items ++ row_text c.first_row.result.0.now = search rules in
    row_more c.args.before.now c.loop-i.out.items c.extend_from_slice.new.self.items c.push_row.new.out.items
    c.first_row.result.0.now c.loop-i.rest.now c.first_row.result.1.now _ c.args.row c.args.count c.loop-i.i less apart shown
    c.first_row.ensures.first c.first_row.ensures.rest c.loop-i.invariant
