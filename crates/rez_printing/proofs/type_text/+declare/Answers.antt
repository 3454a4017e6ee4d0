use Rattle.rez_printing.proofs.Cited.{◌≡◌, ◌<◌, ◌≤◌, length, get_or, append-nil, refl, rules, arith}
use Rattle.rez_printing.proofs.Onward.{block_there, block_absent}
use Rattle.rez_printing.proofs.type_text.+declare.Goals as goal

pub push_block-returns-in-Some : goal.push_block-returns-in-Some
push_block-returns-in-Some t c =
    let deep : 0 < c.args.depth = omega arith in
    let inside : c.args.block < length c.args.blocks.now = search rules in
    let here : c.in-Some.found.now ≡ get_or c.args.blocks.now c.args.block c.in-Some.found.now = search rules in
    let pushed = rw c.as_slice.ensures.value at c.push_fields.ensures in
    rw (block_there c.args.depth c.args.blocks.now c.args.block c.in-Some.found.now deep inside here) pushed

pub push_block-returns-in-None : goal.push_block-returns-in-None
push_block-returns-in-None t c =
    let deep : 0 < c.args.depth = omega arith in
    let past : length c.args.blocks.now ≤ c.args.block = search rules in
    rw (block_absent c.args.depth c.args.blocks.now c.args.block deep past, append-nil) refl
