use Rattle.list_store.proofs.Cited.{◌-◌, length, take, drop, ◌∙◌, ap, arith, Some, take_all, length-drop, blocks_of, run-between}
use Rattle.list_store.proofs.Regroup.Packed.{blocks_of-drop}
use Rattle.list_store.proofs.packing.run_bounds.Goals as goal

pub returns-clause-run : goal.returns-clause-run
returns-clause-run c =
    let es = c.args.entries.now in
    let i = c.in-Some.start in
    let part = take (length es - i) (drop i es) in
    let same = ap blocks_of (take_all (length es - i) (drop i es) (let z = length-drop i es in omega arith))
    ∙ blocks_of-drop i es in
    c.in-Some.ensures.1 ∙ ap Some (run-between i c.run_length.result (blocks_of es) (blocks_of part) same
    c.run_length.ensures.run c.run_length.ensures.above)
