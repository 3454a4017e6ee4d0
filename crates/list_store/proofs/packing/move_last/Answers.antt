use Rattle.list_store.proofs.Cited.{◌-◌, length, arith, put_mid-rotated}
use Rattle.list_store.specs.declared.entries.StoredBlock.TheVariants as entry
use Rattle.list_store.proofs.Regroup.Packed.{blocks-last}
use Rattle.list_store.proofs.packing.move_last.Goals as goal

pub returns : goal.returns
returns c =
    let es = c.args.entries.now in
    let i = c.args.i in
    let n = length es - i in
    let e = entry.Masters in
    blocks-last es _ i e c.requires (put_mid-rotated i n es c.rotate_left.new.self e c.requires (omega arith)
    c.rotate_left.ensures.after)
