use Rattle.res_calls.proofs.Cited.{◌≤◌, ap, length, Reference, with_datum, view_open}
use Rattle.memory_windows.specs.Writes.{written}
use Rattle.res_calls.proofs.Standing.{inside_map, inside_some, touched_as, reference_put}
use Rattle.res_calls.proofs.find.write.Goals as goal

pub write_in-requires-clause-inside : goal.write_in-requires-clause-inside
write_in-requires-clause-inside c =
    inside_map view_open c.args.files.now.items c.args.at c.index_mut.result.now c.index_mut.ensures.value
    c.requires.there

pub write_in-requires-clause-offset : goal.write_in-requires-clause-offset
write_in-requires-clause-offset c =
    inside_some (λ (r : Reference). c.args.from ≤ length r.stored.datum) view_open c.args.files.now.items c.args.at
    c.index_mut.result.now c.index_mut.ensures.value c.requires.there c.requires.offset

pub returns-clause-restored : goal.returns-clause-restored
returns-clause-restored c =
    reference_put view_open c.args.files.now.items c.args.at c.index_mut.result.now _ touched_as
    (λ (r : Reference). with_datum (written c.args.from c.args.bytes.now r.stored.datum) r) c.write_in.new.file.map
    c.index_mut.ensures.value c.requires.there c.in_ok-write_in.ensures.map (ap view_open c.in_ok-write_in.ensures.touched)
