use Rattle.res_calls.proofs.Cited.{Option, Replaced}
use Rattle.res_calls.proofs.WritingAnew.{update_untouched, update_refused, update_done, reads_again, untouched_reads}
use Rattle.res_calls.proofs.WritingAnew.{long_enough}
use Rattle.res_calls.proofs.updating.renew_at.Goals as goal

pub returns-then-not-index-clause-answer : goal.returns-then-not-index-clause-answer
returns-then-not-index-clause-answer g c =
    update_untouched c.args.heap.now.memory.heap c.args.files.now.items c.args.chain.now.items c.args.at
    c.index.result.now
    c.requires c.index.ensures c.if-not-index.true

pub returns-then-not-index-clause-read_again : goal.returns-then-not-index-clause-read_again
returns-then-not-index-clause-read_again g c =
    untouched_reads c.args.heap.now.memory.heap c.args.chain.now.items c.args.at c.index.result.now
    c.requires c.index.ensures c.if-not-index.true

pub returns-in-Err-clause-answer : goal.returns-in-Err-clause-answer
returns-in-Err-clause-answer g c =
    update_refused (Option Replaced) c.args.heap.now.memory.heap c.args.files.now.items c.args.chain.now.items c.args.at
    c.index.result.now
    c.index-2.result.now c.in-Err.refusal c.requires c.index.ensures c.index-2.ensures c.if-not-index.false
    c.in-Err.ensures

pub carry_out-requires : goal.carry_out-requires
carry_out-requires g c =
    long_enough c.args.heap.now.memory.heap c.args.chain.now.items c.args.at c.index-2.result.now c.index_mut.result.now
    c.in-Ok.anew c.requires c.index-2.ensures c.index_mut.ensures.value c.in-Ok.ensures

pub returns-clause-answer : goal.returns-clause-answer
returns-clause-answer g c =
    update_done c.args.heap.now.memory.heap c.args.files.now.items c.carry_out.new.files.items c.args.chain.now.items
    c.args.at c.index.result.now c.index-2.result.now c.index_mut.result.now c.carry_out.new.file c.in-Ok.anew
    c.requires c.index.ensures c.index-2.ensures c.index_mut.ensures.value c.if-not-index.false c.in-Ok.ensures
    c.carry_out.ensures.files c.carry_out.ensures.file

pub returns-clause-read_again : goal.returns-clause-read_again
returns-clause-read_again g c =
    reads_again c.args.heap.now.memory.heap c.args.chain.now.items c.args.at c.index-2.result.now c.in-Ok.anew
    c.requires
    c.index-2.ensures c.in-Ok.ensures
