use Rattle.heap_calls.proofs.Tries.Histories.{one_block_each}
use Rattle.heap_calls.proofs.laws.calls_give_no_handle_two_blocks.Goals as goal

pub returns : goal.returns
returns c = one_block_each
