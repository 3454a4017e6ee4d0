use Rattle.rez_values.proofs.Cited.{◌≡◌, ◌+◌, ◌-◌, ◌*◌, length, drop, fields_of, blocks_of, taking_of, block_taken, fields_taken}
use Rattle.rez_values.proofs.Cited.{elements_taken}
use Rattle.rez_values.proofs.taker.Taker.+take.Given as goal

abbrev pub decreases-take_block : goal.decreases-take_block
decreases-take_block l = 10 * l.depth

abbrev pub decreases-take_alone : goal.decreases-take_alone
decreases-take_alone l = 10 * l.depth + 8

abbrev pub decreases-take_fields : goal.decreases-take_fields
decreases-take_fields l = 10 * l.depth + 7

abbrev pub decreases-take_field : goal.decreases-take_field
decreases-take_field l = 10 * l.depth + 6

abbrev pub decreases-take_array : goal.decreases-take_array
decreases-take_array l = 10 * l.depth + 5

abbrev pub decreases-take_switch : goal.decreases-take_switch
decreases-take_switch l = 10 * l.depth + 5

abbrev pub decreases-take_case : goal.decreases-take_case
decreases-take_case l = 10 * l.depth + 4

abbrev pub decreases-take_elements : goal.decreases-take_elements
decreases-take_elements l = 10 * l.depth + 4

abbrev pub decreases-take_element : goal.decreases-take_element
decreases-take_element l = 10 * l.depth + 3

-- the fields to come lead to what all lead to
abbrev pub invariant-take_fields-loop-field : goal.invariant-take_fields-loop-field
invariant-take_fields-loop-field l =
    fields_taken (block_taken l.depth (blocks_of l.blocks)) (fields_of (drop l.field-index l.fields)) (taking_of l.self)
    ≡ fields_taken (block_taken l.depth (blocks_of l.blocks)) (fields_of l.fields) (taking_of l.fn.self)

-- the elements to come lead to what all lead to
abbrev pub invariant-take_elements-loop-count : goal.invariant-take_elements-loop-count
invariant-take_elements-loop-count l =
    elements_taken (block_taken l.depth (blocks_of l.blocks) l.block) l.count (l.most - l.count) (taking_of l.self)
    ≡ elements_taken (block_taken l.depth (blocks_of l.blocks) l.block) 0 (length l.fn.self.tokens.now) (taking_of l.fn.self)
