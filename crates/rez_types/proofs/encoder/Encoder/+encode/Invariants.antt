use Rattle.rez_types.proofs.Cited.{◌≡◌, ◌+◌, ◌-◌, ◌*◌, length, drop, fields_of, blocks_of, end_of, encoding_of, encoded, encoded_fields}
use Rattle.rez_types.proofs.Cited.{encoded_elements}
use Rattle.rez_types.proofs.encoder.Encoder.+encode.Given as goal

abbrev pub decreases-write_block : goal.decreases-write_block
decreases-write_block l = 10 * l.depth

abbrev pub decreases-write_alone : goal.decreases-write_alone
decreases-write_alone l = 10 * l.depth + 8

abbrev pub decreases-write_fields : goal.decreases-write_fields
decreases-write_fields l = 10 * l.depth + 7

abbrev pub decreases-write_field : goal.decreases-write_field
decreases-write_field l = 10 * l.depth + 6

abbrev pub decreases-write_array : goal.decreases-write_array
decreases-write_array l = 10 * l.depth + 5

abbrev pub decreases-write_switch : goal.decreases-write_switch
decreases-write_switch l = 10 * l.depth + 5

abbrev pub decreases-write_elements : goal.decreases-write_elements
decreases-write_elements l = 10 * l.depth + 4

abbrev pub decreases-write_element : goal.decreases-write_element
decreases-write_element l = 10 * l.depth + 3

-- the fields to come lead to what all lead to
abbrev pub invariant-write_fields-loop-field : goal.invariant-write_fields-loop-field
invariant-write_fields-loop-field l =
    encoded_fields (encoded l.depth (blocks_of l.blocks)) (fields_of (drop l.field-index l.fields)) (encoding_of l.self)
    ≡ encoded_fields (encoded l.depth (blocks_of l.blocks)) (fields_of l.fields) (encoding_of l.fn.self)

-- the elements to come lead to what all lead to
abbrev pub invariant-write_elements-loop-count : goal.invariant-write_elements-loop-count
invariant-write_elements-loop-count l =
    encoded_elements (encoded l.depth (blocks_of l.blocks) l.block) (end_of l.end) l.count (l.most - l.count) (encoding_of l.self)
    ≡ encoded_elements (encoded l.depth (blocks_of l.blocks) l.block) (end_of l.end) 0 (length l.fn.self.values.now) (encoding_of l.fn.self)
