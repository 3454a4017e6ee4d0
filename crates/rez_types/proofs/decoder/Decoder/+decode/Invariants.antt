use Rattle.rez_types.proofs.Cited.{◌≡◌, ◌+◌, ◌-◌, ◌*◌, length, drop, fields_of, blocks_of, end_of, decoding_of, decoded, decoded_fields}
use Rattle.rez_types.proofs.Cited.{decoded_elements, decoded_until}
use Rattle.rez_types.proofs.decoder.Decoder.+decode.Given as goal

abbrev pub decreases-take_block : goal.decreases-take_block
decreases-take_block l = 10 * l.depth

abbrev pub decreases-take_alone : goal.decreases-take_alone
decreases-take_alone l = 10 * l.depth + 8

abbrev pub decreases-take_fields : goal.decreases-take_fields
decreases-take_fields l = 10 * l.depth + 7

abbrev pub decreases-take_field : goal.decreases-take_field
decreases-take_field l = 10 * l.depth + 6

abbrev pub decreases-take_array : goal.decreases-take_array
decreases-take_array l = 10 * l.depth + 5

abbrev pub decreases-take_switch : goal.decreases-take_switch
decreases-take_switch l = 10 * l.depth + 5

abbrev pub decreases-take_elements : goal.decreases-take_elements
decreases-take_elements l = 10 * l.depth + 4

abbrev pub decreases-take_until : goal.decreases-take_until
decreases-take_until l = 10 * l.depth + 4

-- the fields to come lead to what all lead to
abbrev pub invariant-take_fields-loop-field : goal.invariant-take_fields-loop-field
invariant-take_fields-loop-field l =
    decoded_fields (decoded l.depth (blocks_of l.blocks)) (fields_of (drop l.field-index l.fields)) (decoding_of l.self)
    ≡ decoded_fields (decoded l.depth (blocks_of l.blocks)) (fields_of l.fields) (decoding_of l.fn.self)

-- the elements to come lead to what all lead to
abbrev pub invariant-take_elements-loop-i : goal.invariant-take_elements-loop-i
invariant-take_elements-loop-i l =
    decoded_elements (decoded l.depth (blocks_of l.blocks) l.block) (l.count - l.i) (decoding_of l.self)
    ≡ decoded_elements (decoded l.depth (blocks_of l.blocks) l.block) l.count (decoding_of l.fn.self)

abbrev pub invariant-take_until-loop-i : goal.invariant-take_until-loop-i
invariant-take_until-loop-i l =
    decoded_until (decoded l.depth (blocks_of l.blocks) l.block) (end_of l.end) (l.most - l.i) (decoding_of l.self)
    ≡ decoded_until (decoded l.depth (blocks_of l.blocks) l.block) (end_of l.end) (length l.fn.self.rest.now) (decoding_of l.fn.self)
