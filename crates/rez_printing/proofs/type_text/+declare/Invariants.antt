use Rattle.rez_printing.proofs.Cited.{◌≡◌, ◌+◌, ◌*◌, ◌++◌, drop, map, fields_of, blocks_of, case_of, block_text, cases_text, fields_from}
use Rattle.rez_printing.proofs.type_text.+declare.Given as goal

abbrev pub decreases-push_block : goal.decreases-push_block
decreases-push_block l = 10 * l.depth

abbrev pub decreases-push_fields : goal.decreases-push_fields
decreases-push_fields l = 10 * l.depth + 7

abbrev pub decreases-push_field : goal.decreases-push_field
decreases-push_field l = 10 * l.depth + 6

abbrev pub decreases-push_ended : goal.decreases-push_ended
decreases-push_ended l = 10 * l.depth + 5

abbrev pub decreases-push_whole : goal.decreases-push_whole
decreases-push_whole l = 10 * l.depth + 4

abbrev pub decreases-push_array : goal.decreases-push_array
decreases-push_array l = 10 * l.depth + 3

abbrev pub decreases-push_switch : goal.decreases-push_switch
decreases-push_switch l = 10 * l.depth + 3

abbrev pub decreases-push_cases : goal.decreases-push_cases
decreases-push_cases l = 10 * l.depth + 2

-- the cases so far, with those to come, are all
abbrev pub invariant-push_cases-loop-case : goal.invariant-push_cases-loop-case
invariant-push_cases-loop-case l =
    l.out.items ++ cases_text (block_text l.depth (blocks_of l.blocks)) (map case_of (drop l.case-index l.cases))
    ≡ l.fn.out.items ++ cases_text (block_text l.depth (blocks_of l.blocks)) (map case_of l.cases)

-- the fields so far, with those to come, are all
abbrev pub invariant-push_fields-loop-field : goal.invariant-push_fields-loop-field
invariant-push_fields-loop-field l =
    l.out.items
    ++ fields_from (block_text l.depth (blocks_of l.blocks)) (fields_of l.fields) l.counts (fields_of (drop l.field-index l.fields))
    ≡ l.fn.out.items ++ fields_from (block_text l.depth (blocks_of l.blocks)) (fields_of l.fields) 0 (fields_of l.fields)
