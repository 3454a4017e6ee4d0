use Rattle.rez_printing.proofs.Cited.{◌≡◌, ◌+◌, ◌-◌, ◌*◌, length, drop, fields_of, blocks_of, showing_of, shown_block, shown_fields}
use Rattle.rez_printing.proofs.Cited.{shown_elements}
use Rattle.rez_printing.proofs.printer.Printer.+print.Given as goal

abbrev pub decreases-print_block : goal.decreases-print_block
decreases-print_block l = 10 * l.depth

abbrev pub decreases-print_fields : goal.decreases-print_fields
decreases-print_fields l = 10 * l.depth + 7

abbrev pub decreases-print_field : goal.decreases-print_field
decreases-print_field l = 10 * l.depth + 6

abbrev pub decreases-print_array : goal.decreases-print_array
decreases-print_array l = 10 * l.depth + 5

abbrev pub decreases-print_switch : goal.decreases-print_switch
decreases-print_switch l = 10 * l.depth + 5

abbrev pub decreases-print_elements : goal.decreases-print_elements
decreases-print_elements l = 10 * l.depth + 4

-- the fields to come lead to what all lead to
abbrev pub invariant-print_fields-loop-field : goal.invariant-print_fields-loop-field
invariant-print_fields-loop-field l =
    shown_fields (shown_block l.depth (blocks_of l.blocks)) l.layout (fields_of (drop l.field-index l.fields)) (showing_of l.self)
    ≡ shown_fields (shown_block l.depth (blocks_of l.blocks)) l.layout (fields_of l.fields) (showing_of l.fn.self)

-- the elements to come lead to what all lead to
abbrev pub invariant-print_elements-loop-count : goal.invariant-print_elements-loop-count
invariant-print_elements-loop-count l =
    shown_elements (shown_block l.depth (blocks_of l.blocks) l.block) l.layout l.count (l.most - l.count) (showing_of l.self)
    ≡ shown_elements (shown_block l.depth (blocks_of l.blocks) l.block) l.layout 0 (length l.fn.self.values.now) (showing_of l.fn.self)
