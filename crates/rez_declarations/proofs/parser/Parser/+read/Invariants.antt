use Rattle.rez_declarations.proofs.Cited.{◌≡◌, ◌+◌, ◌-◌, ◌*◌, length, draft_of, parsing_of, cases_of, fields_in, fields_read, cases_read}
use Rattle.rez_declarations.proofs.parser.Parser.+read.Given as goal

abbrev pub decreases-read_fields : goal.decreases-read_fields
decreases-read_fields l = 10 * l.depth

abbrev pub decreases-read_each : goal.decreases-read_each
decreases-read_each l = 10 * l.depth + 9

abbrev pub decreases-read_field : goal.decreases-read_field
decreases-read_field l = 10 * l.depth + 8

abbrev pub decreases-read_kind : goal.decreases-read_kind
decreases-read_kind l = 10 * l.depth + 7

abbrev pub decreases-read_array : goal.decreases-read_array
decreases-read_array l = 10 * l.depth + 6

abbrev pub decreases-read_switch : goal.decreases-read_switch
decreases-read_switch l = 10 * l.depth + 6

abbrev pub decreases-read_cases : goal.decreases-read_cases
decreases-read_cases l = 10 * l.depth + 5

abbrev pub decreases-read_case : goal.decreases-read_case
decreases-read_case l = 10 * l.depth + 4

abbrev pub decreases-read_braces : goal.decreases-read_braces
decreases-read_braces l = 10 * l.depth + 5

-- the fields to come lead to what all lead to
abbrev pub invariant-read_each-loop-i : goal.invariant-read_each-loop-i
invariant-read_each-loop-i l =
    fields_read (fields_in l.depth) (l.most - l.i) l.is_case (draft_of l.draft) (parsing_of l.self)
    ≡ fields_read (fields_in l.depth) (length (parsing_of l.fn.self).tokens) l.is_case (draft_of l.fn.draft) (parsing_of l.fn.self)

-- the cases to come lead to what all lead to
abbrev pub invariant-read_cases-loop-i : goal.invariant-read_cases-loop-i
invariant-read_cases-loop-i l = cases_read (fields_in l.depth) (l.most - l.i) (cases_of l.switch) (parsing_of l.self)
    ≡ cases_read (fields_in l.depth) (length (parsing_of l.fn.self).tokens) (cases_of l.fn.switch) (parsing_of l.fn.self)
