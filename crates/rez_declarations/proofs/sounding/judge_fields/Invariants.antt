use Rattle.rez_declarations.proofs.Cited.{◌≡◌, length, blocks_of, fields_of, no_fields, fields_judged}
use Rattle.rez_declarations.proofs.sounding.judge_fields.Given as goal

-- the fields to come are judged as all are
abbrev pub invariant-loop-rest : goal.invariant-loop-rest
invariant-loop-rest l = fields_judged (blocks_of l.blocks) l.shapes (fields_of l.rest) l.shape
    ≡ fields_judged (blocks_of l.blocks) l.shapes (fields_of l.fields) no_fields

abbrev pub decreases-loop-rest : goal.decreases-loop-rest
decreases-loop-rest l = length l.rest
