use Rattle.rez_text.proofs.Cited.{◌≡◌, ◌++◌, length, data_lines, line_count}
use Rattle.rez_text.proofs.write.push_data.Given as goal

-- the lines so far, with those to come, are all
abbrev pub invariant-loop-rest : goal.invariant-loop-rest
invariant-loop-rest l = l.out.items ++ data_lines l.lettering (line_count l.rest) l.rest
    ≡ l.fn.out.items ++ data_lines l.lettering (line_count l.datum) l.datum

abbrev pub decreases-loop-rest : goal.decreases-loop-rest
decreases-loop-rest l = length l.rest
