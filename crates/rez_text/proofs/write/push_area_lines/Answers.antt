use Rattle.rez_text.proofs.Cited.{refl, area_line, area_lines}
use Rattle.rez_text.proofs.Appending.{one_line}
use Rattle.rez_text.proofs.write.push_area_lines.Goals as goal

pub loop-rest-preserved : goal.loop-rest-preserved
loop-rest-preserved c =
    one_line area_line area_lines (λ _ _. refl) c.loop-rest.rest.now c.first_line.result.0.now c.first_line.result.1.now
    c.loop-rest.out.items c.push_area_line.new.out.items _ c.first_line.ensures.line c.first_line.ensures.rest
    c.first_line.ensures.count c.in_ok-push_area_line.ensures c.loop-rest.invariant
