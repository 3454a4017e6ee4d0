use Rattle.rez_text.proofs.Cited.{refl, data_line, data_lines}
use Rattle.rez_text.proofs.Appending.{one_line}
use Rattle.rez_text.proofs.write.push_data.Goals as goal

pub loop-rest-preserved : goal.loop-rest-preserved
loop-rest-preserved c =
    one_line (data_line c.args.lettering) (data_lines c.args.lettering) (λ _ _. refl) c.loop-rest.rest.now c.first_line.result.0.now
    c.first_line.result.1.now c.loop-rest.out.items c.push_data_line.new.out.items _ c.first_line.ensures.line c.first_line.ensures.rest
    c.first_line.ensures.count c.in_ok-push_data_line.ensures c.loop-rest.invariant
