use Rattle.rez_values.proofs.Cited.{◌∙◌, sym, length, rules, taking_of}
use Rattle.rez_values.proofs.Turns.{element_on, element_fault}
use Rattle.rez_values.proofs.taker.Taker.+take.Goals as goal

-- the elements to come, after one more
pub take_elements-loop-count-preserved : goal.take_elements-loop-count-preserved
take_elements-loop-count-preserved t c =
    sym (
    element_on _ c.loop-count.count (length c.args.self.now.tokens.now) c.loop-count.count (taking_of c.loop-count.self)
    (taking_of c.take_element.new.self) (search rules) (search rules) (search rules)
    ) ∙ c.loop-count.invariant

pub take_elements-returns-in_err-take_element : goal.take_elements-returns-in_err-take_element
take_elements-returns-in_err-take_element t c =
    element_fault _ c.loop-count.count (length c.args.self.now.tokens.now) c.loop-count.count (taking_of c.loop-count.self)
    (taking_of c.take_element.new.self) c.in_err-take_element.field-0.0 c.take_element.result _ _ (search rules) (search rules)
    c.take_element.ensures (search rules) c.loop-count.invariant (search rules)
