use Rattle.macmem_c.proofs.Cited.{on_ok_weaker}
use Rattle.macmem_c.proofs.linted.add_fault.Goals as goal

pub returns : goal.returns
returns c = on_ok_weaker c.add_words.result (λ h. (_, h)) c.add_words.ensures
