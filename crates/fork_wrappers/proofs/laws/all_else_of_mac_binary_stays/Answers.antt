use Rattle.fork_wrappers.proofs.Keeps.{rest_kept}
use Rattle.fork_wrappers.proofs.laws.all_else_of_mac_binary_stays.Goals as goal

pub returns-clause-head : goal.returns-clause-head
returns-clause-head c = λ file fork new is h. (rest_kept file fork new is h).head

pub returns-clause-fields : goal.returns-clause-fields
returns-clause-fields c = λ file fork new is h. (rest_kept file fork new is h).fields

pub returns-clause-contents : goal.returns-clause-contents
returns-clause-contents c = λ file fork new is h. (rest_kept file fork new is h).contents

pub returns-clause-rest : goal.returns-clause-rest
returns-clause-rest c = λ file fork new is h. (rest_kept file fork new is h).rest
