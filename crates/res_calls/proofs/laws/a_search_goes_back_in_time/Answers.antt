use Rattle.res_calls.proofs.Following.{searched_from}
use Rattle.res_calls.proofs.laws.a_search_goes_back_in_time.Goals as goal

pub returns : goal.returns
returns c = searched_from
