use Rattle.res_calls.proofs.Cited.{◌≡◌, ◌∙◌, ap, map, option_map, Resources, find, spot_of, is_searched, is_wanted, view_open}
use Rattle.res_calls.proofs.Finding.{found_again, placed_again}
use Rattle.res_calls.proofs.files.Resources.find.Goals as goal

-- what was found, in the open files as they are seen
found_so : (c : goal.After-find_spot)
    → c.find_spot.result ≡ option_map spot_of
    (find (is_searched c.args.within) (is_wanted c.args.wanted) c.args.self.now.chain)
found_so c = c.find_spot.ensures
    ∙ ap (λ xs. option_map spot_of
    (find (is_searched c.args.within) (is_wanted c.args.wanted) (map view_open xs))) c.deref.ensures.value
    ∙ ap (λ (r : Resources). option_map spot_of
    (find (is_searched c.args.within) (is_wanted c.args.wanted) r.chain)) c.self.view_is

pub returns-clause-found : goal.returns-clause-found
returns-clause-found c =
    found_again (is_searched c.args.within) (is_wanted c.args.wanted) c.args.self.now.chain c.find_spot.result
    (found_so c)

pub returns-clause-placed : goal.returns-clause-placed
returns-clause-placed c =
    placed_again (is_searched c.args.within) (is_wanted c.args.wanted) c.args.self.now.chain c.find_spot.result
    (found_so c)
