use Rattle.res_map.proofs.Cited.{◌∙◌, ap, ◌++◌, ◌∷◌, [], rules}
use Rattle.res_map.proofs.Ends.{last_added, last_ordered, put_seen_last}
use Rattle.res_map.proofs.adding.put_last.Goals as goal

pub returns-clause-added : goal.returns-clause-added
returns-clause-added c = last_added c.args.refs.now.items c.push.new.self.items c.args.new
    c.in_ok-push.ensures.items c.requires

pub returns-clause-ordered : goal.returns-clause-ordered
returns-clause-ordered c = last_ordered c.args.refs.now.items c.push.new.self.items c.args.new
    c.in_ok-push.ensures.items c.requires c.args.kinds.now.items c.push_reserved.new.self.items
    (c.push_reserved.ensures.items ∙ ap (λ l. l ++ c.args.new.kind ∷ []) c.in_ok-reserve.ensures.items)

pub returns-clause-put : goal.returns-clause-put
returns-clause-put c = (
  search rules,
  put_seen_last c.args.refs.now.items c.push.new.self.items c.len-end.result c.args.new
      (search rules) c.in_ok-push.ensures.items,
)
