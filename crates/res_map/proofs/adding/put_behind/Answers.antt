use Rattle.res_map.proofs.Ends.{behind_added, behind_ordered, put_seen}
use Rattle.res_map.proofs.adding.put_behind.Goals as goal

pub returns-clause-added : goal.returns-clause-added
returns-clause-added c = behind_added c.args.refs.now.items c.insert.new.self.items c.args.end c.args.new
    c.in_ok-insert.ensures.items c.requires.end

pub returns-clause-ordered : goal.returns-clause-ordered
returns-clause-ordered c = behind_ordered c.args.refs.now.items c.insert.new.self.items c.args.end c.args.new
    c.in_ok-insert.ensures.items c.requires.end

pub returns-clause-put : goal.returns-clause-put
returns-clause-put c = (
  c.requires.inside,
  put_seen c.args.refs.now.items c.insert.new.self.items c.args.end c.args.new
      c.in_ok-insert.ensures.items,
)
