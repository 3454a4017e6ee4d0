use Rattle.res_map.proofs.Cited.{rules}
use Rattle.res_map.proofs.Ends.{out_seen, out_gone, out_left}
use Rattle.res_map.proofs.adding.take_out.Goals as goal

pub returns-then-is_none-clause-references : goal.returns-then-is_none-clause-references
returns-then-is_none-clause-references c =
    out_seen c.args.refs.now.items c.remove-gone.new.self.items c.args.index c.remove-gone.ensures.items

pub returns-then-is_none-clause-ordered : goal.returns-then-is_none-clause-ordered
returns-then-is_none-clause-ordered c = out_gone c.args.refs.now.items c.remove-gone.new.self.items c.args.index
    c.remove-gone.result c.end_of.result c.requires c.remove-gone.ensures.value c.remove-gone.ensures.items
    (search rules) (search rules) c.args.kinds.now.items c.forget.new.kinds.items c.forget.ensures

pub returns-clause-references : goal.returns-clause-references
returns-clause-references c =
    out_seen c.args.refs.now.items c.remove-gone.new.self.items c.args.index c.remove-gone.ensures.items

pub returns-clause-ordered : goal.returns-clause-ordered
returns-clause-ordered c = out_left c.args.refs.now.items c.remove-gone.new.self.items c.args.index
    c.remove-gone.result c.end_of.result c.requires c.remove-gone.ensures.value c.remove-gone.ensures.items
    (search rules) (search rules) c.args.kinds.now.items
