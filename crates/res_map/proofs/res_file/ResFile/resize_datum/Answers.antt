use Rattle.res_map.proofs.Cited.{vec_capacity}
use Rattle.res_map.proofs.res_file.ResFile.resize_datum.Goals as goal

pub invariant_of-self : goal.invariant_of-self
invariant_of-self c = (
  c.put_size.ensures.ordered c.self.inside.kinds.items c.self.invariant.0,
  c.put_size.ensures.indexed c.self.inside.index.items c.self.invariant.1,
  c.put_size.ensures.named c.self.inside.names.items c.self.invariant.2,
  c.put_size.ensures.held c.self.inside.held.items (vec_capacity c.self.inside.held) c.self.invariant.3,
)
