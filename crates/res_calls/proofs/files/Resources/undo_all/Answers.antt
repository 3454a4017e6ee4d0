use Rattle.res_calls.proofs.Cited.{map, view_file, resources_of}
use Rattle.res_calls.proofs.PuttingBack.{sound_undone}
use Rattle.res_calls.proofs.files.Resources.undo_all.Goals as goal

pub invariant_of-self : goal.invariant_of-self
invariant_of-self c =
    sound_undone (resources_of c.self.inside.files.items c.self.inside.chain.items c.self.inside.current
    c.self.inside.next c.self.inside.loading c.self.inside.purging c.self.inside.error) c.args.undo.items
    (map view_file c.restore_all.new.files.items) c.restore_all.ensures c.self.invariant
