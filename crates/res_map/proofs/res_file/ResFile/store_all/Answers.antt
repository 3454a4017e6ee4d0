use Rattle.res_map.proofs.Cited.{refl, is_resource, is_printed}
use Rattle.res_map.proofs.Contents.{ordered_anew}
use Rattle.res_map.proofs.Rows.{index-anew}
use Rattle.res_map.proofs.Handles.{holding-anew}
use Rattle.res_map.proofs.res_file.ResFile.store_all.Goals as goal

pub invariant_of-self : goal.invariant_of-self
invariant_of-self c = (
  ordered_anew _ _ _ _ c.self.invariant.0 c.put_all.ensures,
  index-anew is_resource (λ k i bytes r. refl) _ _ _ _ c.self.invariant.1 c.put_all.ensures,
  index-anew is_printed (λ k i bytes r. refl) _ _ _ _ c.self.invariant.2 c.put_all.ensures,
  holding-anew _ _ _ _ _ c.self.invariant.3 c.put_all.ensures,
)
