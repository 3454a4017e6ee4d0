use Rattle.res_map.proofs.Cited.{refl, ap, map, is_printed, Map, Reference, is_resource, view_reference}
use Rattle.res_map.proofs.Order.{ordered-set}
use Rattle.res_map.proofs.Rows.{index-set}
use Rattle.res_map.proofs.Handles.{holding-set}
use Rattle.res_map.proofs.res_file.ResFile.set_attrs.Goals as goal

pub invariant_of-self : goal.invariant_of-self
invariant_of-self c = (
  ordered-set _ (λ (r : Reference). refl) _ c.args.self.now
      (map view_reference c.self.inside.refs.items) (map view_reference c.put_attrs.new.refs.items) c.args.index
      (ap (λ (m : Map). m.references) c.self.view_is) c.requires c.put_attrs.ensures c.self.invariant.0,
  index-set is_resource _ (λ r k i. refl) _ c.args.self.now
      (map view_reference c.self.inside.refs.items) (map view_reference c.put_attrs.new.refs.items) c.args.index
      (ap (λ (m : Map). m.references) c.self.view_is) c.requires c.put_attrs.ensures c.self.invariant.1,
  index-set is_printed _ (λ r k i. refl) _ c.args.self.now
      (map view_reference c.self.inside.refs.items) (map view_reference c.put_attrs.new.refs.items) c.args.index
      (ap (λ (m : Map). m.references) c.self.view_is) c.requires c.put_attrs.ensures c.self.invariant.2,
  holding-set _ (λ (r : Reference). refl) _ _ c.args.self.now
      (map view_reference c.self.inside.refs.items) (map view_reference c.put_attrs.new.refs.items) c.args.index
      (ap (λ (m : Map). m.references) c.self.view_is) c.requires c.put_attrs.ensures c.self.invariant.3,
)
