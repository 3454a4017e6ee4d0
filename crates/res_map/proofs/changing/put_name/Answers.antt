use Rattle.res_map.proofs.Cited.{◌∙◌, ap, w16, ℤ, to_z-of_z, renamed, view_reference}
use Rattle.res_map.proofs.Splitting.{set-seen_at}
use Rattle.res_map.proofs.changing.put_name.Goals as goal

pub returns : goal.returns
returns c = set-seen_at view_reference (renamed c.args.id c.args.text.now) c.args.refs.now.items c.args.index
    c.index_mut.result.now c.call.new.r c.requires.inside c.index_mut.ensures.value
    (c.call.ensures ∙ ap (λ (i : ℤ). renamed i c.args.text.now (view_reference c.index_mut.result.now))
    (to_z-of_z w16 c.args.id c.ranges.id))
