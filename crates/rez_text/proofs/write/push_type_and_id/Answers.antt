use Rattle.rez_text.proofs.Cited.{ℤ, ◌++◌, ap, ◌∙◌, signed_decimal, w16, to_z-of_z}
use Rattle.rez_text.proofs.Appending.{four}
use Rattle.rez_text.proofs.write.push_type_and_id.Goals as goal

pub returns : goal.returns
returns c =
    four _ _ _ _ _ _ _ _ _ c.in_ok-extend_from_slice.ensures.items c.in_ok-push_type.ensures
    c.in_ok-extend_from_slice-2.ensures.items
    (c.in_ok-push_id.ensures
    ∙ ap (λ (z : ℤ). c.extend_from_slice-2.new.self.items ++ signed_decimal z) (to_z-of_z w16 c.args.id c.ranges.id))
