use Rattle.script_text.proofs.Cited.{◌≡◌, true, map, [], ◌∷◌, ◌++◌, sym, ap, subst, ◌∙◌, map-append, input_seen, may_follow, IsKnown}
use Rattle.script_text.proofs.Cited.{known_with}
use Rattle.script_text.proofs.JobKnown.{known_more}
use Rattle.script_text.proofs.inputs.Inputs.push.Goals as goal

pub invariant_of-self-2 : goal.invariant_of-self-2
invariant_of-self-2 c =
    let above = map input_seen c.self.inside.items.items in
    let i = input_seen c.args.input in
    let may : may_follow above i ≡ true = ap (λ inputs. may_follow inputs i) c.self.view_is ∙ c.requires in
    let items : map input_seen c.push.new.self.items ≡ above ++ i ∷ []
    = ap (map input_seen) (c.in-Ok.ensures.items ∙ ap (λ l. l ++ c.args.input ∷ []) c.in_ok-reserve.ensures.items)
    ∙ map-append input_seen c.self.inside.items.items (c.args.input ∷ []) in
    subst (λ known. IsKnown known (map input_seen c.push.new.self.items)) (sym c.in_ok-note.ensures.noted)
    (subst (λ inputs. IsKnown (known_with c.self.inside.owners i) inputs) (sym items)
    (known_more c.self.inside.owners above i c.self.invariant may))
