use Rattle.res_calls.proofs.Cited.{◌≡◌, Bool, true, false, List, map, sym, ap, refl, ◌∙◌, take-map, Gone, PurgesValue, heard, view_purged}
use Rattle.res_calls.proofs.purging.Purges.into_told.Goals as goal

-- while it is on, all is heard
all_heard : (on : Bool) (gone : List Gone) → on ≡ true → gone ≡ heard on gone
all_heard true gone h = refl
all_heard false gone h = absurd (cc)

pub returns : goal.returns
returns c =
    ap (map view_purged) c.truncate.ensures.items
    ∙ sym (take-map view_purged c.self.inside.committed c.self.inside.kept.items)
    ∙ all_heard c.self.inside.on _ c.if-not-on.false
    ∙ ap (λ (p : PurgesValue). heard p.on p.told) c.self.view_is
