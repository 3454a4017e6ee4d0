use Rattle.res_calls.proofs.Cited.{◌≡◌, true, map, take, sym, ap, subst, arith, ◌∙◌, take-map, take-take, PurgesValue, view_purged}
use Rattle.res_calls.proofs.purging.PurgesPurgeSink.forget.Goals as goal

pub returns-clause-told : goal.returns-clause-told
returns-clause-told c gone told on =
    ap (λ l. take c.self.inside.committed (map view_purged l)) c.truncate.ensures.items
    ∙ ap (take c.self.inside.committed) (sym (take-map view_purged c.self.inside.committed c.self.inside.kept.items))
    ∙ take-take c.self.inside.committed c.self.inside.committed (map view_purged c.self.inside.kept.items) (omega arith)
    ∙ subst (λ (p : PurgesValue). p.on ≡ true → p.told ≡ gone) (sym c.self.view_is) told on
