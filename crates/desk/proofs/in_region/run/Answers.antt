use Rattle.desk.proofs.Cited.{◌≡◌, ◌∙◌, ℕ, false, ap, slice_get, sym, subst, IfOk, IfErr-weaker, Whole, RegionZones, LiesThere}
use Rattle.desk.proofs.Cited.{IsNeverGranted, LieAtEnd}
use Rattle.desk.proofs.Free.{same-home}
use Rattle.desk.proofs.in_region.run.Goals as goal

pub returns-clause-lies : goal.returns-clause-lies
returns-clause-lies g c =
    subst (λ (r : Whole). IfOk c.run_with-outcome.result.0 (λ o. o.stopped ≡ false → LieAtEnd
    (λ w blocks slots. LiesThere r.bytes w blocks slots) c.args.job.now)) (sym c.into_region.ensures) c.run_with-outcome.ensures.lies

pub returns-clause-untouched : goal.returns-clause-untouched
returns-clause-untouched g c =
    subst (λ (r : Whole). IfOk c.run_with-outcome.result.0 (λ o. (place : ℕ) → IsNeverGranted place o.done c.args.job.now
    → slice_get r.bytes place ≡ slice_get c.args.region.bytes place))
    (sym c.into_region.ensures)
    (subst (λ (r : Whole). IfOk c.run_with-outcome.result.0 (λ o. (place : ℕ) → IsNeverGranted place o.done c.args.job.now
    → slice_get c.run_with-outcome.result.1.region.bytes place ≡ slice_get r.bytes place))
    c.new.ensures c.run_with-outcome.ensures.outside)

pub returns-clause-same : goal.returns-clause-same
returns-clause-same g c =
    ap (λ (r : Whole). r.home) c.into_region.ensures
    ∙ same-home c.new.result.region c.run_with-outcome.result.1.region c.run_with-outcome.ensures.kept
    ∙ ap (λ (r : Whole). r.home) c.new.ensures

pub returns-clause-given_back : goal.returns-clause-given_back
returns-clause-given_back g c =
    IfErr-weaker c.run_with-outcome.result.0 _ _
    (λ fault same. c.into_region.ensures ∙ ap (λ (z : RegionZones). z.region) same ∙ c.new.ensures)
    c.run_with-outcome.ensures.given_back
