use Rattle.heap_calls.proofs.Cited.{arith, sym, ◌∙◌, GREATEST_ZONE, least_or_last-fails, least_or_last-le, fewest-last}
use Rattle.heap_calls.proofs.Room.LeastSearches.{first-is}
use Rattle.heap_calls.proofs.least.least_search.Goals as goal

pub returns-then-is_there_after-clause-least : goal.returns-then-is_there_after-clause-least
returns-then-is_there_after-clause-least g c =
    let sought = c.args.sought.now in
    let zone = g.S.BlockStore.zone c.args.store.now in
    first-is (g.L.Sought.is_there sought zone) (g.L.Sought.most sought zone)
    (sym c.is_there_after.ensures ∙ c.if-is_there_after.true)

-- it isn't there after more purges than there can be
pub returns-then-not-there-clause-least : goal.returns-then-not-there-clause-least
returns-then-not-there-clause-least g c =
    let sought = c.args.sought.now in
    let zone = g.S.BlockStore.zone c.args.store.now in
    c.most_purges-most.ensures
    ∙ sym (least_or_last-fails (g.L.Sought.is_there sought zone)
    (λ k m le is. g.met.L.Sought.rises sought zone k m c.requires le is) (g.L.Sought.most sought zone) GREATEST_ZONE
    c.goes_on.ensures.few (sym c.is_there_after-there.ensures ∙ c.if-not-there.true))

pub returns-clause-least : goal.returns-clause-least
returns-clause-least g c =
    let sought = c.args.sought.now in
    let zone = g.S.BlockStore.zone c.args.store.now in
    fewest-last (g.L.Sought.is_there sought zone) (g.L.Sought.most sought zone) c.fewest_within.result
    (λ j le. g.met.L.Sought.ends sought zone j c.requires le) c.fewest_within.ensures

pub returns-clause-few : goal.returns-clause-few
returns-clause-few g c =
    let sought = c.args.sought.now in
    let zone = g.S.BlockStore.zone c.args.store.now in
    let test = g.L.Sought.is_there sought zone in
    let most = g.L.Sought.most sought zone in
    omega (
      arith,
      fewest-last test most c.fewest_within.result (λ j le. g.met.L.Sought.ends sought zone j c.requires le)
          c.fewest_within.ensures,
      least_or_last-le test most,
      c.goes_on.ensures.few,
    )
