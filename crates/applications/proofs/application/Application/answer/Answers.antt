use Rattle.applications.proofs.Cited.{◌≡◌, [], map, sym, ap, subst, ◌∙◌, OnOk, Resources, view_purged, gone-files, served, gone_in, Running}
use Rattle.applications.proofs.Cited.{asked, storing}
use Rattle.applications.proofs.Hearing.{stores-tried, on_ok-ap}
use Rattle.applications.proofs.application.Application.answer.Goals as goal

pub returns-clause-after : goal.returns-clause-after
returns-clause-after g c =
    let r : Running = record {
      memory = c.self.inside.heap.memory;
      resources = c.self.inside.resources;
      table = c.self.inside.table;
      names = c.self.inside.names;
      grow = c.self.inside.grow.now;
    } in
    subst (λ (x : Running). OnOk c.answered-tried.result (record r {
      memory = c.answered-tried.new.heap.memory;
      resources = c.store_purged.new.self;
    } ≡ storing x.resources.purging (gone_in (asked c.args.call.now x.names) x.memory)
    (record x { memory = (served (asked c.args.call.now x.names) x.memory).1 }))) c.self.view_is
    (subst (λ (q : Resources). OnOk c.answered-tried.result (record r {
      memory = c.answered-tried.new.heap.memory;
      resources = q;
    } ≡ storing r.resources.purging (gone_in (asked c.args.call.now r.names) r.memory)
    (record r { memory = (served (asked c.args.call.now r.names) r.memory).1 }))) (sym c.store_purged.ensures)
    (stores-tried c.answered-tried.result r.resources.purging (gone_in (asked c.args.call.now r.names) r.memory)
    (map view_purged c.into_told.result.items) c.new-purges.result c.answered-tried.new.sink
    (record r { memory = c.answered-tried.new.heap.memory })
    (record r { memory = (served (asked c.args.call.now r.names) r.memory).1 })
    (c.new-purges.ensures ∙ ap (λ on. record { on = on; told = []; offered = [] }) c.purging.ensures)
    c.answered-tried.ensures.hears.rests.same c.answered-tried.ensures.hears.tells c.into_told.ensures
    (on_ok-ap c.answered-tried.result (λ m. record r { memory = m }) _ _ c.answered-tried.ensures.after)))

pub returns-clause-files : goal.returns-clause-files
returns-clause-files g c =
    ap (λ (q : Resources). q.files) c.store_purged.ensures
    ∙ gone-files (map view_purged c.into_told.result.items) c.self.inside.resources
    ∙ ap (λ (r : Running). r.resources.files) c.self.view_is
