use Rattle.applications.proofs.Cited.{◌≡◌, [], map, sym, ap, subst, ◌∙◌, OnOk, Resources, view_purged, gone-files, gone_for, Running}
use Rattle.applications.proofs.Cited.{storing, resource_asked, resource_tried, managers_of}
use Rattle.res_calls.specs.Asked as finds
use Rattle.applications.proofs.FoundCalls.{are_tried}
use Rattle.applications.proofs.Hearing.{stores-tried, on_err-ap}
use Rattle.applications.proofs.application.Application.find.Goals as goal

pub returns-clause-tried : goal.returns-clause-tried
returns-clause-tried g c = are_tried c.answer_resource-tried.result
    (resource_asked c.args.call.now c.args.self.now.names) (managers_of c.args.self.now) c.args.self.now
    c.answer_resource-tried.ensures.told

pub returns-clause-after : goal.returns-clause-after
returns-clause-after g c =
    let left : Running = record {
      memory = c.self-2.inside.heap.memory;
      resources = c.self-2.inside.resources;
      table = c.self-2.inside.table;
      names = c.self-2.inside.names;
      grow = c.self-2.inside.grow.now;
    } in
    subst (λ (q : Resources). OnOk c.answer_resource-tried.result (record left { resources = q }
    ≡ storing c.args.self.now.resources.purging
    (gone_for (resource_asked c.args.call.now c.args.self.now.names) (managers_of c.args.self.now))
    (resource_tried (finds.served (resource_asked c.args.call.now c.args.self.now.names) (managers_of c.args.self.now))
    c.args.self.now).after)) (sym c.store_purged.ensures)
    (stores-tried c.answer_resource-tried.result c.args.self.now.resources.purging
    (gone_for (resource_asked c.args.call.now c.args.self.now.names) (managers_of c.args.self.now))
    (map view_purged c.into_told.result.items) c.new-purges.result c.answer_resource-tried.new.sink left
    (resource_tried (finds.served (resource_asked c.args.call.now c.args.self.now.names) (managers_of c.args.self.now))
    c.args.self.now).after
    (c.new-purges.ensures ∙ ap (λ on. record { on = on; told = []; offered = [] })
    (c.purging.ensures ∙ ap (λ (r : Running). r.resources.purging) c.self.view_is))
    c.answer_resource-tried.ensures.hears.rests.same c.answer_resource-tried.ensures.hears.tells c.into_told.ensures
    (subst (λ (x : Running). OnOk c.answer_resource-tried.result (x ≡ (resource_tried
    (finds.served (resource_asked c.args.call.now c.args.self.now.names) (managers_of c.args.self.now)) c.args.self.now).after))
    (sym c.self-2.view_is) c.answer_resource-tried.ensures.after))

pub returns-clause-files : goal.returns-clause-files
returns-clause-files g c = on_err-ap c.answer_resource-tried.result (λ same.
    ap (λ (q : Resources). q.files) c.store_purged.ensures
    ∙ gone-files (map view_purged c.into_told.result.items) c.self-2.inside.resources
    ∙ ap (λ (r : Running). r.resources.files) c.self-2.view_is ∙ same) c.answer_resource-tried.ensures.files
