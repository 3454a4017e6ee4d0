use Rattle.applications.proofs.Cited.{◌≡◌, [], map, sym, ap, subst, ◌∙◌, OnOk, Resources, view_purged, gone-files, Running, storing}
use Rattle.applications.proofs.Cited.{segment_tried, program_of}
use Rattle.segments.specs.Asked.{served}
use Rattle.segments.specs.Gone.{gone_for}
use Rattle.applications.proofs.Hearing.{stores-tried, on_err-ap}
use Rattle.applications.proofs.application.Application.jump.Goals as goal

pub returns-clause-after : goal.returns-clause-after
returns-clause-after g c =
    let left : Running = record {
      memory = c.self-2.inside.heap.memory;
      resources = c.self-2.inside.resources;
      table = c.self-2.inside.table;
      names = c.self-2.inside.names;
      grow = c.self-2.inside.grow.now;
    } in
    subst (λ (q : Resources). OnOk c.answer_segment-tried.result (record left { resources = q }
    ≡ storing c.args.self.now.resources.purging
    (gone_for c.args.call.now (program_of c.args.self.now))
    (segment_tried (served c.args.call.now (program_of c.args.self.now)) c.args.self.now).after)) (sym c.store_purged.ensures)
    (stores-tried c.answer_segment-tried.result c.args.self.now.resources.purging
    (gone_for c.args.call.now (program_of c.args.self.now))
    (map view_purged c.into_told.result.items) c.new-purges.result c.answer_segment-tried.new.sink left
    (segment_tried (served c.args.call.now (program_of c.args.self.now)) c.args.self.now).after
    (c.new-purges.ensures ∙ ap (λ on. record { on = on; told = []; offered = [] })
    (c.purging.ensures ∙ ap (λ (r : Running). r.resources.purging) c.self.view_is))
    c.answer_segment-tried.ensures.hears.rests.same c.answer_segment-tried.ensures.hears.tells c.into_told.ensures
    (subst (λ (x : Running). OnOk c.answer_segment-tried.result (x ≡ (segment_tried (served c.args.call.now (program_of c.args.self.now))
    c.args.self.now).after)) (sym c.self-2.view_is) c.answer_segment-tried.ensures.after))

pub returns-clause-files : goal.returns-clause-files
returns-clause-files g c = on_err-ap c.answer_segment-tried.result (λ same.
    ap (λ (q : Resources). q.files) c.store_purged.ensures
    ∙ gone-files (map view_purged c.into_told.result.items) c.self-2.inside.resources
    ∙ ap (λ (r : Running). r.resources.files) c.self-2.view_is ∙ same) c.answer_segment-tried.ensures.files
