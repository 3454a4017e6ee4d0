use Rattle.zone_marks.proofs.Cited.{◌∙◌, ap, drop, rules, above_all, next_of}
use Rattle.zone_marks.proofs.Marks.Edges.{laid-there}
use Rattle.zone_marks.proofs.keeping.Landmarks.next_at.Goals as goal

pub returns : goal.returns
returns c =
    let index = c.min-index.result in
    record {
      laid = λ zone a. laid-there zone c.args.self.now.marks.items index c.place_of_mark.result (search rules)
          (c.place_of_mark.ensures ∙ ap (λ k. next_of above_all (drop index k)) c.deref.ensures.value) a.0;
    }
