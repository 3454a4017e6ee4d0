use Rattle.zone_replay.proofs.Cited.{◌≡◌, ◌∙◌, List, ℕ, ap, refl, Glance, try_of, view_try, moment}
use Rattle.zone_replay.specs.declared.inside.Try as seen
use Rattle.zone_replay.proofs.Glancing.{looked}
use Rattle.zone_replay.proofs.inside.TriesOnlooker.look.Goals as goal

pub returns : goal.returns
returns g c =
    let glance : Glance = record {
      grown = c.args.grown;
      line = c.args.line.now;
      code = c.args.code;
      after = c.args.application.now;
    } in
    let tried : seen.Try = record { grown = c.args.grown; after = c.in_ok-after.after } in
    let words = c.in_ok-after.ensures
    ∙ ap (λ (told : List ℕ). moment c.args.line.now.number told c.args.application.now)
    (c.in_ok-told.ensures glance refl refl refl) in
    let same : view_try tried ≡ try_of glance = λ i. record { grown = c.args.grown; after = words i } in
    record {
      saw = λ before so_far. looked c.args.self.now.seen.items c.push.new.self.items tried before glance
          c.in_ok-push.ensures.items same so_far;
    }
