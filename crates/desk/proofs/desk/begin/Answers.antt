use Rattle.desk.proofs.Cited.{rules, ◌≤◌, option_map, ap, sym, ◌∙◌, IsOutside, OpenZone}
use Rattle.desk.proofs.Changes.{at-some}
use Rattle.desk.proofs.Holding.{contains-opened, closed-opened}
use Rattle.desk.proofs.desk.begin.Goals as goal

pub give_back-requires-clause-out : goal.give_back-requires-clause-out
give_back-requires-clause-out g c =
    contains-opened (option_map (λ (z : OpenZone _). z.window) c.in_ok-window.field-0) c.in-Some.field-0.window c.args.grants.now.windows
    c.open_zone.new.grants.windows (search rules) c.in_ok-window.ensures.windows

pub returns-in-Err-clause-err : goal.returns-in-Err-clause-err
returns-in-Err-clause-err g c =
    let large : 512 ≤ c.in-Some.field-0.window.len = search rules in
    closed-opened (option_map (λ (z : OpenZone _). z.window) c.in_ok-window.field-0) c.in-Some.field-0.window c.args.grants.now.windows
    c.open_zone.new.grants.windows c.give_back.new.grants.windows (search rules) large c.in_ok-window.ensures.windows
    c.give_back.ensures.windows

pub returns-in-Err-clause-outside : goal.returns-in-Err-clause-outside
returns-in-Err-clause-outside g c = λ place f.
    c.give_back.ensures.outside place
    (at-some _ c.in-Some.field-0.window (λ v. IsOutside place v)
    (sym c.in_ok-window.ensures.answer ∙ ap (option_map (λ (z : OpenZone _). z.window)) c.in-Some.is) f)
    ∙ c.open_zone.ensures.outside place f
