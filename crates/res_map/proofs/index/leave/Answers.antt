use Rattle.res_map.proofs.Cited.{sym, subst, rules, w32, SFits, to_z-of_z, IsRising, IsToldAs, IsAt, lowered}
use Rattle.res_map.proofs.Rows.{index-left, rising-moved, moved-there}
use Rattle.res_map.proofs.index.leave.Goals as goal

pub returns : goal.returns
returns c = λ test references x there own first index.
    let fits : SFits w32 c.args.row.key = search rules in
    let is = to_z-of_z w32 c.args.row.key fits in
    let rising = subst IsRising (sym c.lower_all.ensures.items)
    (rising-moved (lowered c.args.row.place) c.args.rows.now.items index.rising) in
    index-left test c.args.rows.now.items c.lower_all.new.rows.items c.tell_anew.new.rows.items c.args.row c.args.first
    references x there own first index c.lower_all.ensures.items (c.tell_anew.ensures.rising rising)
    (subst (λ i. IsToldAs c.args.row.kind i c.args.first c.lower_all.new.rows.items c.tell_anew.new.rows.items) is
    (c.tell_anew.ensures.tells (moved-there test (lowered c.args.row.place) c.args.rows.now.items
    c.lower_all.new.rows.items references c.args.row.place x c.args.row.kind _ c.lower_all.ensures.items index there
    (subst (λ i. IsAt test c.args.row.kind i x) (sym is) own)) rising))
