use Rattle.res_map.proofs.Cited.{◌≡◌, ◌∙◌, sym, subst, rules, w32, to_z-of_z, IsToldAs, IsAt}
use Rattle.res_map.proofs.Rows.{index-renamed, index-alike, told-there}
use Rattle.res_map.proofs.index.enter_renamed.Goals as goal

pub returns-then-row-key : goal.returns-then-row-key
returns-then-row-key c = λ room test references old x there was own first index.
    let is = to_z-of_z w32 c.args.key c.ranges.key in
    index-renamed test c.args.rows.now.items c.tell_anew.new.rows.items c.tell_sooner.new.rows.items c.args.row c.args.key
    c.args.first references old x there was own (λ e. search rules) first index
    (subst (λ i. IsToldAs c.args.row.kind i c.args.first c.args.rows.now.items c.tell_anew.new.rows.items) is
    (c.tell_anew.ensures.tells (told-there test c.args.rows.now.items references c.args.row.place old c.args.row.kind _
    index there (subst (λ i. IsAt test c.args.row.kind i old) (sym is) was)) index.rising))
    (c.tell_sooner.ensures.rising (c.tell_anew.ensures.rising index.rising))
    (c.tell_sooner.ensures.tells (c.tell_anew.ensures.room room) (c.tell_anew.ensures.rising index.rising))

pub returns-else-row-key : goal.returns-else-row-key
returns-else-row-key c = λ room test references old x there was own first index.
    let same : c.args.row.key ≡ c.args.key = search rules in
    index-alike test c.args.rows.now.items references c.args.row.place old x there
    (λ k i. subst (λ j. IsAt test c.args.row.kind j x) same own k i ∙ sym (was k i)) index
