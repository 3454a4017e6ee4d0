use Rattle.res_map.proofs.Cited.{sym, subst, ℕ, ◌≤◌}
use Rattle.res_map.proofs.Rows.{index-entered, index-within}
use Rattle.res_map.proofs.index.enter.Goals as goal

pub returns : goal.returns
returns c = λ room test references x len inside own index.
    let rising = c.open_gap.ensures.rising index.rising in
    index-entered test c.args.rows.now.items c.open_gap.new.rows.items c.tell_sooner.new.rows.items c.args.row references x
    (subst (λ (n : ℕ). c.args.row.place ≤ n) (sym len) inside) own index
    (c.open_gap.ensures.tells (index-within test c.args.rows.now.items references c.args.len len index))
    (c.tell_sooner.ensures.rising rising) (c.tell_sooner.ensures.tells (c.open_gap.ensures.room room) rising)
