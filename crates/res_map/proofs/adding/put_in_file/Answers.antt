use Rattle.res_map.proofs.Cited.{ap, arith, length, sym, subst, rules, map, refl, ℕ, ◌≤◌, length-map, length-insert, is_resource, IsIndex}
use Rattle.res_map.proofs.Cited.{held_weights, is_held, is_printed, row_weights, view_reference}
use Rattle.res_map.proofs.Rows.{index-same, key-test, row-placed, placed-there}
use Rattle.res_map.proofs.Handles.{held-placed, placed-weight}
use Rattle.res_map.proofs.Weights.{held-inserted}
use Rattle.res_map.proofs.adding.put_in_file.Goals as goal

pub returns-clause-indexed : goal.returns-clause-indexed
returns-clause-indexed c = λ index.
    subst (IsIndex is_resource c.enter.new.rows.items) (sym c.in_ok-place.ensures.put.1)
    (c.enter.ensures (search rules) is_resource (map view_reference c.args.refs.now.items) (view_reference c.args.new)
    (search (rules, length-map)) (subst (λ (n : ℕ). c.in_ok-place.place ≤ n) (search rules) c.in_ok-place.ensures.put.0)
    (key-test (view_reference c.args.new) _ _ refl (search rules))
    (index-same is_resource _ _ _ _ c.in_ok-reserve.ensures.items refl index))

pub returns-clause-named : goal.returns-clause-named
returns-clause-named c = λ index.
    subst (IsIndex is_printed c.enter_any.new.rows.items) (sym c.in_ok-place.ensures.put.1)
    (c.enter_any.ensures (search rules) is_printed (map view_reference c.args.refs.now.items) (view_reference c.args.new)
    (search (rules, length-map)) (subst (λ (n : ℕ). c.in_ok-place.place ≤ n) (search rules) c.in_ok-place.ensures.put.0)
    (row-placed c.in_ok-place.place (view_reference c.args.new) _ _ c.named_row_of-named.ensures c.row_placed.ensures)
    (index-same is_printed _ _ _ _ c.in_ok-reserve-2.ensures.items refl index))

pub returns-clause-held : goal.returns-clause-held
returns-clause-held c = λ holding.
    let references = map view_reference c.args.refs.now.items in
    let new = view_reference c.args.new in
    let index = index-same is_held _ _ _ _ c.in_ok-make_room.ensures.items refl holding.index in
    record {
      index = subst (IsIndex is_held c.enter_held.new.rows.items) (sym c.in_ok-place.ensures.put.1)
          (c.enter_held.ensures.index (search rules) references new
          (search (rules, length-map)) (subst (λ (n : ℕ). c.in_ok-place.place ≤ n) (search rules) c.in_ok-place.ensures.put.0)
          (held-placed c.in_ok-place.place new _ _ c.held_row_of-holder.ensures c.row_placed-2.ensures)
          index);
      each = λ f.
          let all = c.enter_held.ensures.weights (search rules) f in
          let same = ap (row_weights f) c.in_ok-make_room.ensures.items in
          let old = holding.each f in
          let own = placed-weight f c.in_ok-place.place new.handle c.held_row_of-holder.result c.row_placed-2.result
          c.held_row_of-holder.ensures c.row_placed-2.ensures in
          let more = held-inserted f references c.in_ok-place.place new in
          let now = ap (held_weights f) c.in_ok-place.ensures.put.1 in
          omega (arith, all, same, old, own, more, now);
      room =
          let size = ap length c.in_ok-place.ensures.put.1 in
          let all = length-map c.args.refs.now.items view_reference in
          let more = length-insert references c.in_ok-place.place new
          (subst (λ (n : ℕ). c.in_ok-place.place ≤ n) (sym all) c.in_ok-place.ensures.put.0) in
          search (rules, size, more, all);
    }

pub enter_held-requires : goal.enter_held-requires
enter_held-requires c = placed-there c.in_ok-place.place c.held_row_of-holder.result c.row_placed-2.result c.row_placed-2.ensures

pub enter_any-requires : goal.enter_any-requires
enter_any-requires c = placed-there c.in_ok-place.place c.named_row_of-named.result c.row_placed.result c.row_placed.ensures
