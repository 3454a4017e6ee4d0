use Rattle.res_map.proofs.Cited.{◌≡◌, ℕ, ℤ, map, take, is_resource, place_in, first_place, view_reference}
use Rattle.res_map.proofs.index.rows_of.Given as goal

-- the rows so far tell of the references so far
abbrev pub invariant-loop-i : goal.invariant-loop-i
invariant-loop-i l = (kind : ℕ) (id : ℤ)
    → place_in kind id l.rows.items ≡ first_place (is_resource kind id) (map view_reference (take l.i l.refs))
