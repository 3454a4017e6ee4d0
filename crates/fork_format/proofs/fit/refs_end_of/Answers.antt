use Rattle.fork_format.proofs.Cited.{◌≡◌, ℕ, ◌<◌, ◌≤◌, ◌⊎◌, drop, ◌∙◌, ◌+◌, ◌*◌, sym, ap, length, map, arith, inl, inr, length-map}
use Rattle.fork_format.proofs.Cited.{refs_offset, refs_end, view_ref, view_group}
use Rattle.fork_format.specs.declared.content.Group.{Group as StoredGroup}
use Rattle.fork_format.proofs.Extending.{refs_end-late, refs_end-stops}
use Rattle.fork_format.proofs.Rest.{rest-map}
use Rattle.fork_format.proofs.fit.refs_end_of.Goals as goal
use Rattle.fork_format.proofs.fit.refs_end_of.Goals.{then-count-eq0-via-then-count-eq0}
use Rattle.fork_format.proofs.fit.refs_end_of.Goals.{then-count-eq0-via-else-count-eq0+then-count-at}

pub returns-then-groups-gt-MAX_TYPES-clause-end : goal.returns-then-groups-gt-MAX_TYPES-clause-end
returns-then-groups-gt-MAX_TYPES-clause-end c =
    let size : length (map view_group c.args.groups.now) ≡ length c.args.groups.now =
    length-map c.args.groups.now view_group in
    sym (refs_end-late (refs_offset (map view_group c.args.groups.now)) (map view_group c.args.groups.now)
    (omega arith))

pub returns-then-count-eq0-clause-end : goal.returns-then-count-eq0-clause-end
returns-then-count-eq0-clause-end c =
    let g : StoredGroup = c.group-item.result in
    let n : ℕ = c.len-count.result in
    let size : length (map view_ref g.refs.items) ≡ n =
    length-map g.refs.items view_ref ∙ sym g.refs.ok.0 ∙ sym c.len-count.ensures in
    let low : c.loop-group.at ≤ 65507 = c.loop-group.invariant.low in
    let far : (n ≡ 0) ⊎ (65507 < c.loop-group.at + 12 * n) =
    elim c.then-count-eq0.branch [
      | then-count-eq0-via-then-count-eq0 w ↦ inl w.if-count-eq0.true
      | then-count-eq0-via-else-count-eq0+then-count-at w ↦ inr (omega arith)
    ] in
    sym (refs_end-stops c.loop-group.at n (view_group g)
    (map view_group (drop (c.loop-group.group-index + 1) c.args.groups.now)) size far)
    ∙ ap (refs_end c.loop-group.at) (sym (rest-map view_group c.args.groups.now c.loop-group.group-index g
    c.loop-group-test.true c.group-item.is)) ∙ c.loop-group.invariant.end
