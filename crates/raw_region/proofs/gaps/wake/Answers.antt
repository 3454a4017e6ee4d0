use Rattle.raw_region.proofs.Cited.{◌≡◌, ◌+◌, ◌-◌, ◌++◌, length, get_or, set, replicate, sym, ap, ◌∙◌, subst, arith, get_or_read_under}
use Rattle.raw_region.proofs.Cited.{bytes_of, room_of, woken, awake}
use denote.RawPtr.{◌+ₚ◌}
use Rattle.raw_region.proofs.Cutting.{start_some}
use Rattle.raw_region.proofs.Opening.{run_is}
use Rattle.raw_region.proofs.Waking.{IsLast, last_entry, last_woken, none_awake}
use Rattle.raw_region.proofs.gaps.wake.Goals.{After-index_mut-gap}
use Rattle.raw_region.proofs.gaps.wake.Goals as goal

-- the last entry was read
last : (c : After-index_mut-gap) → c.len-last.result - 1 + 1 ≡ length c.args.gaps.now.items
last c =
    let some = start_some c.args.gaps.now.items c.requires.first in
    omega (arith, some, c.len-last.ensures, c.args.gaps.now.ok.0)

read : (c : After-index_mut-gap)
    → c.index_mut-gap.result.now ≡ get_or c.args.gaps.now.items (c.len-last.result - 1) c.index_mut-gap.result.now
read c =
    let l = last c in
    get_or_read_under c.args.gaps.now.items (c.len-last.result - 1) c.args.gaps.now.len c.index_mut-gap.result.now
    c.index_mut-gap.result.now c.index_mut-gap.ensures.value (omega (arith, l, c.args.gaps.now.ok.0))
    c.args.gaps.now.ok.0

top : (c : After-index_mut-gap)
    → IsLast c.args.home (0 + length (bytes_of c.args.gaps.now.items)) (room_of c.args.gaps.now.items)
    c.index_mut-gap.result.now
top c =
    subst (IsLast c.args.home (0 + length (bytes_of c.args.gaps.now.items)) (room_of c.args.gaps.now.items))
    (sym (read c)) (last_entry c.args.home 0 c.args.gaps.now.items (c.len-last.result - 1) c.index_mut-gap.result.now
    c.requires.laid (last c))

pub returns-then-end-used-clause-items : goal.returns-then-end-used-clause-items
returns-then-end-used-clause-items c =
    let gs = c.args.gaps.now.items in
    let none : c.args.end - c.args.used ≡ 0 = omega (arith, c.if-end-used.true) in
    sym (ap (λ n. awake n gs) none ∙ none_awake gs)

pub overflow_add-at : goal.overflow_add-at
overflow_add-at c =
    let t = (top (goal.at.overflow_add-at c).After-index_mut-gap).2 in
    record { fits = omega (arith, t, c.requires.whole, c.ranges.used.fits) }

pub overflow_sub-used : goal.overflow_sub-used
overflow_sub-used c =
    let t = (top (goal.at.overflow_sub-used c).After-index_mut-gap).2 in omega (arith, t, c.requires.whole)

pub overflow_sub-len : goal.overflow_sub-len
overflow_sub-len c =
    let t = (top (goal.at.overflow_sub-len c).After-index_mut-gap).2 in
    omega (arith, t, c.requires.whole, c.requires.rest)

pub house-vec-requires-clause-there : goal.house-vec-requires-clause-there
house-vec-requires-clause-there c =
    let t = top (goal.at.house-vec-requires-clause-there c).After-index_mut-gap in
    let run = c.replace-run.ensures.value in
    (λ i. (ap (λ r. r.home) run ∙ t.0) i +ₚ (ap (λ r. r.at) run ∙ t.1) i) ∙ sym c.byte_add-ptr.ensures.value

pub house-vec-requires-clause-whole : goal.house-vec-requires-clause-whole
house-vec-requires-clause-whole c =
    let t = (top (goal.at.house-vec-requires-clause-whole c).After-index_mut-gap).2 in
    let run = ap (λ r. length r.items) c.replace-run.ensures.value in omega (arith, t, run, c.requires.whole)

pub house-vec-requires-clause-room : goal.house-vec-requires-clause-room
house-vec-requires-clause-room c =
    let t = top (goal.at.house-vec-requires-clause-room c).After-index_mut-gap in
    let e = t.2 in let m = t.3 in
    let run = ap (λ r. r.room) c.replace-run.ensures.value in
    omega (arith, e, m, run, c.requires.whole, c.requires.rest)

pub house-vec-requires-clause-some : goal.house-vec-requires-clause-some
house-vec-requires-clause-some c =
    let t = (top (goal.at.house-vec-requires-clause-some c).After-index_mut-gap).2 in
    omega (arith, t, c.requires.whole, c.if-end-used.false, c.requires.inside)

pub filled-requires : goal.filled-requires
filled-requires c =
    let t = (top (goal.at.filled-requires c).After-index_mut-gap).2 in
    record {
      room =
          omega (arith, t, c.house-vec.ensures.count, c.house-vec.ensures.full, c.requires.whole, c.requires.inside);
    }

pub returns-clause-items : goal.returns-clause-items
returns-clause-items c =
    let at = (goal.at.returns-clause-items c).After-index_mut-gap in
    let gs = c.args.gaps.now.items in
    let i = c.len-last.result - 1 in
    let g = c.index_mut-gap.result.now in
    let n = c.args.end - c.args.used in
    let t = top at in
    let run = c.replace-run.ensures.value in
    let e = c.vacate-gap.ensures in
    let f = c.filled.ensures in
    let h = c.house-vec.ensures in
    let last_end = t.2 in
    let m = t.3 in
    let after : c.vacate-gap.result ≡ (woken n g).after =
    run_is c.vacate-gap.result _ _ _ _ (e.home ∙ sym t.0) (e.place ∙ sym t.1)
    (e.bytes ∙ f.items ∙ ap (λ xs. xs ++ replicate n 0) (h.bytes ∙ ap (λ r. r.items) run))
    (omega (
      arith,
      e.room,
      f.count,
      f.capacity,
      h.count,
      h.full,
      last_end,
      m,
      c.requires.whole,
      c.requires.rest,
      c.requires.inside,
      c.if-end-used.false,
    )) in
    ap (λ r. set gs i (record { at = g.at; len = g.len; after = r })) after ∙ ap (λ x. set gs i (woken n x)) (read at)
    ∙ last_woken n gs i g (last at)
