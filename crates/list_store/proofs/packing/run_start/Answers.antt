use Rattle.list_store.proofs.Cited.{◌≡◌, ◌+◌, ◌-◌, ◌∷◌, [], true, false, not, take, drop, sym, ◌∙◌, ap, arith, option_map, in_run}
use Rattle.list_store.proofs.Cited.{run_raised, blocks_of, block_of, walked, walked-later, walked-step, walked-past, raised-twice}
use Rattle.list_store.proofs.Zone.Listing.{drop-blocks, take-blocks, entry_fits}
use Rattle.list_store.proofs.packing.run_start.Goals as goal
use Rattle.list_store.proofs.packing.run_start.Goals.{else-bottom-via-then-bottom+else-rest-eq0}
use Rattle.list_store.proofs.packing.run_start.Goals.{else-bottom-via-else-bottom}

pub entry_size-bytes-requires : goal.entry_size-bytes-requires
entry_size-bytes-requires c = omega (
  arith,
  entry_fits c.args.entries.now c.loop-i.i c.index-entries-i.result c.loop-i-test.true c.index-entries-i.is,
)

pub returns-then-bytes-rest : goal.returns-then-bytes-rest
returns-then-bytes-rest c =
    let bs = blocks_of c.args.entries.now in
    let i = c.loop-i.i in
    let e = c.index-entries-i.result in
    let away : c.loop-i.bottom ≡ true → c.loop-i.rest ≡ 0 → ⊥ = λ a b. elim c.else-bottom.branch [
      | else-bottom-via-then-bottom+else-rest-eq0 w ↦ w.if-rest-eq0.false b
      | else-bottom-via-else-bottom w ↦ cc
    ] in
    sym c.loop-i.invariant
    ∙ ap (option_map (run_raised (take i bs))) (walked-later c.loop-i.bottom c.loop-i.rest (drop i bs) away
    ∙ ap (walked false c.loop-i.rest) (drop-blocks c.args.entries.now i e c.loop-i-test.true c.index-entries-i.is)
    ∙ walked-past c.loop-i.rest (block_of e) (drop (i + 1) bs) (omega arith))

pub loop-i-preserved : goal.loop-i-preserved
loop-i-preserved c =
    let bs = blocks_of c.args.entries.now in
    let i = c.loop-i.i in
    let e = c.index-entries-i.result in
    let rest = c.loop-i.rest in
    let raise = option_map (run_raised (take i bs)) in
    let away : c.loop-i.bottom ≡ true → c.loop-i.rest ≡ 0 → ⊥ = λ a b. elim c.else-bottom.branch [
      | else-bottom-via-then-bottom+else-rest-eq0 w ↦ w.if-rest-eq0.false b
      | else-bottom-via-else-bottom w ↦ cc
    ] in
    ap (λ l. option_map (run_raised l) (walked (not c.is_loose-bottom.result) (rest - c.entry_size-bytes.result)
    (drop (i + 1) bs))) (take-blocks c.args.entries.now i e c.loop-i-test.true c.index-entries-i.is)
    ∙ sym (raised-twice (take i bs) (block_of e) (walked (not c.is_loose-bottom.result)
    (rest - c.entry_size-bytes.result) (drop (i + 1) bs))) ∙ ap (λ t. raise (option_map (run_raised (block_of e ∷ []))
    (walked (not t) (rest - c.entry_size-bytes.result) (drop (i + 1) bs)))) c.is_loose-bottom.ensures
    ∙ ap (λ n. raise (option_map (run_raised (block_of e ∷ []))
    (walked (not (in_run (block_of e))) (rest - n) (drop (i + 1) bs)))) c.entry_size-bytes.ensures
    ∙ ap raise (sym (walked-step rest (block_of e) (drop (i + 1) bs) (omega arith)))
    ∙ ap (λ l. raise (walked false rest l)) (sym (drop-blocks c.args.entries.now i e c.loop-i-test.true
    c.index-entries-i.is))
    ∙ ap raise (sym (walked-later c.loop-i.bottom rest (drop i bs) away))
    ∙ c.loop-i.invariant
