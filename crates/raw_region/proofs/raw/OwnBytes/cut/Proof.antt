-- The bytes of a run are parted in two, the second with the room. Assumes `Logic`.
use Rattle.raw_region.proofs.Cited.{◌≡◌, ◌+◌, ◌≤◌, List, [], ◌∷◌, ◌++◌, length, take, refl, proved_at, Goes-blank, run_owns, OwnBytes}
use Rattle.std.proofs.Common.{drop as after}
use denote.RawPtr.{◌+ₚ◌}
use contract.Monad.{fact}
use denote.Exit.{yes}
use denote.Builtin.{usize}
use denote.RattleType.{owns}
use denote.Signature.{plain, types_at}
use denote.Steps.{nothing, heard}
use denote.Triple.Entry.{alive}
use denote.Triple.Walked.{walk_of, ends_at}
use mir.Val.{Val}
use prog.Wp.{WpFn}
use contract.Running.{tables}
use types.ByLocal.{alloc_all, pass_all, free_all, look_at, get, sets}
use types.Kit.{‵, group, raw, ◌⊛◌, prop, ◌$◌, ◌∵◌, !, qed, move, drop, suffices, done, split, fsplit, fjoin, feq_l}
use types.Kit.{flt_l}
use types.Kit.{regoal, rewrite, use1}
use types.Part.{agg}
use types.Run.{enter, returns, no_more, and_then}
use Rattle.raw_region.specs.contracts.raw.OwnBytes as R
use Rattle.raw_region.specs.contracts.raw.OwnBytes.cut as f
use Rattle.raw_region.proofs.raw.OwnBytes.cut.Statement.{statement}
use Rattle.raw_region.proofs.raw.OwnBytes.cut.Code as code
use Rattle.raw_region.proofs.Leaving.{all_gone, shown}
use Rattle.raw_region.proofs.Runs.{further, cut_at}
use Rattle.raw_region.proofs.Steps.{bare, beside, run_had, run_made, pair_made}

pub cut_spec : {M : Type 1} → statement M
cut_spec 𝓤 𝓛 𝓜 𝓡 wired =
    let stayed = all_gone f.ended in
    let c = f.clauses 𝓛 𝓜.mem 𝓡.returns in let 𝓣 = tables 𝓤 𝓛.H 𝓜 𝓡 𝓡.env in
    let gone = Goes-blank 𝓛 0 (plain (λ _. R.the_row)) yes (λ κs x f. tt) in
    let counted = Goes-blank 𝓛 0 (plain (λ _. usize)) yes (λ κs x f. tt) in
    proved_at 𝓛 f.ended stayed c 𝓜 𝓡 (gone, (counted, tt)) f.Key.name code.function (code.unfolded 𝓤 𝓛.H 𝓜 𝓡 wired)
    (λ y are.
    let r = y.0.3.0 in let n = y.0.3.1.0 in let vss = y.0.4 in let p = r.home +ₚ r.at in
    let Within = n ≤ length r.items in
    let front : OwnBytes = record { home = r.home; at = r.at; items = take n r.items; room = 0 } in
    let back : OwnBytes = record { home = r.home; at = r.at + n; items = after n r.items; room = r.room } in
    let Post = (walk_of 𝓛 f.ended stayed c).post y in
    qed 𝓛 ((raw (alive 𝓛 f.signature y.0.0 y.0.1) ⊛ ‵ (owns (types_at f.signature.params y.0.0) y.0.3 vss))
    ∷ raw (fact 𝓤 Within) ∷ []) ∵
    move ! (1 ∷ []) $ heard ! Within (λ within. split ! $ move ! (1 ∷ []) $
    fsplit ! $
    run_had ! r vss.0 (λ is. move ! (1 ∷ []) $ fsplit ! $ fsplit ! $ feq_l ! (λ is'. flt_l ! (λ fits. drop ! $
    regoal ! (λ (us : List Val). prop (WpFn 𝓤 𝓛.H 𝓣.C 𝓣.Λ code.function (us ++ (vss.1.0 ++ [])) Post)) is refl $
    regoal ! (λ (us : List Val). prop (WpFn 𝓤 𝓛.H 𝓣.C 𝓣.Λ code.function ((bare ∷ []) ++ (us ++ [])) Post)) is' refl $
    enter ! _ _ _ _ _ $ alloc_all ! (λ l. pass_all ! refl ((tt, tt), ((tt, record { fits = fits }), tt)) $
    sets ! (agg ! (no_more !)) refl (tt, tt) $ sets ! (agg ! (no_more !)) refl (tt, tt) $
    sets ! (agg ! (and_then ! (get ! refl) (and_then ! (get ! refl) (no_more !)))) refl (tt, (tt, (tt, tt))) $
    use1 𝓛 (‵ (run_owns p (take n r.items) 0) ⊛ ‵ (run_owns (p +ₚ n) (after n r.items) r.room))
    (cut_at 𝓛 p n r.items r.room within) $
    split ! $
    run_made ! front $ move ! (1 ∷ []) $
    rewrite ! 0 (λ q. ‵ (run_owns q (after n r.items) r.room)) (further r.home r.at n) refl $ run_made ! back $
    move ! (1 ∷ 0 ∷ []) $ pair_made ! R.the_row R.the_row front back bare bare $
    returns ! (look_at ! 0 refl) $ free_all ! refl $
    suffices ! _ (ends_at 𝓛 f.ended stayed c y (beside bare bare) (front, back) (tt, (tt, tt)) (tt, (tt, tt))) $
    nothing ! $ nothing ! $ fjoin ! $ nothing ! $ fjoin ! $ move ! (2 ∷ 0 ∷ 1 ∷ []) $ group ! 3 $
    shown 𝓛 (back.room ≡ r.room) refl $ shown 𝓛 (back.items ≡ after n r.items) refl $ shown 𝓛 (back.at ≡ r.at + n) refl $
    shown 𝓛 (back.home ≡ r.home) refl $ shown 𝓛 (front.room ≡ 0) refl $ shown 𝓛 (front.items ≡ take n r.items) refl $
    shown 𝓛 (front.at ≡ r.at) refl $ shown 𝓛 (front.home ≡ r.home) refl $
    move ! (8 ∷ []) $ done !))))))
