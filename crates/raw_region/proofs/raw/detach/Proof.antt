-- The memory goes out as a run, and the frame is the `Vec` without it. Assumes `Logic`.
use Rattle.raw_region.proofs.Cited.{◌≡◌, ◌<◌, List, [], ◌∷◌, ◌++◌, refl, sym, subst, Goes-blank, proved_at, run_owns, OwnBytes}
use base.Fml.{ftrue}
use contract.Monad.{fact}
use contract.Running.{tables}
use denote.Exit.{yes}
use denote.Laws.{Typed}
use denote.Param.{layout}
use denote.RattleType.{owns}
use denote.RawPtr.{InBlock, in_a_block}
use denote.Signature.{plain, types_at}
use denote.Steps.{nothing, heard}
use denote.Struct.Struct.{as_fields}
use denote.Triple.Entry.{alive}
use denote.Triple.Walked.{walk_of, ends_at}
use mir.Val.{Val}
use prog.Wp.{WpFn}
use types.ByLocal.{alloc_all, pass_all, free_all, look_at, get, sets}
use types.Kit.{‵, group, raw, ◌⊛◌, prop, ◌$◌, ◌∵◌, !, qed, move, drop, suffices, done, split, fsplit, fjoin, fpack}
use types.Kit.{regoal}
use types.Kit.{rewrite, use1}
use types.Part.{agg}
use types.Run.{enter, returns, of_opd, no_more, and_then}
use Rattle.raw_region.specs.contracts.raw.Frame as F
use Rattle.raw_region.specs.contracts.raw.OwnBytes as R
use Rattle.raw_region.specs.contracts.raw.detach as f
use Rattle.raw_region.proofs.Frames.{Owned, owned-laws, extent_of, framed}
use Rattle.raw_region.proofs.Leaving.{all_gone, shown}
use Rattle.raw_region.proofs.Runs.{here, nowhere}
use Rattle.raw_region.proofs.Steps.{bare, alone, beside, seen, run_made, pair_made}
use Rattle.raw_region.proofs.raw.detach.Code as code
use Rattle.raw_region.proofs.raw.detach.Statement.{statement}

pub detach_spec : {M : Type 1} → statement M
detach_spec 𝓤 𝓛 𝓜 𝓡 wired =
    let stayed = all_gone f.ended in
    let c = f.clauses 𝓛 𝓜.mem 𝓡.returns in let 𝓣 = tables 𝓤 𝓛.H 𝓜 𝓡 𝓡.env in
    let gone = Goes-blank 𝓛 0 (plain (λ _. Owned)) yes (λ κs x f. tt) in
    proved_at 𝓛 f.ended stayed c 𝓜 𝓡 (gone, tt) f.Key.name code.function (code.unfolded 𝓤 𝓛.H 𝓜 𝓡 wired) (λ y are.
    let v = y.0.3.0 in let vss = y.0.4 in let Empty = v.len ≡ 0 in let Some = 0 < v.cap in let Post = (walk_of 𝓛 f.ended stayed c).post y in
    let run : OwnBytes = record { home = v.ptr; at = 0; items = []; room = v.cap } in
    qed 𝓛 ((raw (alive 𝓛 f.signature y.0.0 y.0.1) ⊛ ‵ (owns (types_at f.signature.params y.0.0) y.0.3 vss))
    ∷ (raw (fact 𝓤 Empty) ⊛ raw (fact 𝓤 Some)) ∷ []) ∵
    move ! (1 ∷ []) $ split ! $ heard ! Empty (λ empty. heard ! Some (λ some. split ! $ move ! (1 ∷ []) $
    fsplit ! $ seen ! Owned owned-laws v vss.0 (λ u is fits. move ! (1 ∷ []) $ drop ! $
    let inner = as_fields (layout Owned ∷ []) (u ∷ []) (fits, tt) in
    use1 𝓛 (‵ (run_owns v.ptr [] v.cap) ⊛ ‵ (F.the_own (extent_of v) (alone u ∷ []))) (framed 𝓛 v u empty some) $
    split ! $
    in_a_block ! v.ptr (λ p. run_owns p [] v.cap) (nowhere 𝓛 [] v.cap) (λ b o placed.
    rewrite ! 0 (λ p. ‵ (run_owns p [] v.cap)) (sym placed) refl $
    rewrite ! 0 (λ p. ‵ (run_owns p [] v.cap)) (here v.ptr) refl $ run_made ! run $
    -- [the run; what the frame owns; the tokens]
    move ! (1 ∷ []) $ nothing ! $ fpack ! (Typed F.the_row.mir (alone u ∷ [])) (λ _. ftrue) (inner, tt) $ fjoin ! $
    move ! (1 ∷ 0 ∷ []) $ pair_made ! R.the_row F.the_row run (extent_of v) bare (alone u) $
    regoal ! (λ (us : List Val). prop (WpFn 𝓤 𝓛.H 𝓣.C 𝓣.Λ code.function (us ++ []) Post)) is refl $
    enter ! _ _ _ _ _ $ alloc_all ! (λ l. pass_all ! refl (fits, tt) $
    sets ! (agg ! (no_more !)) refl (tt, tt) $
    sets ! (of_opd ! (get ! refl)) refl fits $
    sets ! (agg ! (and_then ! (get ! refl) (no_more !))) refl inner $
    sets ! (agg ! (and_then ! (get ! refl) (and_then ! (get ! refl) (no_more !)))) refl
    (as_fields (layout R.the_row ∷ layout F.the_row ∷ []) (bare ∷ alone u ∷ []) ((tt, tt), (inner, tt))) $
    returns ! (look_at ! 0 refl) $ free_all ! refl $
    suffices ! _ (ends_at 𝓛 f.ended stayed c y (beside bare (alone u)) (run, extent_of v) (tt, tt) (tt, tt)) $
    nothing ! $ nothing ! $ fjoin ! $ move ! (2 ∷ 0 ∷ 1 ∷ []) $ group ! 3 $
    shown 𝓛 (InBlock v.ptr) (subst InBlock (sym placed) tt) $ shown 𝓛 ((extent_of v).len ≡ v.cap) refl $
    shown 𝓛 ((extent_of v).ptr ≡ v.ptr) refl $ shown 𝓛 (run.room ≡ v.cap) refl $ shown 𝓛 (run.items ≡ []) refl $
    shown 𝓛 (run.at ≡ 0) refl $ shown 𝓛 (run.home ≡ v.ptr) refl $
    move ! (7 ∷ []) $ done !))))))
