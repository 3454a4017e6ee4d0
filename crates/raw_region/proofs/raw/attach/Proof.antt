-- The frame takes the memory of a run, for which it waits. Assumes `Logic`.
use Rattle.raw_region.proofs.Cited.{◌≡◌, ◌+◌, List, [], ◌∷◌, ◌++◌, length, refl, sym, ◌∙◌, subst, Goes-blank, nil_from_length, proved_at}
use Rattle.raw_region.proofs.Cited.{room_owns, run_owns}
use base.Logic.{apply∗}
use contract.Monad.{fact}
use contract.Running.{tables}
use denote.Exit.{yes}
use denote.Laws.{Typed}
use denote.RattleType.{owns}
use denote.RawPtr.{◌+ₚ◌}
use denote.Signature.{plain, types_at}
use denote.Steps.{nothing, heard}
use denote.Triple.Entry.{alive}
use denote.Triple.Walked.{says, walk_of, ends_at}
use mir.Val.{Val}
use prog.Wp.{WpFn}
use types.ByLocal.{alloc_all, pass_all, free_all, look_at, get, get_in, sets}
use types.Kit.{‵, raw, ◌⊛◌, prop, ◌$◌, ◌∵◌, !, qed, move, drop, suffices, done, split, split3, fsplit, fjoin, fpick}
use types.Kit.{feq_l, regoal, rewrite, use1, use2}
use types.Logic.{sem}
use types.Part.{sub, whole}
use types.Run.{enter, returns, of_opd, fld, stop}
use Rattle.raw_region.specs.contracts.raw.Frame as F
use Rattle.raw_region.specs.contracts.raw.OwnBytes as R
use Rattle.raw_region.specs.contracts.raw.attach as f
use Rattle.raw_region.proofs.Frames.{Owned, owned-laws}
use Rattle.raw_region.proofs.Leaving.{all_gone}
use Rattle.raw_region.proofs.Runs.{here, given_up}
use Rattle.raw_region.proofs.Steps.{bare, fields_of, run_had, alone_had}
use Rattle.raw_region.proofs.raw.attach.Code as code
use Rattle.raw_region.proofs.raw.attach.Statement.{statement}

pub attach_spec : {M : Type 1} → statement M
attach_spec 𝓤 𝓛 𝓜 𝓡 wired =
    let stayed = all_gone f.ended in
    let c = f.clauses 𝓛 𝓜.mem 𝓡.returns in let 𝓣 = tables 𝓤 𝓛.H 𝓜 𝓡 𝓡.env in
    let run_gone = Goes-blank 𝓛 0 (plain (λ _. R.the_row)) yes (λ κs x f. tt) in
    let frame_gone = Goes-blank 𝓛 0 (plain (λ _. F.the_row)) yes (λ κs x f. tt) in
    proved_at 𝓛 f.ended stayed c 𝓜 𝓡 (run_gone, (frame_gone, tt)) f.Key.name code.function
    (code.unfolded 𝓤 𝓛.H 𝓜 𝓡 wired) (λ y are.
    let r = y.0.3.0 in let e = y.0.3.1.0 in let vss = y.0.4 in let xs = r.items in
    let Home = r.home ≡ e.ptr in let Start = r.at ≡ 0 in let Whole = length xs + r.room ≡ e.len in
    let Post = (walk_of 𝓛 f.ended stayed c).post y in
    qed 𝓛 ((raw (alive 𝓛 f.signature y.0.0 y.0.1) ⊛ ‵ (owns (types_at f.signature.params y.0.0) y.0.3 vss))
    ∷ (raw (fact 𝓤 Home) ⊛ raw (fact 𝓤 Start) ⊛ raw (fact 𝓤 Whole)) ∷ []) ∵
    move ! (1 ∷ []) $ split3 ! $
    heard ! Home (λ home. heard ! Start (λ start. heard ! Whole (λ long. split ! $ move ! (1 ∷ []) $
    fsplit ! $ run_had ! r vss.0 (λ is. move ! (1 ∷ []) $ fsplit ! $
    -- [the frame; no parameter more; the bytes; the tokens]
    fsplit ! $ fpick ! (λ typed. drop ! $ fpick ! (λ i. fsplit ! $ feq_l ! (λ empty.
    let Filled = (fields_of (Owned ∷ [])).own_val (i.vec, tt) vss.1.0 in
    let there : r.home +ₚ r.at ≡ e.ptr = (λ j. home j +ₚ start j) ∙ sym (here e.ptr) in
    move ! (2 ∷ []) $ rewrite ! 0 (λ p. ‵ (run_owns p xs r.room)) there refl $
    use1 𝓛 (‵ (room_owns e.ptr (length xs + r.room))) (given_up 𝓛 e.ptr xs r.room) $
    rewrite ! 0 (λ k. ‵ (room_owns e.ptr k)) long refl $
    use2 𝓛 (‵ Filled) (apply∗ 𝓤 (sem 𝓛 (room_owns e.ptr e.len)) (sem 𝓛 Filled)) $
    alone_had ! Owned owned-laws i.vec vss.1.0 (λ u is' fits. move ! (1 ∷ []) $ drop ! $
    regoal ! (λ (us : List Val). prop (WpFn 𝓤 𝓛.H 𝓣.C 𝓣.Λ code.function (us ++ (vss.1.0 ++ [])) Post)) is refl $
    regoal ! (λ (us : List Val). prop (WpFn 𝓤 𝓛.H 𝓣.C 𝓣.Λ code.function ((bare ∷ []) ++ (us ++ [])) Post)) is' refl $
    enter ! _ _ _ _ _ $ alloc_all ! (λ l. pass_all ! refl ((tt, tt), ((subst (Typed F.the_row.mir) is' typed).0, tt)) $
    sets ! (of_opd ! (get_in ! (fld ! refl (stop !)) (sub ! 0 refl (whole !)))) refl fits $
    sets ! (of_opd ! (get ! refl)) refl fits $
    returns ! (look_at ! 0 refl) $ free_all ! refl $
    suffices ! _ (ends_at 𝓛 f.ended stayed c y u i.vec (tt, (tt, tt)) (tt, (tt, tt))) $
    says ! (nil_from_length i.vec.items (sym i.vec.ok.0 ∙ empty)) $
    nothing ! $ nothing ! $ fjoin ! $ nothing ! $ fjoin ! $ move ! (2 ∷ 0 ∷ 1 ∷ []) $ done !))))))))))
