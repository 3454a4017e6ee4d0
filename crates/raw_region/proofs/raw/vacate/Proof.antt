-- The bytes of a `Vec` over a run, and the room past them, are the run's again. Assumes `Logic`.
use Rattle.raw_region.proofs.Cited.{◌≡◌, ℕ, ◌-◌, ◌<◌, List, [], ◌∷◌, ◌++◌, refl, ap, arith, Goes-blank, proved_at, lodged, ghosts, run_owns}
use Rattle.raw_region.proofs.Cited.{OwnBytes}
use Rattle.std_alloc.proofs.vec.lodged.Vec+T+Lodged.dislodge.Met as dislodge
use Rattle.std_alloc.specs.contracts.vec.Vec as V
use Rattle.std_alloc.specs.contracts.vec.lodged.Lodged as L
use Rattle.std_alloc.specs.contracts.vec.lodged.Vec+T+Lodged.dislodge as g
use base.Fml.{ftrue, fsep, flft}
use base.Fraction.{full_share}
use base.Logic.{emp, id⊢}
use contract.BorrowLft.{◌⊑◌, ⊑_refl}
use contract.Monad.{fact, fact_i}
use contract.Running.{tables}
use denote.Builtin.{u8, usize, RawPtr}
use denote.Exit.{yes, no, left}
use denote.Param.{param}
use denote.RattleType.{owns}
use denote.RawPtr.{ptr_val, rawptr_Lawful, ◌+ₚ◌}
use denote.Signature.{plain, types_at}
use denote.Steps.{nothing, heard, only}
use denote.Triple.Call.{calls_at}
use denote.Triple.Entry.{alive}
use denote.Triple.Spec.{triple_of}
use denote.Triple.Table.{framed}
use denote.Triple.Walked.{walk_of, ends_at}
use mir.Val.{Val}
use prog.Wp.{WpFn}
use types.ByLocal.{alloc_all, pass_all, free_all, look_at, get, sets, lands_as}
use types.Kit.{‵, group, raw, ◌⊛◌, some, later, prop, ◌$◌, ◌∵◌, !, qed, move, drop, suffices, done, split, split3, join}
use types.Kit.{pick, await, fsplit, fjoin, feq_l, flt_l, regoal, rewrite, use0, use1}
use types.Part.{agg}
use types.Run.{enter, returns, of_opd, no_more, and_then}
use Rattle.raw_region.specs.contracts.raw.vacate as f
use Rattle.raw_region.proofs.Blocks.{vacated}
use Rattle.raw_region.proofs.Frames.{byte_laws}
use Rattle.raw_region.proofs.Leaving.{all_gone, shown}
use Rattle.raw_region.proofs.Lodged.{Lent, lent-laws}
use Rattle.raw_region.proofs.Steps.{bare, seen, run_made}
use Rattle.raw_region.proofs.raw.vacate.Code as code
use Rattle.raw_region.proofs.raw.vacate.Statement.{statement}

pub vacate_spec : {M : Type 1} → statement M
vacate_spec 𝓤 𝓛 𝓜 𝓡 wired =
    let stayed = all_gone f.ended in
    let c = f.clauses 𝓛 𝓜.mem 𝓡.returns in let 𝓣 = tables 𝓤 𝓛.H 𝓜 𝓡 𝓡.env in
    let vec_gone = Goes-blank 𝓛 0 (plain (λ _. Lent)) yes (λ κs x f. tt) in
    let ptr_gone = Goes-blank 𝓛 0 (plain (λ _. RawPtr)) yes (λ κs x f. tt) in
    let at_gone = Goes-blank 𝓛 0 (plain (λ _. usize)) yes (λ κs x f. tt) in
    let G = triple_of 𝓛 (g.signature u8) (g.spec u8 𝓛 𝓜.mem 𝓡.returns) in
    proved_at 𝓛 f.ended stayed c 𝓜 𝓡 (vec_gone, (ptr_gone, (at_gone, tt))) f.Key.name code.function
    (code.unfolded 𝓤 𝓛.H 𝓜 𝓡 wired) (λ y are.
    let d = y.0.3.0 in let p = y.0.3.1.0 in let n = y.0.3.1.1.0 in let vss = y.0.4 in
    let Some = 0 < d.len in let There = d.ptr ≡ p +ₚ n in let Post = (walk_of 𝓛 f.ended stayed c).post y in
    let made : OwnBytes = record { home = p; at = n; items = d.items; room = d.cap - d.len } in
    qed 𝓛 ((raw (alive 𝓛 f.signature y.0.0 y.0.1) ⊛ ‵ (owns (types_at f.signature.params y.0.0) y.0.3 vss))
    ∷ (raw (fact 𝓤 Some) ⊛ raw (fact 𝓤 There)) ∷ []) ∵
    move ! (1 ∷ []) $ split ! $ heard ! Some (λ full. heard ! There (λ there. split ! $ move ! (1 ∷ []) $
    fsplit ! $
    seen ! Lent lent-laws d vss.0 (λ u is fits. move ! (1 ∷ []) $ fsplit ! $
    feq_l ! (λ is'. fsplit ! $ fsplit ! $ feq_l ! (λ is''. flt_l ! (λ small. drop ! $
    regoal ! (λ (us : List Val).
    prop (WpFn 𝓤 𝓛.H 𝓣.C 𝓣.Λ code.function (us ++ (vss.1.0 ++ (vss.1.1.0 ++ []))) Post)) is refl $
    regoal ! (λ (us : List Val).
    prop (WpFn 𝓤 𝓛.H 𝓣.C 𝓣.Λ code.function ((u ∷ []) ++ (us ++ (vss.1.1.0 ++ []))) Post)) is' refl $
    regoal ! (λ (us : List Val).
    prop (WpFn 𝓤 𝓛.H 𝓣.C 𝓣.Λ code.function ((u ∷ []) ++ ((ptr_val p ∷ []) ++ (us ++ []))) Post)) is'' refl $
    enter ! _ _ _ _ _ $
    alloc_all ! (λ l.
    pass_all ! refl (
      fits,
      (((rawptr_Lawful 𝓛).typed p (ptr_val p ∷ []) refl).0, ((tt, record { fits = small }), tt)),
    ) $
    sets ! (of_opd ! (get ! refl)) refl fits $
    -- what `dislodge` asks for: the `Vec`, a fact and a token
    let z : G.Ghost = ((([], tt), (full_share, tt), tt, (d, tt), (u ∷ [], tt)), tt) in
    nothing ! $ use0 𝓛 (raw (fact 𝓤 ([] ⊑ []))) (fact_i 𝓤 ([] ⊑ []) (emp 𝓤) (⊑_refl [])) $ join ! $
    nothing ! $ move ! (2 ∷ 0 ∷ []) $ fjoin ! $ nothing ! $
    use0 𝓛 (‵ (flft [] full_share)) (𝓛.lfts.lft-nil full_share) $ join ! $ join ! $ join ! $
    use1 𝓛 (raw (G.pre z)) (id⊢ 𝓤 _) $
    calls_at ! (framed 𝓤 𝓛.H 𝓜 𝓣) G
    (dislodge.met 𝓤 𝓛 𝓜 𝓡 (code.calls-std_alloc::vec::lodged::Vec+T+Lodged::dislodge 𝓡.env wired) u8 byte_laws) z
    (and_then ! (get ! refl) (no_more !)) (λ v.
    use1 𝓛 (later (some (λ (k : ℕ). ((‵ (flft [] full_share) ⊛ ‵ ftrue) ⊛ ‵ (usize.own_val k (v ∷ [])))
    ⊛ some (λ (ws : Unit {0} × Unit {0}).
    ‵ (fsep (left ((V.the_row (param 0 u8) L.the_row ghosts).exit no) d ws.0) ftrue) ⊛ raw (fact 𝓤 (k ≡ d.len))
    ⊛ ‵ (lodged u8 d.ptr d.len d.cap d.items))))) (id⊢ 𝓤 _) $
    await ! tt $
    pick ! (λ k. split ! $ split ! $ drop ! $ fsplit ! $
    feq_l ! (λ says_k. flt_l ! (λ fits_k. pick ! (λ ws. split3 ! $ drop ! $ drop ! $
    lands_as ! (ap only says_k) refl (tt, record { fits = fits_k }) $
    sets ! (agg ! (no_more !)) refl (tt, tt) $
    let room = d.ok.1 in
    use1 𝓛 (‵ (run_owns d.ptr d.items (d.cap - d.len)))
    (vacated 𝓛 d.ptr d.items d.len d.cap d.ok.0 (omega (arith, full, room))) $
    rewrite ! 0 (λ q. ‵ (run_owns q d.items (d.cap - d.len))) there refl $ run_made ! made $
    returns ! (look_at ! 0 refl) $ free_all ! refl $
    suffices ! _ (ends_at 𝓛 f.ended stayed c y bare made (tt, (tt, (tt, tt))) (tt, (tt, (tt, tt)))) $
    nothing ! $ nothing ! $ fjoin ! $ nothing ! $ fjoin ! $ nothing ! $ fjoin ! $ move ! (2 ∷ 0 ∷ 1 ∷ []) $ group ! 3 $
    shown 𝓛 (made.room ≡ d.cap - d.len) refl $ shown 𝓛 (made.items ≡ d.items) refl $
    shown 𝓛 (made.at ≡ n) refl $ shown 𝓛 (made.home ≡ p) refl $
    move ! (4 ∷ []) $ done !)))))))))))))
