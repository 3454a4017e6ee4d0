-- `into_box` makes the box again, where something is kept.
use Rattle.macmem_c.proofs.Cited.{◌≡◌, List, [], ◌∷◌, ◌++◌, refl, sym, ap, subst, ◌∙◌, IsSome, Goes-blank, after, Good, proved_at, leaves}
use Rattle.macmem_c.proofs.Cited.{ghosts, dict, box_out, box_in, met, all_gone}
use Rattle.std.specs.Prelude.{Some}
use mir.Val.{Val}
use base.Logic.{SProp, emp, id⊢}
use base.Fml.{ftrue, flft}
use base.Fraction.{full_share}
use prog.Wp.{WpFn}
use types.Kit.{‵, raw, ◌⊛◌, some, later, prop, at_ret, ◌$◌, ◌∵◌, !, qed, by, move, keep, drop, split, split3, join, fsplit, fjoin}
use types.Kit.{pick, use0, use1, await, rewrite, regoal, feq_i}
use types.Run.{stop, fld, of_opd, no_more, and_then, first, blocks, exec, returns, enter}
use types.ByLocal.{alloc_all, pass_all, free_all, look_at, get, get_in, sets, lands_last, env}
use types.Part.{sub, whole}
use contract.Monad.{fact, fact_i}
use contract.BorrowLft.{◌⊑◌, ⊑_refl}
use contract.Running.{tables}
use denote.Exit.{yes}
use denote.RattleType.{RattleType, owns}
use denote.Signature.{types_at, plain}
use denote.RawPtr.{ptr_val}
use denote.Steps.{nothing, only, heard}
use denote.Param.{layout}
use denote.Param.NoDrop as NoDrop
use denote.Triple.Clauses.{Lasts, lasts}
use denote.Triple.Entry.{alive}
use denote.Triple.Spec.{triple_of}
use denote.Triple.Call.{calls_at_last}
use denote.Triple.Table.{framed}
use denote.Triple.Walked.{walk_of}
use Rattle.std.proofs.impls.GlobalAllocator.TheImpl.Met as allocates
use Rattle.std_alloc.proofs.BoxSteps.Form as box
use Rattle.std_alloc.specs.contracts.boxed.Box.from_raw as g
use Rattle.macmem_c.proofs.Pointing.{pointing, pointing-good, pointer-good, parts_out}
use Rattle.macmem_c.proofs.Keeps.{HeapRow, HeapLaws, KeptRow, ZoneArg, HeapArg, ZoneArgLaws, HeapArgLaws}
use Rattle.macmem_c.proofs.Keeps.{no_drop, ZoneBox, some_kept}
use Rattle.macmem_c.specs.contracts.kept.Kept as kept
use Rattle.macmem_c.specs.contracts.kept.Kept.into_box as f
use Rattle.macmem_c.proofs.kept.Kept.into_box.Code as code
use Rattle.macmem_c.proofs.kept.Kept.into_box.Statement.{statement}

abbrev BoxRow : RattleType
BoxRow = box.B ZoneBox

pub into_box_spec : {M : Type 1} → statement M
unfolding Rattle.macmem_c.proofs.Destruct++none.drop.Code.code
into_box_spec {M} 𝓤 𝓛 𝓜 𝓡 wired =
    let stayed = all_gone f.ended in let c = f.clauses 𝓛 𝓜.mem 𝓡.returns in let 𝓣 = tables 𝓤 𝓛.H 𝓜 𝓡 𝓡.env in
    let callee =
    triple_of 𝓛 (g.signature ZoneArg HeapArg ghosts dict no_drop) (g.spec ZoneArg HeapArg ghosts dict no_drop 𝓛 𝓜.mem 𝓡.returns) in
    let met_here = met 𝓤 𝓛 𝓜 𝓡 (code.calls-std_alloc::boxed::Box::from_raw 𝓡.env wired) ZoneArg HeapArg ZoneArgLaws
    HeapArgLaws ghosts dict no_drop (allocates.passed 𝓡.env (code.calls-std_heap::GlobalAllocator::allocate 𝓡.env wired)
    (code.calls-std_heap::GlobalAllocator::deallocate 𝓡.env wired) (code.calls-std_heap::GlobalAllocator::grow 𝓡.env wired)
    (code.calls-std_heap::GlobalAllocator::shrink 𝓡.env wired) M 𝓤 𝓛 𝓜 𝓡) (NoDrop.glues "macmem_c::Destruct++none::drop" 𝓡.env
    (code.calls-macmem_c::Destruct++none::drop 𝓡.env wired) HeapArg HeapArgLaws M 𝓤 𝓛 𝓜 𝓡) in
    let of = kept.the_type in let token = ‵ (flft [] full_share) in
    proved_at 𝓛 f.ended stayed c 𝓜 𝓡 (Goes-blank 𝓛 0 (plain (λ _. KeptRow)) yes (λ κs x h. tt), tt)
    f.Key.name code.function (code.unfolded 𝓤 𝓛.H 𝓜 𝓡 wired) (λ y are.
    let v = y.0.3.0 in let a = v.alloc in let Post : Val → SProp 𝓤 = (walk_of 𝓛 f.ended stayed c).post y in
    qed 𝓛 ((raw (alive 𝓛 f.signature y.0.0 y.0.1) ⊛ ‵ (owns (types_at f.signature.params y.0.0) y.0.3 y.0.4))
    ∷ raw (fact 𝓤 (IsSome v.heap)) ∷ []) ∵
    move ! (1 ∷ []) $ heard ! (IsSome v.heap) (λ full.
    split ! $ move ! (1 ∷ []) $ fsplit ! $ fsplit ! $
    parts_out of.name of.args of.types HeapRow HeapLaws ghosts ! v.at a y.0.4.0 (λ h is fits.
    -- [the allocator; what is kept; nothing; the tokens]
    move ! (1 ∷ []) $ some_kept ! (ghosts.dealloc_token a) v.at v.heap full (λ x kept_is.
    let w = pointing v.at h in let good = pointing-good of.name HeapRow v.at h fits in
    let z : callee.Ghost = ((([], ([], tt)), (full_share, (full_share, tt)), tt, (a, (v.at, tt)), (h ∷ [], (ptr_val v.at ∷ [], tt))), x) in
    use0 𝓛 (raw (fact 𝓤 ([] ⊑ []))) (fact_i 𝓤 ([] ⊑ []) (emp 𝓤) (⊑_refl [])) $ join ! $
    use0 𝓛 (raw (fact 𝓤 ([] ⊑ []))) (fact_i 𝓤 ([] ⊑ []) (emp 𝓤) (⊑_refl [])) $ join ! $
    move ! (2 ∷ []) $ feq_i ! (List Val) (ptr_val v.at ∷ []) (ptr_val v.at ∷ []) refl $ fjoin ! $ move ! (2 ∷ 0 ∷ []) $ fjoin ! $
    nothing ! $ use0 𝓛 token (𝓛.lfts.lft-nil full_share) $ join ! $ use0 𝓛 token (𝓛.lfts.lft-nil full_share) $ join ! $
    join ! $ join ! $ use1 𝓛 (raw (callee.pre z)) (id⊢ 𝓤 _) $
    regoal ! (λ (us : List Val). prop (WpFn 𝓤 𝓛.H 𝓣.C 𝓣.Λ code.function us Post)) (λ i. is i ++ []) refl $
    enter ! 𝓣.C 𝓣.Λ code.function (w ∷ []) Post $ alloc_all ! (λ l. pass_all ! refl (good, tt) $
    let frame = env code.function.locals l in
    sets ! (of_opd ! (get_in ! (fld ! refl (stop !)) (sub ! 0 refl (whole !)))) refl (pointer-good v.at) $
    sets ! (of_opd ! (get_in ! (fld ! refl (stop !)) (sub ! 1 refl (whole !)))) refl fits $
    first ! $ blocks ! $ sets ! (of_opd ! (get ! refl)) refl (pointer-good v.at) $
    calls_at_last ! (framed 𝓤 𝓛.H 𝓜 𝓣) callee met_here z (and_then ! (get ! refl) (and_then ! (get ! refl) (no_more !))) (λ u.
    use1 𝓛 (later (some (λ (r : BoxRow.Denot). ((token ⊛ token ⊛ ‵ ftrue) ⊛ ‵ (BoxRow.own_val r (u ∷ [])))
    ⊛ some (λ (ls : Lasts (g.ended ZoneArg HeapArg ghosts dict no_drop) z.0.0 z.0.3).
    ‵ (lasts (g.ended ZoneArg HeapArg ghosts dict no_drop) z.0.0 z.0.3 ls)
    ⊛ (raw (fact 𝓤 (r.value ≡ x)) ⊛ raw (fact 𝓤 (r.alloc ≡ a))))))) (id⊢ 𝓤 (callee.post z u)) $
    await ! tt $ pick ! (λ r. split ! $ move ! (1 ∷ []) $ pick ! (λ _. split3 ! $ drop ! $
    heard ! (r.value ≡ x) (λ same. drop ! $ split ! $ drop ! $
    -- [the box; the tokens]
    box_out ZoneBox ! r (u ∷ []) (λ b o hv at us typed. box_in ZoneBox ! r b o r.value at refl $
    rewrite ! 0 (λ (xs : List Val). ‵ (BoxRow.own_val r xs)) (sym us) refl $
    let landed : Good (layout BoxRow) u = subst (Good (layout BoxRow)) (sym (ap only us)) (box.box_typed ZoneBox hv b o typed) in
    lands_last ! refl landed $ exec ! 𝓣.C 𝓣.Λ frame (after 3 code.function.body) (at_ret frame Post) $
    sets ! (of_opd ! (get ! refl)) refl landed $
    use0 𝓛 (raw (fact 𝓤 (v.heap ≡ Some r.value))) (fact_i 𝓤 (v.heap ≡ Some r.value) (emp 𝓤) (kept_is ∙ ap Some (sym same))) $
    nothing ! $ nothing ! $ fjoin ! $
    returns ! (look_at ! 0 refl) $ free_all ! refl $ keep ! (3 ∷ 0 ∷ 2 ∷ 1 ∷ []) $
    by ! (leaves 𝓛 f.ended stayed c y u r (tt, tt) (tt, tt))))))))))))
