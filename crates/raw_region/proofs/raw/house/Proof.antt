-- The bytes of a run, and the room past them, are lent to a `Vec` over them. Assumes `Logic`.
use Rattle.raw_region.proofs.Cited.{◌≡◌, ℕ, ◌+◌, ◌^◌, ◌<◌, ◌≤◌, List, [], ◌∷◌, ◌++◌, length, refl, sym, ap, ◌∙◌, subst, arith, Vec, after}
use Rattle.raw_region.proofs.Cited.{Goes-blank, proved_at, lodged, Lodged, run_owns}
use Rattle.std_alloc.proofs.vec.lodge.Met as lodge
use Rattle.std_alloc.specs.contracts.vec.lodge as g
use base.Fml.{ftrue, fsep, flft}
use base.Fraction.{full_share}
use base.Logic.{emp, id⊢}
use contract.BorrowLft.{◌⊑◌, ⊑_refl}
use contract.Monad.{fact, fact_i}
use contract.Running.{tables}
use denote.Builtin.{u8, usize, RawPtr}
use denote.Exit.{yes}
use denote.RattleType.{owns}
use denote.RawPtr.{block_ptr, ptr_val, in_a_block, ◌+ₚ◌}
use denote.Signature.{plain, types_at}
use denote.Steps.{nothing, heard, only}
use denote.Triple.Call.{calls_at_last}
use denote.Triple.Entry.{alive}
use denote.Triple.Spec.{triple_of}
use denote.Triple.Table.{framed}
use denote.Triple.Walked.{walk_of, ends_at}
use mir.Syntax.{w64}
use mir.Val.{Val, vint, vptr}
use prog.Wp.{WpFn}
use types.ByLocal.{alloc_all, pass_all, free_all, look_at, get, sets, lands_last, env}
use types.Kit.{‵, group, raw, ◌⊛◌, some as exists, later, prop, at_ret, ◌$◌, ◌∵◌, !, qed, move, drop, suffices, done}
use types.Kit.{split}
use types.Kit.{split3, join, pick, await, fsplit, fjoin, feq_l, feq_i, flt_l, flt_i, regoal, rewrite, use0, use1}
use types.Run.{enter, returns, of_opd, no_more, and_then, first, blocks, exec}
use Rattle.raw_region.specs.contracts.raw.OwnBytes as R
use Rattle.raw_region.specs.contracts.raw.house as f
use Rattle.raw_region.proofs.Blocks.{housed}
use Rattle.raw_region.proofs.Frames.{byte_laws}
use Rattle.raw_region.proofs.Leaving.{all_gone, shown}
use Rattle.raw_region.proofs.Runs.{nowhere}
use Rattle.raw_region.proofs.Lodged.{Lent, lent-laws}
use Rattle.raw_region.proofs.Steps.{Fits, seen, run_had}
use Rattle.raw_region.proofs.raw.house.Code as code
use Rattle.raw_region.proofs.raw.house.Statement.{statement}

pub house_spec : {M : Type 1} → statement M
house_spec 𝓤 𝓛 𝓜 𝓡 wired =
    let stayed = all_gone f.ended in
    let c = f.clauses 𝓛 𝓜.mem 𝓡.returns in let 𝓣 = tables 𝓤 𝓛.H 𝓜 𝓡 𝓡.env in
    let ptr_gone = Goes-blank 𝓛 0 (plain (λ _. RawPtr)) yes (λ κs x f. tt) in
    let len_gone = Goes-blank 𝓛 0 (plain (λ _. usize)) yes (λ κs x f. tt) in
    let run_gone = Goes-blank 𝓛 0 (plain (λ _. R.the_row)) yes (λ κs x f. tt) in
    let G = triple_of 𝓛 (g.signature u8) (g.spec u8 𝓛 𝓜.mem 𝓡.returns) in
    proved_at 𝓛 f.ended stayed c 𝓜 𝓡 (ptr_gone, (len_gone, (len_gone, (run_gone, tt)))) f.Key.name code.function
    (code.unfolded 𝓤 𝓛.H 𝓜 𝓡 wired) (λ y are.
    let p = y.0.3.0 in let n = y.0.3.1.0 in let k = y.0.3.1.1.0 in let r = y.0.3.1.1.1.0 in let vss = y.0.4 in
    let xs = r.items in
    let There = r.home +ₚ r.at ≡ p in let Whole = length xs ≡ n in let Room = n + r.room ≡ k in let Some = 0 < k in
    let Small = k < 2 ^ 63 in
    let Post = (walk_of 𝓛 f.ended stayed c).post y in
    qed 𝓛 ((raw (alive 𝓛 f.signature y.0.0 y.0.1) ⊛ ‵ (owns (types_at f.signature.params y.0.0) y.0.3 vss))
    ∷ (raw (fact 𝓤 There) ⊛ raw (fact 𝓤 Whole) ⊛ raw (fact 𝓤 Room) ⊛ raw (fact 𝓤 Some) ⊛ raw (fact 𝓤 Small)) ∷ []) ∵
    move ! (1 ∷ []) $ split3 ! $
    heard ! There (λ there. heard ! Whole (λ long. split3 ! $
    heard ! Room (λ full. heard ! Some (λ some. heard ! Small (λ small. split ! $ move ! (1 ∷ []) $
    fsplit ! $
    feq_l ! (λ is. fsplit ! $ fsplit ! $
    feq_l ! (λ is'. flt_l ! (λ fits. fsplit ! $ fsplit ! $
    feq_l ! (λ is₂. flt_l ! (λ fits₂. fsplit ! $ run_had ! r vss.1.1.1.0 (λ is''. move ! (1 ∷ []) $ drop ! $
    rewrite ! 0 (λ q. ‵ (run_owns q xs r.room)) there refl $
    in_a_block ! p (λ q. run_owns q xs r.room) (nowhere 𝓛 xs r.room) (λ b o at.
    regoal ! (λ (us : List Val).
    prop (WpFn 𝓤 𝓛.H 𝓣.C 𝓣.Λ code.function (us ++ (vss.1.0 ++ (vss.1.1.0 ++ (vss.1.1.1.0 ++ [])))) Post))
    (is ∙ ap (λ q. ptr_val q ∷ []) at) refl $
    regoal ! (λ (us : List Val).
    prop (WpFn 𝓤 𝓛.H 𝓣.C 𝓣.Λ code.function ((vptr b o ∷ []) ++ (us ++ (vss.1.1.0 ++ (vss.1.1.1.0 ++ [])))) Post)) is' refl $
    let Given = λ (us ws : List Val). (vptr b o ∷ []) ++ ((vint w64 n ∷ []) ++ (us ++ (ws ++ []))) in
    regoal ! (λ (us : List Val). prop (WpFn 𝓤 𝓛.H 𝓣.C 𝓣.Λ code.function (Given us vss.1.1.1.0) Post)) is₂ refl $
    regoal ! (λ (us : List Val). prop (WpFn 𝓤 𝓛.H 𝓣.C 𝓣.Λ code.function (Given (vint w64 k ∷ []) us) Post)) is'' refl $
    enter ! _ _ _ _ _ $ alloc_all ! (λ l.
    pass_all ! refl ((tt, tt), ((tt, record { fits = fits }), ((tt, record { fits = fits₂ }), ((tt, tt), tt)))) $
    first ! $ blocks ! $
    -- what `lodge` asks for: the bytes, two facts, its arguments and a token
    let Lodges : Type 0 = (n ≡ length xs) × (n ≤ k) × (k < 2 ^ 63) in
    let z : G.Ghost = (
      (
        ([], tt),
        (full_share, tt),
        tt,
        (block_ptr b o, (n, (k, tt))),
        (vptr b o ∷ [], (vint w64 n ∷ [], (vint w64 k ∷ [], tt))),
      ),
      xs,
    ) in
    use1 𝓛 (‵ (lodged u8 (block_ptr b o) n k xs))
    (housed 𝓛 (block_ptr b o) xs n k r.room long full some small) $
    use0 𝓛 (raw (fact 𝓤 Lodges)) (fact_i 𝓤 Lodges (emp 𝓤) (sym long, omega (arith, full), small)) $ join ! $
    use0 𝓛 (raw (fact 𝓤 ([] ⊑ []))) (fact_i 𝓤 ([] ⊑ []) (emp 𝓤) (⊑_refl [])) $ join ! $
    nothing ! $ flt_i ! k (2 ^ 64) fits₂ $ feq_i ! (List Val) (vint w64 k ∷ []) (vint w64 k ∷ []) refl $ fjoin ! $
    fjoin ! $
    flt_i ! n (2 ^ 64) fits $ feq_i ! (List Val) (vint w64 n ∷ []) (vint w64 n ∷ []) refl $ fjoin ! $ fjoin ! $
    feq_i ! (List Val) (vptr b o ∷ []) (vptr b o ∷ []) refl $ fjoin ! $
    nothing ! $ use0 𝓛 (‵ (flft [] full_share)) (𝓛.lfts.lft-nil full_share) $ join ! $ join ! $ join ! $
    use1 𝓛 (raw (G.pre z)) (id⊢ 𝓤 _) $
    calls_at_last ! (framed 𝓤 𝓛.H 𝓜 𝓣) G
    (lodge.met 𝓤 𝓛 𝓜 𝓡 (code.calls-std_alloc::vec::lodge 𝓡.env wired) u8 byte_laws) z
    (and_then ! (get ! refl) (and_then ! (get ! refl) (and_then ! (get ! refl) (no_more !)))) (λ v.
    let Is = λ (d : Vec ℕ Lodged). (d.items ≡ xs) × (d.len ≡ n) × (d.cap ≡ k) × (d.ptr ≡ block_ptr b o) in
    use1 𝓛 (later (exists (λ (d : Vec ℕ Lodged). ((‵ (flft [] full_share) ⊛ ‵ ftrue) ⊛ ‵ (Lent.own_val d (v ∷ [])))
    ⊛ exists (λ (ws : Unit {0} × (Unit {0} × (Unit {0} × Unit {0}))).
    ‵ (fsep ftrue (fsep ftrue (fsep ftrue ftrue))) ⊛ raw (fact 𝓤 (Is d)))))) (id⊢ 𝓤 _) $
    await ! tt $
    pick ! (λ d. split ! $ split ! $ drop ! $ move ! (1 ∷ []) $
    pick ! (λ ws. split ! $ drop ! $ heard ! (Is d) (λ made.
    seen ! Lent lent-laws d (v ∷ []) (λ u same fine.
    let good : Fits Lent v = subst (Fits Lent) (sym (ap only same)) fine in
    rewrite ! 0 (λ w. ‵ (Lent.own_val d (w ∷ []))) (sym (ap only same)) refl $ lands_last ! refl good $
    exec ! 𝓣.C 𝓣.Λ (env code.function.locals l) (after 1 code.function.body)
    (at_ret (env code.function.locals l) Post) $
    sets ! (of_opd ! (get ! refl)) refl good $
    returns ! (look_at ! 0 refl) $ free_all ! refl $
    suffices ! _ (ends_at 𝓛 f.ended stayed c y v d (tt, (tt, (tt, (tt, tt)))) (tt, (tt, (tt, (tt, tt))))) $
    nothing ! $ nothing ! $ fjoin ! $ nothing ! $ fjoin ! $ nothing ! $ fjoin ! $ nothing ! $ fjoin ! $
    move ! (2 ∷ 0 ∷ 1 ∷ []) $ group ! 3 $
    shown 𝓛 (d.ptr ≡ p) (made.3 ∙ sym at) $ shown 𝓛 (d.cap ≡ k) (made.2) $ shown 𝓛 (d.len ≡ n) (made.1) $
    shown 𝓛 (d.items ≡ xs) (made.0) $
    move ! (4 ∷ []) $ done !)))))))))))))))))))
