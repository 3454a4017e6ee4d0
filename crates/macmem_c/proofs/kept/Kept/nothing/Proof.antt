-- `nothing` puts a null pointer beside the allocator. It owns nothing.
use Rattle.macmem_c.proofs.Cited.{◌≡◌, List, [], ◌∷◌, ◌++◌, refl, None, one, proved_at, leaves, ghosts, all_gone}
use mir.Val.{Val}
use base.Logic.{SProp, emp}
use prog.Wp.{WpFn}
use types.Kit.{‵, raw, ◌⊛◌, prop, ◌$◌, ◌∵◌, !, qed, by, move, keep, split, fsplit, fjoin, use0, regoal, rewrite}
use types.Part.{agg}
use types.Run.{lit, no_more, and_then, returns, enter}
use types.ByLocal.{alloc_all, pass_all, free_all, look_at, get, sets}
use contract.Monad.{fact, fact_i}
use contract.Running.{tables}
use denote.Exit.{yes}
use denote.RattleType.{owns}
use denote.Signature.{types_at, plain}
use denote.RawPtr.{null_ptr}
use denote.Steps.{nothing}
use denote.Param.{layout}
use denote.Triple.Entry.{alive}
use denote.Triple.Walked.{walk_of, Goes-dropped}
use Rattle.macmem_c.proofs.Pointing.{pointing, pointing-good, parts_in}
use Rattle.macmem_c.proofs.Keeps.{HeapRow, HeapLaws}
use Rattle.macmem_c.specs.contracts.kept.Kept as kept
use Rattle.macmem_c.specs.contracts.kept.Kept.nothing as f
use Rattle.macmem_c.proofs.kept.Kept.nothing.Code as code
use Rattle.macmem_c.proofs.kept.Kept.nothing.Statement.{statement}

pub nothing_spec : {M : Type 1} → statement M
nothing_spec 𝓤 𝓛 𝓜 𝓡 wired =
    let stayed = all_gone f.ended in let c = f.clauses 𝓛 𝓜.mem 𝓡.returns in let 𝓣 = tables 𝓤 𝓛.H 𝓜 𝓡 𝓡.env in
    proved_at 𝓛 f.ended stayed c 𝓜 𝓡 (Goes-dropped 𝓛 0 (plain (λ _. HeapRow)) yes (λ κs x w. refl), tt)
    f.Key.name code.function (code.unfolded 𝓤 𝓛.H 𝓜 𝓡 wired) (λ y are.
    let a = y.0.3.0 in let Post : Val → SProp 𝓤 = (walk_of 𝓛 f.ended stayed c).post y in
    let h = one (layout HeapRow) y.0.4.0 ((HeapLaws.lawful 𝓛).typed a y.0.4.0 are.0) in
    let w = pointing null_ptr h.0 in let good = pointing-good (kept.the_type).name HeapRow null_ptr h.0 h.2 in
    qed 𝓛 ((raw (alive 𝓛 f.signature y.0.0 y.0.1) ⊛ ‵ (owns (types_at f.signature.params y.0.0) y.0.3 y.0.4))
    ∷ raw ((c y.0.0 y.0.3).requires y.1) ∷ []) ∵
    split ! $ move ! (1 ∷ []) $ fsplit ! $
    rewrite ! 0 (λ (us : List Val). ‵ (HeapRow.own_val a us)) h.1 refl $
    regoal ! (λ (us : List Val). prop (WpFn 𝓤 𝓛.H 𝓣.C 𝓣.Λ code.function us Post)) (λ i. h.1 i ++ []) refl $
    enter ! 𝓣.C 𝓣.Λ code.function (h.0 ∷ []) Post $ alloc_all ! (λ l. pass_all ! refl (h.2, tt) $
    sets ! (agg ! (and_then ! (lit ! tt) (and_then ! (get ! refl) (no_more !)))) refl good $
    parts_in (kept.the_type).name (kept.the_type).args (kept.the_type).types HeapRow HeapLaws ghosts ! null_ptr a h.0 $
    nothing ! $ move ! (1 ∷ 0 ∷ []) $ fjoin ! $
    use0 𝓛 (raw (fact 𝓤 (None ≡ None))) (fact_i 𝓤 (None ≡ None) (emp 𝓤) refl) $ nothing ! $ nothing ! $ fjoin ! $
    returns ! (look_at ! 0 refl) $ free_all ! refl $ keep ! (4 ∷ 0 ∷ 2 ∷ 1 ∷ []) $
    by ! (leaves 𝓛 f.ended stayed c y w (record { at = null_ptr; alloc = a; heap = None }) (tt, tt) (tt, tt))))
