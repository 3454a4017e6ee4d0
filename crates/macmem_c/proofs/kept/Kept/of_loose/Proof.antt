-- `of_loose` keeps the pointer and the allocator of a box that was taken apart.
use Rattle.macmem_c.proofs.Cited.{◌≡◌, List, [], ◌∷◌, ◌++◌, refl, Goes-blank, proved_at, leaves, ghosts, all_gone}
use Rattle.std.specs.Prelude.{Some}
use mir.Val.{Val}
use base.Logic.{SProp, emp}
use prog.Wp.{WpFn}
use types.Kit.{‵, raw, ◌⊛◌, prop, ◌$◌, ◌∵◌, !, qed, by, move, keep, split, fsplit, fjoin, use0, regoal}
use types.Part.{agg, sub, whole}
use types.Run.{stop, fld, of_opd, no_more, and_then, returns, enter}
use types.ByLocal.{alloc_all, pass_all, free_all, look_at, get, get_in, sets}
use contract.Monad.{fact, fact_i}
use contract.Running.{tables}
use denote.Exit.{yes}
use denote.RattleType.{RattleType, owns}
use denote.Signature.{types_at, plain}
use denote.Steps.{nothing}
use denote.Triple.Entry.{alive}
use denote.Triple.Walked.{walk_of}
use Rattle.macmem_c.proofs.Pointing.{pointing, pointing-good, pointer-good, parts_out, parts_in}
use Rattle.macmem_c.proofs.Keeps.{ZoneRow, HeapRow, HeapLaws}
use Rattle.macmem_c.specs.contracts.loose.Loose as loose
use Rattle.macmem_c.specs.contracts.kept.Kept as kept
use Rattle.macmem_c.specs.contracts.kept.Kept.of_loose as f
use Rattle.macmem_c.proofs.kept.Kept.of_loose.Code as code
use Rattle.macmem_c.proofs.kept.Kept.of_loose.Statement.{statement}

abbrev Taken : RattleType
Taken = loose.the_row ZoneRow HeapRow ghosts

pub of_loose_spec : {M : Type 1} → statement M
of_loose_spec 𝓤 𝓛 𝓜 𝓡 wired =
    let stayed = all_gone f.ended in let c = f.clauses 𝓛 𝓜.mem 𝓡.returns in let 𝓣 = tables 𝓤 𝓛.H 𝓜 𝓡 𝓡.env in
    let from = loose.the_type ZoneRow HeapRow ghosts in let to = kept.the_type in
    proved_at 𝓛 f.ended stayed c 𝓜 𝓡 (Goes-blank 𝓛 0 (plain (λ _. Taken)) yes (λ κs x h. tt), tt)
    f.Key.name code.function (code.unfolded 𝓤 𝓛.H 𝓜 𝓡 wired) (λ y are.
    let v = y.0.3.0 in let a = v.alloc in let Post : Val → SProp 𝓤 = (walk_of 𝓛 f.ended stayed c).post y in
    qed 𝓛 ((raw (alive 𝓛 f.signature y.0.0 y.0.1) ⊛ ‵ (owns (types_at f.signature.params y.0.0) y.0.3 y.0.4))
    ∷ raw ((c y.0.0 y.0.3).requires y.1) ∷ []) ∵
    split ! $ move ! (1 ∷ []) $ fsplit ! $ fsplit ! $
    parts_out from.name from.args from.types HeapRow HeapLaws ghosts ! v.at a y.0.4.0 (λ h is fits.
    let w = pointing v.at h in let good = pointing-good to.name HeapRow v.at h fits in
    regoal ! (λ (us : List Val). prop (WpFn 𝓤 𝓛.H 𝓣.C 𝓣.Λ code.function us Post)) (λ i. is i ++ []) refl $
    enter ! 𝓣.C 𝓣.Λ code.function (w ∷ []) Post $ alloc_all ! (λ l. pass_all ! refl (good, tt) $
    sets ! (of_opd ! (get_in ! (fld ! refl (stop !)) (sub ! 0 refl (whole !)))) refl (pointer-good v.at) $
    sets ! (of_opd ! (get_in ! (fld ! refl (stop !)) (sub ! 1 refl (whole !)))) refl fits $
    sets ! (of_opd ! (get ! refl)) refl (pointer-good v.at) $
    sets ! (agg ! (and_then ! (get ! refl) (and_then ! (get ! refl) (no_more !)))) refl good $
    parts_in to.name to.args to.types HeapRow HeapLaws ghosts ! v.at a h $ fjoin ! $
    use0 𝓛 (raw (fact 𝓤 (Some v.value ≡ Some v.value))) (fact_i 𝓤 (Some v.value ≡ Some v.value) (emp 𝓤) refl) $
    nothing ! $ nothing ! $ fjoin ! $
    returns ! (look_at ! 0 refl) $ free_all ! refl $ keep ! (4 ∷ 0 ∷ 2 ∷ 1 ∷ []) $
    by ! (leaves 𝓛 f.ended stayed c y w (record { at = v.at; alloc = a; heap = Some v.value }) (tt, tt) (tt, tt)))))
