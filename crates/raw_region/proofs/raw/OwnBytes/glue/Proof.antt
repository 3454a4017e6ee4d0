-- The bytes of two runs, the second right behind the first, are one run's, with the room of the second. Assumes `Logic`.
use Rattle.raw_region.proofs.Cited.{◌≡◌, ◌+◌, List, [], ◌∷◌, ◌++◌, length, refl, sym, ◌∙◌, proved_at, Goes-blank, run_owns, OwnBytes}
use denote.RawPtr.{◌+ₚ◌}
use contract.Monad.{fact}
use denote.Exit.{yes}
use denote.RattleType.{owns}
use denote.Signature.{plain, types_at}
use denote.Steps.{nothing, heard}
use denote.Triple.Entry.{alive}
use denote.Triple.Walked.{walk_of, ends_at}
use mir.Val.{Val}
use prog.Wp.{WpFn}
use contract.Running.{tables}
use types.ByLocal.{alloc_all, pass_all, free_all, look_at, sets}
use types.Kit.{‵, group, raw, ◌⊛◌, prop, ◌$◌, ◌∵◌, !, qed, move, drop, suffices, done, split, fsplit, fjoin, regoal}
use types.Kit.{rewrite}
use types.Kit.{use2}
use types.Part.{agg}
use types.Run.{enter, returns, no_more}
use Rattle.raw_region.specs.contracts.raw.OwnBytes as R
use Rattle.raw_region.specs.contracts.raw.OwnBytes.glue as f
use Rattle.raw_region.proofs.raw.OwnBytes.glue.Statement.{statement}
use Rattle.raw_region.proofs.raw.OwnBytes.glue.Code as code
use Rattle.raw_region.proofs.Leaving.{all_gone, shown}
use Rattle.raw_region.proofs.Runs.{further, glue_at}
use Rattle.raw_region.proofs.Steps.{bare, run_had, run_made}

pub glue_spec : {M : Type 1} → statement M
glue_spec 𝓤 𝓛 𝓜 𝓡 wired =
    let stayed = all_gone f.ended in
    let c = f.clauses 𝓛 𝓜.mem 𝓡.returns in let 𝓣 = tables 𝓤 𝓛.H 𝓜 𝓡 𝓡.env in
    let gone = Goes-blank 𝓛 0 (plain (λ _. R.the_row)) yes (λ κs x f. tt) in
    proved_at 𝓛 f.ended stayed c 𝓜 𝓡 (gone, (gone, tt)) f.Key.name code.function (code.unfolded 𝓤 𝓛.H 𝓜 𝓡 wired)
    (λ y are.
    let r = y.0.3.0 in let s = y.0.3.1.0 in let vss = y.0.4 in
    let Home = s.home ≡ r.home in let Behind = s.at ≡ r.at + length r.items in
    let made : OwnBytes = record { home = r.home; at = r.at; items = r.items ++ s.items; room = s.room } in
    let Post = (walk_of 𝓛 f.ended stayed c).post y in
    qed 𝓛 ((raw (alive 𝓛 f.signature y.0.0 y.0.1) ⊛ ‵ (owns (types_at f.signature.params y.0.0) y.0.3 vss))
    ∷ (raw (fact 𝓤 Home) ⊛ raw (fact 𝓤 Behind)) ∷ []) ∵
    move ! (1 ∷ []) $ split ! $ heard ! Home (λ home. heard ! Behind (λ behind. split ! $ move ! (1 ∷ []) $
    fsplit ! $
    run_had ! r vss.0 (λ is. move ! (1 ∷ []) $ fsplit ! $ run_had ! s vss.1.0 (λ is'. move ! (1 ∷ []) $ drop ! $
    regoal ! (λ (us : List Val). prop (WpFn 𝓤 𝓛.H 𝓣.C 𝓣.Λ code.function (us ++ (vss.1.0 ++ [])) Post)) is refl $
    regoal ! (λ (us : List Val). prop (WpFn 𝓤 𝓛.H 𝓣.C 𝓣.Λ code.function ((bare ∷ []) ++ (us ++ [])) Post)) is' refl $
    enter ! _ _ _ _ _ $ alloc_all ! (λ l. pass_all ! refl ((tt, tt), ((tt, tt), tt)) $
    sets ! (agg ! (no_more !)) refl (tt, tt) $
    -- [the second's bytes; the first's; the tokens]
    let there : s.home +ₚ s.at ≡ (r.home +ₚ r.at) +ₚ length r.items = (λ j. home j +ₚ behind j)
    ∙ sym (further r.home r.at (length r.items)) in
    rewrite ! 0 (λ p. ‵ (run_owns p s.items s.room)) there refl $ move ! (1 ∷ 0 ∷ []) $
    use2 𝓛 (‵ (run_owns (r.home +ₚ r.at) (r.items ++ s.items) s.room))
    (glue_at 𝓛 (r.home +ₚ r.at) r.items s.items r.room s.room) $
    run_made ! made $
    returns ! (look_at ! 0 refl) $ free_all ! refl $
    suffices ! _ (ends_at 𝓛 f.ended stayed c y bare made (tt, (tt, tt)) (tt, (tt, tt))) $
    nothing ! $ nothing ! $ fjoin ! $ nothing ! $ fjoin ! $ move ! (2 ∷ 0 ∷ 1 ∷ []) $ group ! 3 $
    shown 𝓛 (made.room ≡ s.room) refl $ shown 𝓛 (made.items ≡ r.items ++ s.items) refl $ shown 𝓛 (made.at ≡ r.at) refl $
    shown 𝓛 (made.home ≡ r.home) refl $
    move ! (4 ∷ []) $ done !))))))
