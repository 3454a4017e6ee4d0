-- No bytes, and no room after them, are made of nothing. Assumes `Logic`.
use Rattle.raw_region.proofs.Cited.{[], ◌∷◌, refl, proved_at, run_owns, OwnBytes}
use denote.RawPtr.{block_ptr}
use denote.Triple.Entry.{alive}
use denote.Triple.Walked.{says, ends_at}
use types.ByLocal.{alloc_all, pass_all, free_all, look_at, sets}
use types.Kit.{‵, raw, ◌⊛◌, ◌$◌, ◌∵◌, !, qed, move, drop, suffices, done, split, use0}
use types.Part.{agg}
use types.Run.{enter, returns, no_more}
use base.Fml.{ftrue}
use Rattle.raw_region.specs.contracts.raw.OwnBytes.empty as f
use Rattle.raw_region.proofs.raw.OwnBytes.empty.Statement.{statement}
use Rattle.raw_region.proofs.raw.OwnBytes.empty.Code as code
use Rattle.raw_region.proofs.Leaving.{all_gone}
use Rattle.raw_region.proofs.Runs as Runs
use Rattle.raw_region.proofs.Steps.{bare, run_made}

pub empty_spec : {M : Type 1} → statement M
empty_spec 𝓤 𝓛 𝓜 𝓡 wired =
    let stayed = all_gone f.ended in
    let c = f.clauses 𝓛 𝓜.mem 𝓡.returns in
    let made : OwnBytes = record { home = block_ptr 0 0; at = 0; items = []; room = 0 } in
    proved_at 𝓛 f.ended stayed c 𝓜 𝓡 tt f.Key.name code.function (code.unfolded 𝓤 𝓛.H 𝓜 𝓡 wired) (λ y are.
    qed 𝓛 ((raw (alive 𝓛 f.signature y.0.0 y.0.1) ⊛ ‵ ftrue) ∷ ‵ ftrue ∷ []) ∵ move ! (1 ∷ []) $ drop ! $ split ! $
    enter ! _ _ _ _ _ $ alloc_all ! (λ l. pass_all ! refl tt $
    sets ! (agg ! (no_more !)) refl (tt, tt) $
    use0 𝓛 (‵ (run_owns (block_ptr 0 0) [] 0)) (Runs.no_run 𝓛 0 0) $ run_made ! made $
    returns ! (look_at ! 0 refl) $ free_all ! refl $
    suffices ! _ (ends_at 𝓛 f.ended stayed c y bare made tt tt) $ says ! refl $
    -- [the run; the tokens; no parameter]
    move ! (1 ∷ 2 ∷ 0 ∷ []) $ done !))
