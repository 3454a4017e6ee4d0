-- What lies behind the first run of some blocks.
use Rattle.block_store.proofs.Cited.{◌≡◌, cond, List, [], ◌∷◌, ◌++◌, refl, ◌∙◌, ap, Block, beyond, Segments, segments, Loose}
use Rattle.block_store.proofs.Regroup.Ends.{Stops}
use Rattle.block_store.proofs.Zone.Zones.{joined-segments}

-- what follows the first run, which a barrier ends
pub beyond-first : (run above : List Block) → Loose run → Stops above → beyond (segments (run ++ above)).rest ≡ above
beyond-first [] [] l s = refl
beyond-first [] (b ∷ above) l s =
    ap (λ t. beyond (cond {A = Segments} t (record { first = b ∷ (segments above).first; rest = (segments above).rest })
    (record { first = []; rest = record { barrier = b; run = (segments above).first } ∷ (segments above).rest })).rest)
    s
    ∙ ap (λ q. b ∷ q) (joined-segments above)
beyond-first (b ∷ run) above l s =
    let all = run ++ above in
    ap (λ t. beyond (cond {A = Segments} t (record { first = b ∷ (segments all).first; rest = (segments all).rest })
    (record { first = []; rest = record { barrier = b; run = (segments all).first } ∷ (segments all).rest })).rest) l.0
    ∙ beyond-first run above l.1 s
