use Rattle.block_store.proofs.Cited.{◌≡◌, true, false, List, [], ◌∷◌, ◌++◌, refl, sym, ◌∙◌, ap, cond, append-nil, Block, segments, joined}
use Rattle.block_store.proofs.Cited.{in_run, put_below, Segments, Stretch, beyond}

joined-cons : (b : Block) (run : List Block) (rest : List Stretch) → joined (b ∷ run) rest ≡ b ∷ joined run rest
joined-cons b run [] = refl
joined-cons b run (p ∷ rest) = refl

joined-put_below : (b : Block) (s : Segments) → joined (put_below b s).first (put_below b s).rest
    ≡ b ∷ joined s.first s.rest
joined-put_below b s =
    elim (in_run b) as (λ t. let put : Segments = cond t (record { first = b ∷ s.first; rest = s.rest })
    (record { first = []; rest = record { barrier = b; run = s.first } ∷ s.rest }) in
    joined put.first put.rest ≡ b ∷ joined s.first s.rest)
    [ true ↦ joined-cons b s.first s.rest | false ↦ refl ]

-- the segments of a zone, put together again, are the zone
pub joined-segments : (zone : List Block) → joined (segments zone).first (segments zone).rest ≡ zone
joined-segments [] = refl
joined-segments (b ∷ above) = joined-put_below b (segments above) ∙ ap (λ l. b ∷ l) (joined-segments above)

-- a run and what follows it
pub joined-is : (run : List Block) (parts : List Stretch) → joined run parts ≡ run ++ beyond parts
joined-is run [] = sym (append-nil run)
joined-is run (p ∷ parts) = refl
