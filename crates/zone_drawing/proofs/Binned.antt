use Rattle.zone_drawing.proofs.Cited.{◌≡◌, ℕ, ◌+◌, true, false, List, [], ◌∷◌, ◌++◌, if◌then◌else◌, arith, ap, sym, ◌∙◌, append_assoc}
use Rattle.zone_drawing.proofs.Cited.{flat_map, line_sizes, Line, bins, bin_text, bins_text, is_full, Layer, Window}

-- The bins of a strip, and the bytes of one.

-- a bin has the bytes of a block more that is put into it
pub sizes_more : (bin : List Line) (b : Line) → line_sizes (bin ++ (b ∷ [])) ≡ line_sizes bin + b.size
sizes_more [] b = omega arith
sizes_more (a ∷ bin) b = grind (arith, sizes_more bin b)

-- a block that begins another bin
pub bin_ends : (y : Layer) (w : Window) (least size : ℕ) (bin rest left grown : List Line) (b : Line) (old new all : List ℕ)
    → is_full least size b ≡ true → size ≡ line_sizes bin → left ≡ b ∷ rest
    → old ++ bins_text y w least bin left ≡ all → new ≡ old ++ bin_text y w bin → grown ≡ b ∷ []
    → new ++ bins_text y w least grown rest ≡ all
bin_ends y w least size bin rest left grown b old new all full is from so put one =
    ap (λ g. new ++ bins_text y w least g rest) one
    ∙ ap (λ t. t ++ bins_text y w least (b ∷ []) rest) put
    ∙ append_assoc old (bin_text y w bin) (bins_text y w least (b ∷ []) rest)
    ∙ ap (λ t. old ++ flat_map (bin_text y w) (if t then bin ∷ bins least (b ∷ []) rest else bins least (bin ++ (b ∷ [])) rest))
    (sym full ∙ ap (λ s. is_full least s b) is)
    ∙ ap (λ l. old ++ bins_text y w least bin l) (sym from) ∙ so

-- a block that goes into the bin
pub bin_grows : (y : Layer) (w : Window) (least size : ℕ) (bin rest left grown : List Line) (b : Line) (old all : List ℕ)
    → is_full least size b ≡ false → size ≡ line_sizes bin → left ≡ b ∷ rest
    → old ++ bins_text y w least bin left ≡ all → grown ≡ bin ++ (b ∷ [])
    → old ++ bins_text y w least grown rest ≡ all
bin_grows y w least size bin rest left grown b old all full is from so more =
    ap (λ g. old ++ bins_text y w least g rest) more
    ∙ ap (λ t. old ++ flat_map (bin_text y w) (if t then bin ∷ bins least (b ∷ []) rest else bins least (bin ++ (b ∷ [])) rest))
    (sym full ∙ ap (λ s. is_full least s b) is)
    ∙ ap (λ l. old ++ bins_text y w least bin l) (sym from) ∙ so
