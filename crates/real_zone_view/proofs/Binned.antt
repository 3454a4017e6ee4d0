use Rattle.real_zone_view.proofs.Cited.{◌≡◌, ℕ, ◌+◌, true, false, List, [], ◌∷◌, ◌++◌, Option, if◌then◌else◌, arith, ap, sym, ◌∙◌}
use Rattle.real_zone_view.proofs.Cited.{append_assoc, flat_map, Block, Resource, bins, bin_text, bins_after, is_full, in_class, sized}
use Rattle.real_zone_view.specs.declared.totals.Class.TheVariants as class

-- The bins of a picture, and the bytes of one.

-- a bin has the bytes of a block more that is put into it
pub sized_more : (bin : List Block) (b : Block) → sized class.All (bin ++ (b ∷ [])) ≡ sized class.All bin + b.physical_size
unfolding in_class
sized_more [] b = grind arith
sized_more (a ∷ bin) b = grind (arith, sized_more bin b)

-- a block that begins another bin
pub bin_ends
    : (zone : ℕ) (named : ℕ → Option Resource) (least size : ℕ) (bin rest left grown : List Block) (b : Block) (old new all : List ℕ)
    → is_full least size b ≡ true → size ≡ sized class.All bin → left ≡ b ∷ rest
    → old ++ bins_after zone named least bin left ≡ all → new ≡ old ++ bin_text zone named bin → grown ≡ b ∷ []
    → new ++ bins_after zone named least grown rest ≡ all
bin_ends zone named least size bin rest left grown b old new all full is from so put one =
    ap (λ g. new ++ bins_after zone named least g rest) one
    ∙ ap (λ t. t ++ bins_after zone named least (b ∷ []) rest) put
    ∙ append_assoc old (bin_text zone named bin) (bins_after zone named least (b ∷ []) rest)
    ∙ ap (λ t. old ++ flat_map (bin_text zone named) (if t then bin ∷ bins least (b ∷ []) rest else bins least (bin ++ (b ∷ [])) rest))
    (sym full ∙ ap (λ s. is_full least s b) is)
    ∙ ap (λ l. old ++ bins_after zone named least bin l) (sym from) ∙ so

-- a block that goes into the bin
pub bin_grows : (zone : ℕ) (named : ℕ → Option Resource) (least size : ℕ) (bin rest left grown : List Block) (b : Block) (old all : List ℕ)
    → is_full least size b ≡ false → size ≡ sized class.All bin → left ≡ b ∷ rest
    → old ++ bins_after zone named least bin left ≡ all → grown ≡ bin ++ (b ∷ [])
    → old ++ bins_after zone named least grown rest ≡ all
bin_grows zone named least size bin rest left grown b old all full is from so more =
    ap (λ g. old ++ bins_after zone named least g rest) more
    ∙ ap (λ t. old ++ flat_map (bin_text zone named) (if t then bin ∷ bins least (b ∷ []) rest else bins least (bin ++ (b ∷ [])) rest))
    (sym full ∙ ap (λ s. is_full least s b) is)
    ∙ ap (λ l. old ++ bins_after zone named least bin l) (sym from) ∙ so
