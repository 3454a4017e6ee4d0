use Rattle.zone_script_laws.proofs.Cited.{◌≡◌, ℕ, ◌+◌, Bool, true, false, List, [], ◌∷◌, ◌++◌, refl, ◌∙◌, ap, cond, Some, option_map}
use Rattle.zone_script_laws.proofs.Cited.{cond-true, cond-false, or_parts, map-append, Flags, Block, Free, Nonrelocatable, Relocatable}
use Rattle.zone_script_laws.proofs.Cited.{size, add, tidy, is_relocatable, is_nonrelocatable, has, spot, raised, freed, tidy-tidy}
use Rattle.zone_script_laws.proofs.Cited.{tidy-parted, has-tidy, tidy-below, freed-absent, tidy-left, spot-parted}

-- One block of a zone, found by its name and changed.

-- what is tidied twice
pub tidied-both : (below : List Block) (b : Block) (above : List Block)
    → tidy (tidy below ++ b ∷ tidy above) ≡ tidy (below ++ b ∷ above)
tidied-both below b above = tidy-left below (b ∷ tidy above)
    ∙ tidy-below below (b ∷ tidy above) (b ∷ above) (ap (add b) (tidy-tidy above))

-- the block of a handle in a zone
pub spot-relocatable : (n : ℕ) (flags : Flags) (content : List ℕ) (below above : List Block)
    → (is_relocatable n (Relocatable n flags content) ≡ true) → has (is_relocatable n) below ≡ false
    → spot (is_relocatable n) (tidy (below ++ Relocatable n flags content ∷ above))
    ≡ Some (record { below = tidy below; here = Relocatable n flags content; above = tidy above })
spot-relocatable n flags content below above is none =
    ap (spot (is_relocatable n)) (tidy-parted below (Relocatable n flags content) above refl)
    ∙ spot-parted (is_relocatable n) (tidy below) (Relocatable n flags content) (tidy above)
    (has-tidy (is_relocatable n) (λ k. refl) below ∙ none) is

-- and of a pointer
pub spot-nonrelocatable : (n : ℕ) (content : List ℕ) (below above : List Block)
    → (is_nonrelocatable n (Nonrelocatable n content) ≡ true) → has (is_nonrelocatable n) below ≡ false
    → spot (is_nonrelocatable n) (tidy (below ++ Nonrelocatable n content ∷ above))
    ≡ Some (record { below = tidy below; here = Nonrelocatable n content; above = tidy above })
spot-nonrelocatable n content below above is none =
    ap (spot (is_nonrelocatable n)) (tidy-parted below (Nonrelocatable n content) above refl)
    ∙ spot-parted (is_nonrelocatable n) (tidy below) (Nonrelocatable n content) (tidy above)
    (has-tidy (is_nonrelocatable n) (λ k. refl) below ∙ none) is

-- a pointer's block that is freed
pub freed-nonrelocatable : (n : ℕ) (content : List ℕ) (below above : List Block)
    → (is_nonrelocatable n (Nonrelocatable n content) ≡ true) → has (is_nonrelocatable n) below ≡ false
    → has (is_nonrelocatable n) above ≡ false
    → tidy (freed (is_nonrelocatable n) (tidy (below ++ Nonrelocatable n content ∷ above)))
    ≡ tidy (below ++ Free (size (Nonrelocatable n content)) ∷ above)
freed-nonrelocatable n content below above is none none' =
    let a = has-tidy (is_nonrelocatable n) (λ k. refl) below ∙ none in
    let b = has-tidy (is_nonrelocatable n) (λ k. refl) above ∙ none' in
    ap (λ z. tidy (freed (is_nonrelocatable n) z)) (tidy-parted below (Nonrelocatable n content) above refl)
    ∙ ap tidy (map-append (λ c. cond (is_nonrelocatable n c) (Free (size c)) c) (tidy below) (Nonrelocatable n content ∷ tidy above)
    ∙ ap (λ c. freed (is_nonrelocatable n) (tidy below) ++ c ∷ freed (is_nonrelocatable n) (tidy above))
    (cond-true (is_nonrelocatable n (Nonrelocatable n content)) (Free (size (Nonrelocatable n content))) (Nonrelocatable n content) is)
    ∙ (λ i. freed-absent (is_nonrelocatable n) (tidy below) a i
    ++ Free (size (Nonrelocatable n content)) ∷ freed-absent (is_nonrelocatable n) (tidy above) b i))
    ∙ tidied-both below (Free (size (Nonrelocatable n content))) above
