use Rattle.transcript_words.proofs.Cited.{◌≡◌, ℕ, Bool, List, [], ◌∷◌, ◌++◌, Option, refl, ◌∙◌, ap, flat_map, Placed, change_by}
use Rattle.transcript_words.proofs.Cited.{change_words, is_handle}

-- Changes are the same where the blocks begin at the same places afterwards.

pub same_changes : (f g : ℕ → Option ℕ) → ((number : ℕ) → f number ≡ g number) → (handles : List Bool)
    → (blocks : List Placed) → flat_map (change_by f handles) blocks ≡ flat_map (change_by g handles) blocks
same_changes f g same handles [] = refl
same_changes f g same handles (b ∷ blocks) =
    ap (λ (p : Option ℕ). change_words b p (is_handle handles b.number) ++ flat_map (change_by f handles) blocks)
    (same b.number)
    ∙ ap (λ (x : List ℕ). change_by g handles b ++ x) (same_changes f g same handles blocks)
