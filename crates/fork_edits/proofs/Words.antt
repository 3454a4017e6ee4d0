use Rattle.fork_edits.proofs.Cited.{◌≡◌, ℕ, ◌+◌, ◌<◌, List, length, drop, get_or, Option, Some, None, ◌∙◌, ap, sym, refl, bit_or, is_some}
use Rattle.fork_edits.proofs.Cited.{unwrap_or, rest-next, word_value, words_value}
use Rattle.std.specs.Prelude.{cond}

-- Words that are read one after another.

-- a word with no value ends the reading
pub word_bad : (attrs n : ℕ) (all : List (List ℕ)) (w : List ℕ) (total : Option ℕ)
    → (n < length all) × (w ≡ get_or all n w) → None ≡ word_value w → words_value attrs (drop n all) ≡ total
    → None ≡ total
word_bad attrs n all w total at none e =
    sym (given (word_value w) (sym none)) ∙ ap (words_value attrs) (sym (rest-next all n w at.0 at.1)) ∙ e
  where
    given : (o : Option ℕ) → o ≡ None
        → cond (is_some o) (words_value (bit_or attrs (unwrap_or o 0)) (drop (n + 1) all)) None ≡ None
    given None h = refl
    given (Some v) h = cc

-- a word with a value adds it
pub word_good : (attrs n v : ℕ) (all : List (List ℕ)) (w : List ℕ) (total : Option ℕ)
    → (n < length all) × (w ≡ get_or all n w) → Some v ≡ word_value w → words_value attrs (drop n all) ≡ total
    → words_value (bit_or attrs v) (drop (n + 1) all) ≡ total
word_good attrs n v all w total at some e =
    sym (given (word_value w) (sym some)) ∙ ap (words_value attrs) (sym (rest-next all n w at.0 at.1)) ∙ e
  where
    given : (o : Option ℕ) → o ≡ Some v
        → cond (is_some o) (words_value (bit_or attrs (unwrap_or o 0)) (drop (n + 1) all)) None
        ≡ words_value (bit_or attrs v) (drop (n + 1) all)
    given None h = cc
    given (Some u) h = let same : u ≡ v = cc in ap (λ (k : ℕ). words_value (bit_or attrs k) (drop (n + 1) all)) same
