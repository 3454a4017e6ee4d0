use Rattle.fork_format.proofs.Cited.{◌≡◌, ℕ, true, false, List, sym, ◌∙◌, Content, Spells, is_fork}

-- bytes spell at most one content
pub one_content : (bytes : List ℕ) (c d : Content) → Spells bytes c → Spells bytes d → c ≡ d
one_content bytes c d s t = sym s.content ∙ t.content

-- bytes that are no fork spell none
pub no_content : (bytes : List ℕ) (c : Content) → is_fork bytes ≡ false → Spells bytes c → ⊥
no_content bytes c refused s = let yes : is_fork bytes ≡ true = s.fork in cc
