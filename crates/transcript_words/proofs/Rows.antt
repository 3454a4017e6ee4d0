-- Worked lines, by computation.
use Rattle.transcript_words.proofs.Cited.{◌≡◌, ℕ, true, false, List, [], ◌∷◌, Option, Some, None, refl, codes, digits, after_blanks, Placed}
use Rattle.transcript_words.proofs.Cited.{changes, code_words, source, call_words, step_words}

abbrev one : List (List ℕ)
one = source (codes "grow less\nEmptyHandle picture\nend\n NewHandle list 500\n\nGetResource icon 'ICN#' 128\n")

-- a call that was refused
refused : step_words one [] (codes "6 GetResource -192\n")
    ≡ codes "6 GetResource icon 'ICN#' 128 -> resNotFound (-192)\n"
unfolding after_blanks code_words
refused = refl

-- a call for which a grow-zone script was run, with what moved and what was purged
grown : step_words one (codes "; moved text 400 -> 272; purged picture") (codes "+2 EmptyHandle 0\n4 NewHandle 0\n")
    ≡ codes "+2 EmptyHandle picture -> noErr\n4 NewHandle list 500 -> noErr; moved text 400 -> 272; purged picture\n"
unfolding after_blanks code_words
grown = refl

-- the call alone
call : call_words one (codes "+2 EmptyHandle 0\n4 NewHandle 0\n") ≡ codes "4 NewHandle list 500 -> noErr"
unfolding after_blanks code_words
call = refl

abbrev block : ℕ → ℕ → Option (List ℕ) → Placed
block n at name = record { number = n; place = at; name = name }

-- the block of handle 1 moved, that of handle 2, which has no name, was purged, that of pointer 3 was disposed of, and that
-- of handle 0 stayed
changed : changes
    (record {
      blocks = block 0 272 (Some (codes "a")) ∷ block 2 300 None ∷ block 1 400 (Some (codes "text"))
          ∷ block 3 500 (Some (codes "p")) ∷ [];
      handles = true ∷ true ∷ true ∷ false ∷ [];
    })
    (record { blocks = block 0 272 (Some (codes "a")) ∷ block 1 300 (Some (codes "text")) ∷ []; handles = true ∷ true ∷ true ∷ false ∷ [] })
    ≡ codes "; purged -; moved text 400 -> 300"
unfolding digits
changed = refl
