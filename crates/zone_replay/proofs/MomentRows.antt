-- Worked moments of an application, by computation.
use Rattle.zone_replay.proofs.Cited.{◌≡◌, ℕ, true, false, List, [], ◌∷◌, Some, None, map, refl, codes, Free, Masters, Relocatable, no_flags}
use Rattle.zone_replay.proofs.Cited.{after_blanks, Tag, gathered, Moment, code_words, source, given, words_after, zone_lines}
use Rattle.zone_drawing.specs.Line.{Line}

-- a call that found no room, after a line of its grow-zone script; and no call
words-refused : words_after (source (codes "grow g\nDisposeHandle a\nend\nNewHandle b 500\n")) 1
    (codes "launch 0 1024\n+2 DisposeHandle 0\n4 NewHandle -108\n") ≡ codes "4 NewHandle b 500 -> memFullErr (-108)"
unfolding after_blanks code_words
words-refused = refl

words-launch : words_after [] 0 (codes "launch 0 1024\n") ≡ codes "launch"
words-launch = refl

abbrev numbered : ℕ → Tag
numbered n = record { name = Some (codes "a"); owner = None; number = given n }

-- the handle 1 before its block moved, and after; and locked
abbrev before : List Line
before = zone_lines numbered (Masters ∷ Free 128 ∷ Relocatable 1 no_flags [] ∷ Free 608 ∷ [])

abbrev behind : List Line
behind = zone_lines numbered (Masters ∷ Relocatable 1 no_flags [] ∷ Free 736 ∷ [])

abbrev locked : List Line
locked = zone_lines numbered (Masters ∷ Relocatable 1 (record { locked = true; purgeable = false }) [] ∷ Free 736 ∷ [])

abbrev at : ℕ → List Line → Moment
at n lines = record { number = n; caption = []; passed = None; lines = lines }

-- calls that change nothing are noted at the moment before them
moments-gathered : gathered false [] (at 0 before ∷ at 3 behind ∷ at 4 behind ∷ at 7 behind ∷ at 8 locked ∷ [])
    ≡ at 0 before ∷ record { number = 3; caption = []; passed = Some (record { first = 4; last = 7 }); lines = behind } ∷ at 8 locked ∷ []
moments-gathered = refl

moments-all : map (λ (m : Moment). m.number) (gathered true [] (at 0 before ∷ at 3 behind ∷ at 4 behind ∷ [])) ≡ 0 ∷ 3 ∷ 4 ∷ []
moments-all = refl

-- no block is known by a number that is never given
never-given : given 18446744073709551616 ≡ None
never-given = refl
