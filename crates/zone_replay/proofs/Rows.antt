-- Worked rows, by computation.
use Rattle.zone_replay.proofs.Cited.{◌≡◌, List, [], ◌∷◌, Some, None, map, replicate, refl, codes, Free, Nonrelocatable, Masters}
use Rattle.zone_replay.proofs.Cited.{Relocatable, no_flags, Bindings, step_told, name_of, zone_lines}
use Rattle.zone_drawing.specs.Line.{Line}

-- the step that a transcript ends with: its values are left out
last-step : step_told (codes "launch 0 1024\n1 NewHandle 0\n2 FreeMem 0 624\n") ≡ codes "2 FreeMem 0"
last-step = refl

last-launch : step_told (codes "launch 0 1024\n") ≡ codes "launch 0 1024"
last-launch = refl

-- of two names for one handle the first is told, and none of a handle whose name was bound anew
abbrev names : Bindings
names = (codes "a", 3) ∷ (codes "b", 3) ∷ (codes "c", 5) ∷ []

named : map (λ n. name_of n names) (3 ∷ 4 ∷ 5 ∷ []) ≡ Some (codes "a") ∷ None ∷ Some (codes "c") ∷ []
named = refl

-- a zone whose blocks are named by number
abbrev shown : List Line
shown = zone_lines (λ n. record { name = name_of n names; owner = None; number = None })
    (Masters ∷ Nonrelocatable 5 (replicate 20 0) ∷ Relocatable 4 no_flags [] ∷ Relocatable 3 no_flags (replicate 100 0)
    ∷ Free 560 ∷ [])

places : map (λ (l : Line). l.place) shown ≡ 0 ∷ 272 ∷ 320 ∷ 336 ∷ 464 ∷ []
places = refl

block-names : map (λ (l : Line). l.tag.name) shown ≡ None ∷ Some (codes "c") ∷ None ∷ Some (codes "a") ∷ None ∷ []
block-names = refl
