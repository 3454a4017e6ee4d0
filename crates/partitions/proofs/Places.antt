-- Where bytes can lie, there is a hole for them.
use Rattle.partitions.proofs.Cited.{◌≡◌, ℕ, ◌+◌, ◌-◌, ◌≤◌, ◌⊎◌, inl, inr, Bool, true, false, cond, List, [], ◌∷◌, Option, Some, None, refl}
use Rattle.partitions.proofs.Cited.{arith, IsSomeAnd, ltb, leb-false, ltb-true, ltb-false, All-head, All-tail, find, option_map, option_or}
use Rattle.partitions.proofs.Cited.{Window, IsApart, window, holes, has_room, lower_end, larger_hole, largest, at_least, GivesPreferred}
use Rattle.partitions.proofs.Cited.{GivesLargest}

-- the window ends by these bytes, or begins behind them
abbrev Meets : ℕ → ℕ → Window → Type 0
Meets at n w = (w.at + w.len ≤ at) ⊎ (at + n ≤ w.at)

-- of the holes from one on, the lowest with room is no higher than a place where the bytes can lie
abbrev IsLow : ℕ → Option Window → Type 0
IsLow at o = IsSomeAnd o (λ hole. hole.at ≤ at)

lowest_first : (n at : ℕ) (hole : Window) (rest : Option Window) (b : Bool) → has_room n hole ≡ b → hole.at ≤ at
    → (n ≤ hole.len) ⊎ IsLow at rest → IsLow at (cond b (Some hole) rest)
lowest_first n at hole rest true e low fits = low
lowest_first n at hole rest false e low (inl fits) = absurd (let f = leb-false n hole.len e in omega (arith, f, fits))
lowest_first n at hole rest false e low (inr later) = later

lowest_go : (n at from : ℕ) (w : Window) (rest : Option Window) → from ≤ at → Meets at n w
    → (w.at + w.len ≤ at → IsLow at rest)
    → IsLow at (cond (has_room n (window from (w.at - from))) (Some (window from (w.at - from))) rest)
lowest_go n at from w rest le (inl below) later =
    let hole = window from (w.at - from) in lowest_first n at hole rest (has_room n hole) refl le (inr (later below))
lowest_go n at from w rest le (inr above) later =
    let hole = window from (w.at - from) in
    lowest_first n at hole rest (has_room n hole) refl le (inl (omega (arith, le, above)))

lowest_fit : (memory n at from : ℕ) (ws : List Window) → from ≤ at → at + n ≤ memory → IsApart at n ws
    → IsLow at (find (has_room n) (holes memory from ws))
lowest_fit memory n at from [] le end apart =
    let hole = window from (memory - from) in
    lowest_first n at hole None (has_room n hole) refl le (inl (omega (arith, le, end)))
lowest_fit memory n at from (w ∷ ws) le end apart =
    lowest_go n at from w (find (has_room n) (holes memory (w.at + w.len) ws)) le (All-head (Meets at n) w ws apart)
    (λ below. lowest_fit memory n at (w.at + w.len) ws below end (All-tail (Meets at n) w ws apart))

-- of the holes from one on, the largest has room for the bytes, and if just so much, is no higher
abbrev IsLarge : ℕ → ℕ → Window → Type 0
IsLarge n at hole = (n ≤ hole.len) × (n ≡ hole.len → hole.at ≤ at)

largest_first : (n at : ℕ) (hole above : Window) (b : Bool) → ltb hole.len above.len ≡ b → hole.at ≤ at
    → (n ≤ hole.len) ⊎ IsLarge n at above → IsLarge n at (cond b above hole)
largest_first n at hole above true e low (inl fits) =
    let lt = ltb-true hole.len above.len e in (omega (arith, lt, fits), λ same. absurd (omega (arith, lt, fits, same)))
largest_first n at hole above true e low (inr large) = large
largest_first n at hole above false e low (inl fits) = (fits, λ same. low)
largest_first n at hole above false e low (inr large) =
    let le = ltb-false hole.len above.len e in let fits = large.0 in (omega (arith, le, fits), λ same. low)

largest_go : (n at from : ℕ) (w above : Window) → from ≤ at → Meets at n w
    → (w.at + w.len ≤ at → IsLarge n at above) → IsLarge n at (larger_hole (window from (w.at - from)) above)
largest_go n at from w above le (inl below) later =
    let hole = window from (w.at - from) in
    largest_first n at hole above (ltb hole.len above.len) refl le (inr (later below))
largest_go n at from w above le (inr behind) later =
    let hole = window from (w.at - from) in
    largest_first n at hole above (ltb hole.len above.len) refl le (inl (omega (arith, le, behind)))

largest_fit : (memory n at from : ℕ) (ws : List Window) → from ≤ at → at + n ≤ memory → IsApart at n ws
    → IsLarge n at (largest (holes memory from ws))
largest_fit memory n at from [] le end apart =
    let hole = window from (memory - from) in
    largest_first n at hole (window 0 0) (ltb hole.len 0) refl le (inl (omega (arith, le, end)))
largest_fit memory n at from (w ∷ ws) le end apart =
    largest_go n at from w (largest (holes memory (w.at + w.len) ws)) le (All-head (Meets at n) w ws apart)
    (λ below. largest_fit memory n at (w.at + w.len) ws below end (All-tail (Meets at n) w ws apart))

preferred_go : (at preferred : ℕ) (o p : Option Window) → IsLow at o
    → IsSomeAnd (option_or (option_map (lower_end preferred) o) p) (λ w. (w.len ≡ preferred) × (w.at ≤ at))
preferred_go at preferred None p low = absurd low
preferred_go at preferred (Some hole) p low = (refl, low)

pub gives_preferred : (memory : ℕ) (ws : List Window) (preferred minimum : ℕ)
    → GivesPreferred memory ws preferred minimum
gives_preferred memory ws preferred minimum = λ at lies.
    preferred_go at preferred (find (has_room preferred) (holes memory 0 ws))
    (at_least minimum (largest (holes memory 0 ws)))
    (lowest_fit memory preferred at 0 ws (omega arith) lies.0 lies.1)

whole_go : (n at preferred minimum : ℕ) (hole : Window) (b : Bool) → has_room minimum hole ≡ b → minimum ≤ n
    → IsLarge n at hole
    → IsSomeAnd (cond b (Some hole) None) (λ w. (w.len ≡ preferred) ⊎ IsLarge n at w)
whole_go n at preferred minimum hole true e le large = inr large
whole_go n at preferred minimum hole false e le large =
    absurd (let f = leb-false minimum hole.len e in let g = large.0 in omega (arith, f, g, le))

largest_or : (n at preferred minimum : ℕ) (o : Option Window) (hole : Window) → minimum ≤ n → IsLarge n at hole
    → IsSomeAnd (option_or (option_map (lower_end preferred) o) (at_least minimum hole))
    (λ w. (w.len ≡ preferred) ⊎ IsLarge n at w)
largest_or n at preferred minimum None hole le large =
    whole_go n at preferred minimum hole (has_room minimum hole) refl le large
largest_or n at preferred minimum (Some found) hole le large = inl refl

pub gives_largest : (memory : ℕ) (ws : List Window) (preferred minimum : ℕ)
    → GivesLargest memory ws preferred minimum
gives_largest memory ws preferred minimum = λ n at le lies.
    largest_or n at preferred minimum (find (has_room preferred) (holes memory 0 ws)) (largest (holes memory 0 ws)) le
    (largest_fit memory n at 0 ws (omega arith) lies.0 lies.1)
