use Rattle.fork_wrappers.proofs.Cited.{ℕ, suc, ◌-◌, ◌<◌, List, [], ◌∷◌, ◌++◌, take, drop, arith, rules, get_or, big_bytes, part, AreBytes}
use Rattle.fork_wrappers.proofs.Cited.{new_fields, bytes-take, bytes-drop, bytes-append}

-- The fields of a header are bytes.

pub fields_bytes : (file : List ℕ) (new : ℕ) → AreBytes file → AreBytes (new_fields file new)
fields_bytes file new b = bytes-append (take 87 file ++ big_bytes 4 new) (part 33 91 file)
    (bytes-append (take 87 file) (big_bytes 4 new) (bytes-take 87 file b) (search (rules, arith)))
    (bytes-take 33 (drop 91 file) (bytes-drop 91 file b))

-- what a program holds are bytes
pub held_bytes : (bytes : List ℕ) → ((i : ℕ) → get_or bytes i 0 < 256) → AreBytes bytes
held_bytes [] h = tt
held_bytes (x ∷ bytes) h = (h 0, held_bytes bytes (λ i. h (suc i)))
