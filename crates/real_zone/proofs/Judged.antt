use Rattle.real_zone.proofs.Cited.{◌≡◌, ℕ, ◌+◌, ◌<◌, ◌≤◌, true, false, List, length, ap, arith, is_passable, places_from, Form}
use Rattle.real_zone.proofs.Walking.{next, next_places, no_places}
use Rattle.real_zone.proofs.AllFound.{last_place}

-- Blocks are counted.

-- a passable block, before others
pub counted_more : (f : Form) (bytes : List ℕ) (at count total : ℕ) → is_passable f bytes at ≡ true
    → count + length (places_from f bytes at) ≡ total → count + 1 + length (places_from f bytes (next f bytes at)) ≡ total
counted_more f bytes at count total p e =
    let l = ap length (next_places f bytes at p) in omega arith

-- one that is not passable is the last
pub counted_last : (f : Form) (bytes : List ℕ) (at count total : ℕ) → at < length bytes → is_passable f bytes at ≡ false
    → count + length (places_from f bytes at) ≡ total → count + 1 ≡ total
counted_last f bytes at count total h stuck e =
    let l = ap length (last_place f bytes at h stuck) in omega arith

-- at bkLim there are no more
pub counted_all : (f : Form) (bytes : List ℕ) (at count total : ℕ) → length bytes ≤ at
    → count + length (places_from f bytes at) ≡ total → count ≡ total
counted_all f bytes at count total h e =
    let l = ap length (no_places f bytes at h) in omega arith
