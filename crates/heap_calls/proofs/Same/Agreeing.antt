use Rattle.heap_calls.proofs.Cited.{◌≡◌, ℕ, Bool, List, [], ◌∷◌, Option, Some, None, refl, sym, ◌∙◌, ap, is_some, unwrap_or, Block, room}
use Rattle.heap_calls.proofs.Cited.{purge, count_of, Move, Purge, did, moved, sought, purges_for, seek}
use Rattle.heap_calls.proofs.Room.LeastSearches.{least-of}

-- What is tried after as few purges as serve.

module _ (try : List Block → Option (List Block)) (spared : Block → Bool) (blocks : List Block)
  where
    abbrev pub fewest : ℕ
    fewest = purges_for (λ z. is_some (try z)) spared blocks

    abbrev pub ready : List Block
    ready = purge fewest spared blocks

    pub room-is : room try spared blocks ≡ try ready
    room-is = least-of (λ j. try (purge j spared blocks)) (count_of spared blocks) fewest refl

-- a search leaves the zone in which room was found
pub seek-leaves : (spared : Block → Bool) (m : Move) (zone : List Block)
    → (did spared (seek m spared zone).path zone).zone ≡ unwrap_or (room (moved spared m) spared zone) zone
seek-leaves spared m zone = sym (ap (λ o. unwrap_or o zone) (room-is try spared zone) ∙ cases (try there) refl)
  where
    try : List Block → Option (List Block)
    try = moved spared m

    k : ℕ
    k = fewest try spared zone

    there : List Block
    there = ready try spared zone

    cases : (o : Option (List Block)) → try there ≡ o
        → unwrap_or o zone ≡ (did spared (sought k (is_some o) (Purge k ∷ m ∷ [])).path zone).zone
    cases None e = refl
    cases (Some z) e = sym (ap (λ o. unwrap_or o there) e)
