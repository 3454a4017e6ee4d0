use Rattle.block_store.proofs.Cited.{◌≡◌, ◌&&◌, ℕ, ◌≤◌, ◌<◌, Bool, true, false, List, nat_lt, refl, sym, ◌∙◌, ap, is_some, arith, nat_tests}
use Rattle.block_store.proofs.Cited.{Block, is_relocatable, has, has_free, run_spot, serves, serves_block, most_purges, purged, Sparing}
use Rattle.block_store.proofs.Purged.Rising.{purged-all}

-- The least number of purges that serves.

-- where none up to as many as there can be serves, none does, whatever is sought in the zone after so many
none-there : (sought : List Block → Bool) (n : Sparing) (zone : List Block) (most : ℕ) → most_purges n zone ≤ most
    → ((k : ℕ) → k < most → sought (purged k n zone) ≡ false) → sought (purged most n zone) ≡ false
    → (k : ℕ) → sought (purged k n zone) ≡ false
none-there sought n zone most le below last k = cases (nat_lt k most) refl
  where
    cases : (t : Bool) → nat_lt k most ≡ t → sought (purged k n zone) ≡ false
    cases true e = below k (grind (arith, nat_tests, e))
    cases false e =
        let all : most_purges n zone ≤ k = grind (arith, nat_tests, e, le) in
        ap sought (purged-all n zone k all ∙ sym (purged-all n zone most le)) ∙ last

pub none-serve : (p : ℕ) (n : Sparing) (zone : List Block) (most : ℕ) → most_purges n zone ≤ most
    → ((k : ℕ) → k < most → serves p n zone k ≡ false) → serves p n zone most ≡ false
    → (k : ℕ) → serves p n zone k ≡ false
none-serve p = none-there (λ z. is_some (run_spot (has_free p) z))

pub none-serve_block : (number p : ℕ) (n : Sparing) (zone : List Block) (most : ℕ) → most_purges n zone ≤ most
    → ((k : ℕ) → k < most → serves_block number p n zone k ≡ false) → serves_block number p n zone most ≡ false
    → (k : ℕ) → serves_block number p n zone k ≡ false
none-serve_block number p = none-there
    (λ z. is_some (run_spot (λ run. has (is_relocatable number) run && has_free p run) z))
