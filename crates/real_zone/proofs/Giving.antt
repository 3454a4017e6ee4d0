use Rattle.real_zone.proofs.Cited.{◌≡◌, ℕ, ◌+◌, ◌≤◌, ◌∷◌, List, length, map, true, sym, ◌∙◌, ap, drop_all, big_number, number, size_at}
use Rattle.real_zone.proofs.Cited.{is_passable, passed_from, block_at, Form, Block}
use Rattle.real_zone.proofs.Walking.{next}
use Rattle.real_zone.proofs.Passed.{passed_next}

-- a block that is given, before those that are still to come
pub given : (f : Form) (zone : ℕ) (bytes : List ℕ) (at to : ℕ) (block : Block) → to ≡ at + size_at f bytes at
    → block ≡ block_at f zone bytes at → is_passable f bytes at ≡ true
    → map (block_at f zone bytes) (passed_from f bytes at) ≡ block ∷ map (block_at f zone bytes) (passed_from f bytes to)
given f zone bytes at to block e is p =
    ap (map (block_at f zone bytes)) (passed_next f bytes at p)
    ∙ ap (λ x. x ∷ map (block_at f zone bytes) (passed_from f bytes (next f bytes at))) (sym is)
    ∙ ap (λ n. block ∷ map (block_at f zone bytes) (passed_from f bytes n)) (sym e)

-- past the end a byte counts as 0
pub past_end : (bytes : List ℕ) (at : ℕ) → length bytes ≤ at → 0 ≡ number 1 at bytes
unfolding number
past_end bytes at h = ap (big_number 1) (sym (drop_all at bytes h))
