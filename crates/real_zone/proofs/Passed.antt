use Rattle.real_zone.proofs.Cited.{◌≡◌, ℕ, zero, suc, ◌-◌, ◌≤◌, Bool, true, false, cond, List, [], ◌∷◌, length, filter, refl, ◌∙◌, ap, ◌==◌}
use Rattle.real_zone.proofs.Cited.{list_all, and_parts, is_passable, places, passed_from, block_places, passed_places, keeps_rules, is_zone}
use Rattle.real_zone.proofs.Cited.{Form}
use Rattle.real_zone.proofs.Ruling.{keeps_passable}
use Rattle.real_zone.proofs.Walking.{next, next_places, no_places}
use Rattle.real_zone.proofs.Zones.{zone_keeps}

-- The passable blocks from a place on.

-- one of them, before the others
pub passed_next : (f : Form) (bytes : List ℕ) (at : ℕ) → is_passable f bytes at ≡ true
    → passed_from f bytes at ≡ at ∷ passed_from f bytes (next f bytes at)
passed_next f bytes at p =
    ap (filter (is_passable f bytes)) (next_places f bytes at p)
    ∙ ap (λ t. cond t (at ∷ passed_from f bytes (next f bytes at)) (passed_from f bytes (next f bytes at))) p

-- none, where the block there is not passable, and at bkLim
pub passed_stop : (f : Form) (bytes : List ℕ) (at : ℕ) → is_passable f bytes at ≡ false → passed_from f bytes at ≡ []
unfolding places
passed_stop f bytes at stuck = left (length bytes - at)
  where
    here : (e : Bool) (rest : List ℕ)
        → filter (is_passable f bytes) (cond e [] (at ∷ cond (is_passable f bytes at) rest [])) ≡ []
    here true rest = refl
    here false rest =
        ap (λ t. cond t (at ∷ filter (is_passable f bytes) (cond t rest [])) (filter (is_passable f bytes) (cond t rest []))) stuck

    left : (n : ℕ) → filter (is_passable f bytes) (places f bytes n at) ≡ []
    left zero = refl
    left (suc n) = here (at == length bytes) (places f bytes n (next f bytes at))

pub passed_end : (f : Form) (bytes : List ℕ) (at : ℕ) → length bytes ≤ at → passed_from f bytes at ≡ []
passed_end f bytes at h = ap (filter (is_passable f bytes)) (no_places f bytes at h)

-- all blocks of a zone that keeps all rules
filter_whole : (p q : ℕ → Bool) (xs : List ℕ) → ((x : ℕ) → q x ≡ true → p x ≡ true) → list_all q xs ≡ true → filter p xs ≡ xs
filter_whole p q [] keeps all = refl
filter_whole p q (x ∷ xs) keeps all =
    let parts = and_parts (q x) (list_all q xs) all in
    ap (λ t. cond t (x ∷ filter p xs) (filter p xs)) (keeps x parts.0)
    ∙ ap (λ l. x ∷ l) (filter_whole p q xs keeps parts.1)

pub all_passed : (f : Form) (zone : ℕ) (bytes : List ℕ) → is_zone f zone bytes ≡ true
    → passed_places f bytes ≡ block_places f bytes
all_passed f zone bytes sound =
    filter_whole (is_passable f bytes) (keeps_rules f zone bytes) (block_places f bytes) (keeps_passable f zone bytes)
    (zone_keeps f zone bytes sound)
