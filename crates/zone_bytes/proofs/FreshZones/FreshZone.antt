-- A fresh RawZone.
use Rattle.zone_bytes.proofs.Cited.{◌≡◌, ℕ, ◌-◌, ◌%◌, ◌≤◌, List, [], ◌∷◌, ◌++◌, length, sym, refl, ◌∙◌, subst, arith, false, ◌*◌, ap}
use Rattle.zone_bytes.proofs.Cited.{append-nil, drop_all, written, length-written, piece-written, word, length-word, Free, Masters, free}
use Rattle.zone_bytes.proofs.Cited.{fresh, tidy, count, is_masters, free_sum, NoSlot, is_resource, is_used, head_of, Lays, slot_in}
use Rattle.zone_bytes.proofs.Cited.{all_slots, fresh_slots, slots_at, HasMasters, zone_in, GREATEST_ZONE}
use Rattle.zone_bytes.proofs.Tiles.Tiling.{tiles-one}
use Rattle.zone_bytes.proofs.Tiles.Heads.{free-tile}
use Rattle.zone_bytes.proofs.Blocks.InPlace.{no-slots}
use Rattle.zone_bytes.proofs.Placed.MastersCarved.{lays-masters}
use Rattle.zone_bytes.proofs.Laws.Lawful.{Made, made}

module _ (end : ℕ) (old : List ℕ) (l : length old ≡ end) (e : end % 16 ≡ 0) (h : 512 ≤ end) (m : end ≤ GREATEST_ZONE) where
  -- bytes that are one Free block, and have no slots
  abbrev one : List ℕ
  one = written 0 (word end) old

  one-length : length one ≡ end
  one-length = length-written 0 (word end) old (omega (arith, length-word)) ∙ l

  -- in which a Masters block was laid
  pub fresh-lays : (new : List ℕ) → HasMasters 0 end 0 old new → Lays new (fresh end) fresh_slots all_slots
  unfolding all_slots
  fresh-lays new q =
      let all = lays-masters one [] [] end (λ s. NoSlot) [] (record {
        lies = record {
          tiles = tiles-one (head_of (λ s. is_resource NoSlot)) (Free end) one one-length
              (free-tile (λ s. is_resource NoSlot) end one one-length e (omega arith)
              (piece-written 0 (word end) old 4 (sym (length-word end)) (omega arith)));
          leads = (tt, tt);
        };
        has_slots = record { slots = tt; apart = tt };
        placed = (tt, tt);
        small = omega (arith, one-length);
        used = tt;
        says = no-slots (Free end) refl;
        chain = tt;
        unused_slots = tt;
        once = tt;
      }) 0 refl (omega arith) new
      (record { outside = grind (arith, drop_all, one-length); begins = q.begins; rest = q.rest; thread = q.thread }) in
      subst (λ bs. Lays new (Masters ∷ bs) fresh_slots (slots_at 0)) (append-nil (free (end - 272)))
      (subst (Lays new (Masters ∷ (free (end - 272) ++ [])) fresh_slots) (append-nil (slots_at 0)) all)

tidy-fresh : (n : ℕ) → tidy (fresh n) ≡ fresh n
tidy-fresh n = grind arith

-- what isn't the block of master pointers is Free
pub free-fresh : (n : ℕ) → free_sum (fresh n) ≡ n - 272
free-fresh n = grind arith

module _ (new : List ℕ) (end : ℕ) (h : Lays new (fresh end) fresh_slots all_slots) where
  pub fresh-made : Made new 16 64 (fresh end) fresh_slots
  unfolding all_slots
  fresh-made = made new (fresh end) fresh_slots all_slots h 16 64 (tidy-fresh end) refl refl

  pub fresh-all : 64 * count is_masters (zone_in new) ≡ 64
  fresh-all = ap (λ z. 64 * count is_masters z) fresh-made.zone ∙ (grind arith)

  pub fresh-unused : (s : ℕ) → is_used (slot_in new s) ≡ false
  fresh-unused s = ap is_used (fresh-made.slots s) ∙ (grind arith)
