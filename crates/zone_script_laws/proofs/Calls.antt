use Rattle.zone_script_laws.proofs.Cited.{◌≡◌, ℕ, ◌-◌, ◌≤◌, ◌<◌, Bool, true, false, List, [], ◌∷◌, ◌++◌, refl, ◌∙◌, ap, cond, Some, None}
use Rattle.zone_script_laws.proofs.Cited.{Ok, arith, length, replicate, nat_le, nat_lt, is_some, unwrap_or, cond-true, nat_tests}
use Rattle.zone_script_laws.proofs.Cited.{length-replicate, padded, phys, Block, Nonrelocatable, Masters, Relocatable, size, free, tidy}
use Rattle.zone_script_laws.proofs.Cited.{no_flags, purge, count_of, least_or_last, is_free, Move, Search, Purge, Put, Base, did, moved}
use Rattle.zone_script_laws.proofs.Cited.{Sought, sought, seek, if_fits, seek_slot, then_seek, no_room, State, Handle, Pointer, Plain}
use Rattle.zone_script_laws.proofs.Cited.{used_slots, all_slots, nothing, heap_after}
use Rattle.heap_calls.specs.Rows as rows
use Rattle.zone_script_laws.proofs.Fixed.{Stay, stay-tidy, stay-count, put-above, base-above}

-- The calls that make a block, where the block stands above all others.

-- a move that finds its place in the zone as it is takes one search
pub seek-first : (move : Move) (zone zone' : List Block) → count_of nothing zone ≡ 0
    → moved nothing move (tidy zone) ≡ Some zone'
    → seek move nothing zone ≡ record { found = true; path = Search 1 ∷ Purge 0 ∷ move ∷ [] }
seek-first move zone zone' none at =
    ap (λ k. sought k (there (purge k nothing zone)) (Purge k ∷ move ∷ [])) first
    ∙ ap (λ t. sought 0 t (Purge 0 ∷ move ∷ [])) (ap is_some at)
  where
    there : List Block → Bool
    there z = is_some (moved nothing move z)

    first : least_or_last (λ k. there (purge k nothing zone)) (count_of nothing zone) ≡ 0
    first = ap (least_or_last (λ k. there (purge k nothing zone))) none

-- and leaves the zone that it makes
pub did-first : (move : Move) (zone zone' : List Block) → moved nothing move (tidy zone) ≡ Some zone'
    → (did nothing (Search 1 ∷ Purge 0 ∷ move ∷ []) zone).zone ≡ zone'
did-first move zone zone' at = ap (λ o. unwrap_or o (tidy zone)) at

pub phys-fits : (n : ℕ) → n ≤ 2147483616 → is_some (phys n) ≡ true
phys-fits n fits = ap is_some (cond-true (nat_le n 2147483616) (Some (padded n)) None (grind (arith, nat_tests)))

-- what a call leaves: its reply, and the heap after it
pub record Leaves {T : Type 0} (does : State → rows.Done T) (s : State) (value : T) (after : State) : Type 0 where
  pub reply : (does s).reply ≡ Ok value
  pub heap : heap_after (does s) s ≡ after

module _ (bs : List Block) (g : ℕ) (s : State) (stay : Stay bs) (is : s.zone ≡ bs ++ free g)
  where
    none : count_of nothing s.zone ≡ 0
    none = ap (count_of nothing) is ∙ stay-count nothing g bs stay

    tidied : tidy s.zone ≡ bs ++ free g
    tidied = ap tidy is ∙ stay-tidy g bs stay

    based : (new : Block) → is_free new ≡ false → 0 < size new → size new ≤ g
        → moved nothing (Base new) (tidy s.zone) ≡ Some (bs ++ new ∷ free (g - size new))
    based new e some fits = ap (moved nothing (Base new)) tidied ∙ base-above new g bs stay e some fits

    placed : (new : Block) → is_free new ≡ false → 0 < size new → size new ≤ g
        → moved nothing (Put new) (tidy s.zone) ≡ Some (bs ++ new ∷ free (g - size new))
    placed new e some fits = ap (moved nothing (Put new)) tidied ∙ put-above new g bs stay e some fits

    -- a new master pointer block
    pub more_masters-done : 272 ≤ g → Leaves rows.more_masters s tt
        (record { zone = bs ++ Masters ∷ free (g - 272); names = s.names })
    more_masters-done fits =
        let at = based Masters refl (omega arith) fits in
        let found = seek-first (Base Masters) s.zone _ none at in
        record {
          reply = ap (λ (t : Sought). rows.reply_of t.found tt) found;
          heap = ap (λ (t : Sought). heap_after (rows.changed nothing t s) s) found
              ∙ ap (λ z. let h : State = record { zone = z; names = s.names } in h) (did-first (Base Masters) s.zone _ at);
        }

    -- a new nonrelocatable block
    pub new_pointer-done : (n : ℕ) → n ≤ 2147483616 → padded n ≤ g → Leaves (rows.new_pointer n) s (length s.names)
        (record { zone = bs ++ Nonrelocatable (length s.names) (replicate n 0) ∷ free (g - padded n); names = s.names ++ Pointer ∷ [] })
    new_pointer-done n small fits =
        let same = ap padded (length-replicate {A = ℕ} n 0) in
        let at = based (new_pointer_block n) refl (omega arith) (omega (arith, same)) in
        let found = ap (λ (t : Bool). if_sized t n) (phys-fits n small) ∙ seek-first (Base (new_pointer_block n)) s.zone _ none at in
        record {
          reply = ap (λ (t : Sought). rows.reply_of t.found (length s.names)) found;
          heap = ap (λ (t : Sought). heap_after (rows.given Pointer nothing t s) s) found
              ∙ ap (λ z. let h : State = record { zone = z; names = s.names ++ Pointer ∷ [] } in h)
              (did-first (Base (new_pointer_block n)) s.zone _ at)
              ∙ ap
              (λ k. let h : State = record { zone = bs ++ new_pointer_block n ∷ free (g - k); names = s.names ++ Pointer ∷ [] } in h) same;
        }
      where
        new_pointer_block : ℕ → Block
        new_pointer_block n = Nonrelocatable (length s.names) (replicate n 0)

        if_sized : Bool → ℕ → Sought
        if_sized t n = cond t (seek (Base (new_pointer_block n)) nothing s.zone) no_room

    -- a new relocatable block, where a master pointer is unused
    pub new_handle-done : (n : ℕ) → nat_lt (used_slots s) (all_slots s) ≡ true → n ≤ 2147483616 → padded n ≤ g
        → Leaves (rows.new_handle n) s (length s.names)
        (record {
          zone = bs ++ Relocatable (length s.names) no_flags (replicate n 0) ∷ free (g - padded n);
          names = s.names ++ Handle Plain ∷ [];
        })
    new_handle-done n unused small fits =
        let same = ap padded (length-replicate {A = ℕ} n 0) in
        let at = placed (new_block n) refl (omega arith) (omega (arith, same)) in
        let found = ap (λ (t : Bool). if_slot t n) unused ∙ ap (λ (t : Bool). if_sized t n) (phys-fits n small)
        ∙ seek-first (Put (new_block n)) s.zone _ none at in
        record {
          reply = ap (λ (t : Sought). rows.reply_of t.found (length s.names)) found;
          heap = ap (λ (t : Sought). heap_after (rows.given (Handle Plain) nothing t s) s) found
              ∙ ap (λ z. let h : State = record { zone = z; names = s.names ++ Handle Plain ∷ [] } in h)
              (did-first (Put (new_block n)) s.zone _ at)
              ∙ ap
              (λ k. let h : State = record { zone = bs ++ new_block n ∷ free (g - k); names = s.names ++ Handle Plain ∷ [] } in h) same;
        }
      where
        new_block : ℕ → Block
        new_block n = Relocatable (length s.names) no_flags (replicate n 0)

        if_sized : Bool → ℕ → Sought
        if_sized t n = cond t (seek (Put (new_block n)) nothing s.zone) no_room

        if_slot : Bool → ℕ → Sought
        if_slot t n = then_seek nothing s.zone (seek_slot t nothing s.zone) (λ zone. if_fits n (seek (Put (new_block n)) nothing zone))
