-- What a `Vec` of bytes owns beside its fields: its elements, and what else its block has. Assumes `Logic`.
use Rattle.raw_region.proofs.Cited.{◌≡◌, ℕ, ◌+◌, ◌-◌, ◌*◌, ◌^◌, ◌<◌, List, [], ◌∷◌, length, true, refl, sym, arith, ne_eqb, not_from_false}
use Rattle.raw_region.proofs.Cited.{block_with_items, array_of, room_for, bytes_own, room_owns, run_owns, owns_if, has_block, vec_owns}
use Rattle.raw_region.proofs.Cited.{lodged}
use Rattle.raw_region.proofs.Runs.{here, none}
use base.Fml.{Fml, ftrue, fsep, flt}
use base.Fraction.{full_share}
use base.Logic.{ent, sep, never, id⊢}
use denote.Array.{Array}
use denote.Builtin.{u8}
use denote.RawPtr.{Ptr, ◌+ₚ◌, block_ptr, lies_at, in_block, in_a_block}
use denote.Steps.{nothing}
use mir.Syntax.{Ty}
use seplogic.Ra.Ura.{Ura}
use types.Kit.{‵, ◌⊛◌, ◌$◌, ◌∵◌, !, qed, move, drop, split, fsplit, fjoin, flt_i, use0, use1, use2, rewrite, done}
use types.Logic.{Logic, sem}

-- a `Vec` that can have an element has a block
has : (c : ℕ) → 0 < c → has_block c ≡ true
has c some = not_from_false _ (ne_eqb c 0 (λ e. omega arith))

none_taken : (c : ℕ) → c - 0 ≡ c
none_taken c = omega arith

module _ (t : Ty → Ptr → Fml) (n c : ℕ) where
  -- a bound on the block's size, the room past the elements, and the right to free the block
  abbrev pub spare : Ptr → Fml
  spare p = fsep (flt (c * 1) (2 ^ 63)) (fsep (room_for (array_of u8 (c - n)) (p +ₚ n * 1)) (t (array_of u8 c) p))

  abbrev filled : List ℕ → Ptr → Fml
  filled xs p = block_with_items t u8 p n c xs

  module _ {M : Type 1} {𝓤 : Ura M} (𝓛 : Logic 𝓤) (some : 0 < c) (p : Ptr) (xs : List ℕ) where
    pub taken : ent 𝓤 (sem 𝓛 (vec_owns t u8 p n c xs))
        (sep 𝓤 (sem 𝓛 (lies_at (Array u8 n) full_share p xs)) (sem 𝓛 (spare p)))
    taken =
        qed 𝓛 (‵ (vec_owns t u8 p n c xs) ∷ []) ∵ fsplit ! $ move ! (1 ∷ []) $
        in_a_block ! p (λ q. in_block q (owns_if (has_block c) (filled xs q))) (id⊢ 𝓤 (never 𝓤)) (λ b o is.
        rewrite ! 0 (λ y. ‵ (owns_if y (filled xs (block_ptr b o)))) (has c some) refl $
        rewrite ! 0 (λ q. ‵ (filled xs q)) (sym is) refl $
        -- [the block; the bound]
        fsplit ! $ move ! (2 ∷ 1 ∷ []) $ fjoin ! $ move ! (1 ∷ 0 ∷ []) $ done !)

    pub given_back : ent 𝓤 (sep 𝓤 (sem 𝓛 (lies_at (Array u8 n) full_share p xs)) (sem 𝓛 (spare p)))
        (sem 𝓛 (vec_owns t u8 p n c xs))
    given_back =
        qed 𝓛 (‵ (lies_at (Array u8 n) full_share p xs) ∷ ‵ (spare p) ∷ []) ∵
        in_a_block ! p (λ q. lies_at (Array u8 n) full_share q xs) (id⊢ 𝓤 (never 𝓤)) (λ b o is.
        rewrite ! 0 (λ q. ‵ (lies_at (Array u8 n) full_share q xs)) (sym is) refl $
        move ! (1 ∷ []) $ fsplit ! $ move ! (2 ∷ 1 ∷ []) $ fjoin ! $
        -- [the block; the bound]
        rewrite ! 0 (λ q. ‵ (filled xs q)) is refl $
        rewrite ! 0 (λ y. ‵ (owns_if y (filled xs (block_ptr b o)))) (sym (has c some)) refl $
        rewrite ! 0 (λ q. ‵ (in_block q (owns_if (has_block c) (filled xs q)))) (sym is) refl $ move ! (1 ∷ 0 ∷ []) $
        fjoin ! $ done !)

-- the memory of a `Vec` without elements is room, beside what else its block has
module _ (t : Ty → Ptr → Fml) (c : ℕ) where
  abbrev pub kept : Ptr → Fml
  kept p = fsep (flt (c * 1) (2 ^ 63)) (t (array_of u8 c) p)

  module _ {M : Type 1} {𝓤 : Ura M} (𝓛 : Logic 𝓤) (some : 0 < c) (p : Ptr) where
    pub emptied : ent 𝓤 (sem 𝓛 (vec_owns t u8 p 0 c [])) (sep 𝓤 (sem 𝓛 (room_owns p c)) (sem 𝓛 (kept p)))
    emptied =
        qed 𝓛 (‵ (vec_owns t u8 p 0 c []) ∷ []) ∵ use1 𝓛 (‵ (bytes_own p []) ⊛ ‵ (spare t 0 c p))
        (taken t 0 c 𝓛 some p []) $ split ! $ drop ! $ fsplit ! $ move ! (1 ∷ []) $ fsplit ! $
        -- [the room; the right; the bound]
        rewrite ! 0 (λ k. ‵ (room_owns (p +ₚ 0) k)) (none_taken c) refl $
        rewrite ! 0 (λ q. ‵ (room_owns q c)) (sym (here p)) refl $ move ! (2 ∷ 1 ∷ []) $ fjoin ! $
        move ! (1 ∷ 0 ∷ []) $ done !

    pub refilled : ent 𝓤 (sep 𝓤 (sem 𝓛 (room_owns p c)) (sem 𝓛 (kept p))) (sem 𝓛 (vec_owns t u8 p 0 c []))
    refilled =
        qed 𝓛 (‵ (room_owns p c) ∷ ‵ (kept p) ∷ []) ∵
        in_a_block ! p (λ q. room_owns q c) (id⊢ 𝓤 (never 𝓤)) (λ b o is.
        rewrite ! 0 (λ q. ‵ (room_owns q c)) (sym is) refl $ rewrite ! 0 (λ q. ‵ (room_owns q c)) (here p) refl $
        rewrite ! 0 (λ k. ‵ (room_owns (p +ₚ 0) k)) (sym (none_taken c)) refl $
        use0 𝓛 (‵ (bytes_own (block_ptr b o) [])) (none 𝓛 b o) $
        rewrite ! 0 (λ q. ‵ (bytes_own q [])) (sym is) refl $ move ! (2 ∷ []) $ fsplit ! $
        -- [the bound; the right; no bytes; the room]
        move ! (3 ∷ 1 ∷ []) $ fjoin ! $ move ! (1 ∷ 0 ∷ []) $ fjoin ! $ move ! (1 ∷ 0 ∷ []) $
        use2 𝓛 (‵ (vec_owns t u8 p 0 c [])) (given_back t 0 c 𝓛 some p []) $ done !)

module _ {M : Type 1} {𝓤 : Ura M} (𝓛 : Logic 𝓤) (p : Ptr) (xs : List ℕ) where
  abbrev no_right : Ty → Ptr → Fml
  no_right _ _ = ftrue

  -- a run as a `Vec` that has the room past its bytes, and no right to free them
  pub housed : (n c m : ℕ) → length xs ≡ n → n + m ≡ c → 0 < c → c < 2 ^ 63
      → ent 𝓤 (sem 𝓛 (run_owns p xs m)) (sem 𝓛 (lodged u8 p n c xs))
  housed n c m long full some small =
      let past : length xs ≡ n * 1 = omega (arith, long) in
      let left : m ≡ c - n = omega (arith, full) in
      qed 𝓛 (‵ (run_owns p xs m) ∷ []) ∵ fsplit ! $
      rewrite ! 0 (λ k. ‵ (lies_at (Array u8 k) full_share p xs)) long refl $
      rewrite ! 1 (λ k. ‵ (room_owns (p +ₚ k) m)) past refl $
      rewrite ! 1 (λ k. ‵ (room_owns (p +ₚ n * 1) k)) left refl $ nothing ! $
      -- [no right; the bytes; the room]
      move ! (2 ∷ 0 ∷ []) $ fjoin ! $ flt_i ! (c * 1) (2 ^ 63) (omega (arith, small)) $ fjoin ! $
      move ! (1 ∷ 0 ∷ []) $ use2 𝓛 (‵ (lodged u8 p n c xs)) (given_back no_right n c 𝓛 some p xs) $ done !

  -- and such a `Vec`'s elements, and the room past them, as a run
  pub vacated : (n c : ℕ) → n ≡ length xs → 0 < c
      → ent 𝓤 (sem 𝓛 (lodged u8 p n c xs)) (sem 𝓛 (run_owns p xs (c - n)))
  vacated n c long some =
      let past : n * 1 ≡ length xs = omega (arith, long) in
      qed 𝓛 (‵ (lodged u8 p n c xs) ∷ []) ∵ use1 𝓛 (‵ (lies_at (Array u8 n) full_share p xs)
      ⊛ ‵ (spare no_right n c p)) (taken no_right n c 𝓛 some p xs) $ split ! $
      move ! (1 ∷ []) $ fsplit ! $ drop ! $ fsplit ! $ move ! (1 ∷ []) $ drop ! $
      -- [the room; the bytes]
      rewrite ! 0 (λ k. ‵ (room_owns (p +ₚ k) (c - n))) past refl $
      rewrite ! 1 (λ k. ‵ (lies_at (Array u8 k) full_share p xs)) long refl $ move ! (1 ∷ 0 ∷ []) $ fjoin ! $ done !
