-- Runs of bytes, with the room after them, that are cut, glued, made of room and made room again. Assumes `Logic`.
use Rattle.raw_region.proofs.Cited.{◌≡◌, ℕ, ◌+◌, ◌≤◌, List, [], ◌∷◌, ◌++◌, length, length-append, take, drop, refl, sym, ap}
use Rattle.raw_region.proofs.Cited.{take-append-drop, add-zero}
use Rattle.raw_region.proofs.Cited.{add_assoc, arith, length-take-le, length-drop, bytes_own, room_owns, run_owns}
use seplogic.Ra.Ura.{Ura}
use base.Fraction.{full_share}
use base.Logic.{ent, sep, emp, id⊢, never, fst∗}
use base.Fml.{feq, fsep}
use types.Logic.{Logic, sem}
use types.Kit.{‵, ◌⊛◌, ◌$◌, ◌∵◌, !, qed, by, move, drop as forget, use0, use1, use2, split, rewrite, fsplit, fjoin, feq_l, feq_i, done}
use denote.RawPtr.{Ptr, block_ptr, null_ptr, in_a_block, ◌+ₚ◌}
use denote.RawPtr.Bytes.{bytes, bytes_cut, bytes_glue, bytes_apart, bytes_whole, bytes-room}
use denote.RawPtr.Room.{past_bytes, room_glue}
use mir.Syntax.{w8, ty_int}

-- no bytes past p is p
pub here : (p : Ptr) → p ≡ p +ₚ 0
here (block_ptr b o) = ap (block_ptr b) (sym (add-zero o))
here null_ptr = refl

-- n bytes past the k-th past p
pub further : (p : Ptr) (k n : ℕ) → (p +ₚ k) +ₚ n ≡ p +ₚ (k + n)
further (block_ptr b o) k n = ap (block_ptr b) (add_assoc o k n)
further null_ptr k n = refl

module _ {M : Type 1} {𝓤 : Ura M} (𝓛 : Logic 𝓤) (b o : ℕ) where
  pub apart : (xs : List ℕ) → ent 𝓤 (sem 𝓛 (bytes_own (block_ptr b o) xs)) (sem 𝓛 (bytes full_share xs b o))
  apart xs = qed 𝓛 (‵ (bytes_own (block_ptr b o) xs) ∷ []) ∵ use1 𝓛
      (‵ (fsep (feq ℕ (length xs) (length xs)) (bytes full_share xs b o)))
      (bytes_apart 𝓛 full_share (length xs) xs b o) $ fsplit ! $ feq_l ! (λ _. done !)

  pub whole : (xs : List ℕ) → ent 𝓤 (sem 𝓛 (bytes full_share xs b o)) (sem 𝓛 (bytes_own (block_ptr b o) xs))
  whole xs = qed 𝓛 (‵ (bytes full_share xs b o) ∷ []) ∵ feq_i ! ℕ (length xs) (length xs) refl $ fjoin ! $
      by ! (bytes_whole 𝓛 full_share (length xs) xs b o)

  pub none : ent 𝓤 (emp 𝓤) (sem 𝓛 (bytes_own (block_ptr b o) []))
  none = qed 𝓛 [] ∵ use0 𝓛 (‵ (bytes full_share [] b o)) (qed 𝓛 [] ∵ done !) $ by ! (whole [])

module _ {M : Type 1} {𝓤 : Ura M} (𝓛 : Logic 𝓤) (b o : ℕ) where
  pub cut : (n : ℕ) (xs : List ℕ) → n ≤ length xs
      → ent 𝓤 (sem 𝓛 (bytes_own (block_ptr b o) xs))
      (sep 𝓤 (sem 𝓛 (bytes_own (block_ptr b o) (take n xs))) (sem 𝓛 (bytes_own (block_ptr b (o + n)) (drop n xs))))
  cut n xs h =
      qed 𝓛 (‵ (bytes_own (block_ptr b o) xs) ∷ []) ∵ rewrite ! 0 (λ l. ‵ (bytes_own (block_ptr b o) l))
      (sym (take-append-drop n xs)) refl $
      use1 𝓛 (‵ (bytes full_share (take n xs ++ drop n xs) b o)) (apart 𝓛 b o (take n xs ++ drop n xs)) $
      use1 𝓛 (‵ (bytes full_share (take n xs) b o) ⊛ ‵ (bytes full_share (drop n xs) b (o + length (take n xs))))
      (bytes_cut 𝓛 full_share (take n xs) (drop n xs) b o) $ split ! $
      use1 𝓛 (‵ (bytes_own (block_ptr b o) (take n xs))) (whole 𝓛 b o (take n xs)) $
      rewrite ! 1 (λ k. ‵ (bytes full_share (drop n xs) b (o + k))) (length-take-le n xs h) refl $ move ! (1 ∷ 0 ∷ []) $
      use1 𝓛 (‵ (bytes_own (block_ptr b (o + n)) (drop n xs))) (whole 𝓛 b (o + n) (drop n xs)) $ move ! (1 ∷ 0 ∷ []) $
      done !

  pub glue : (xs ys : List ℕ)
      → ent 𝓤 (sep 𝓤 (sem 𝓛 (bytes_own (block_ptr b o) xs)) (sem 𝓛 (bytes_own (block_ptr b (o + length xs)) ys)))
      (sem 𝓛 (bytes_own (block_ptr b o) (xs ++ ys)))
  glue xs ys =
      qed 𝓛 (‵ (bytes_own (block_ptr b o) xs) ∷ ‵ (bytes_own (block_ptr b (o + length xs)) ys) ∷ []) ∵
      use1 𝓛 (‵ (bytes full_share xs b o)) (apart 𝓛 b o xs) $ move ! (1 ∷ 0 ∷ []) $
      use1 𝓛 (‵ (bytes full_share ys b (o + length xs))) (apart 𝓛 b (o + length xs) ys) $ move ! (1 ∷ 0 ∷ []) $
      use2 𝓛 (‵ (bytes full_share (xs ++ ys) b o)) (bytes_glue 𝓛 full_share xs ys b o) $ by ! (whole 𝓛 b o (xs ++ ys))

module _ {M : Type 1} {𝓤 : Ura M} (𝓛 : Logic 𝓤) where
  -- no run lies at null
  pub nowhere : (xs : List ℕ) (m : ℕ) → ent 𝓤 (sem 𝓛 (run_owns null_ptr xs m)) (never 𝓤)
  nowhere xs m = fst∗ 𝓤 (never 𝓤) (never 𝓤)

  -- room for no bytes, and a run of no bytes and no room
  pub no_room : (b o : ℕ) → ent 𝓤 (emp 𝓤) (sem 𝓛 (room_owns (block_ptr b o) 0))
  no_room b o = 𝓛.laws.room_nil (ty_int w8) b o

  pub no_run : (b o : ℕ) → ent 𝓤 (emp 𝓤) (sem 𝓛 (run_owns (block_ptr b o) [] 0))
  no_run b o = qed 𝓛 [] ∵ use0 𝓛 (‵ (room_owns (block_ptr b (o + 0)) 0)) (no_room b (o + 0)) $
      use0 𝓛 (‵ (bytes_own (block_ptr b o) [])) (none 𝓛 b o) $ fjoin ! $ done !

module _ {M : Type 1} {𝓤 : Ura M} (𝓛 : Logic 𝓤) (p : Ptr) where
  -- the bytes from p on, parted after the first n
  pub cut_at : (n : ℕ) (xs : List ℕ) (m : ℕ) → n ≤ length xs
      → ent 𝓤 (sem 𝓛 (run_owns p xs m))
      (sep 𝓤 (sem 𝓛 (run_owns p (take n xs) 0)) (sem 𝓛 (run_owns (p +ₚ n) (drop n xs) m)))
  cut_at n xs m h =
      let d = length-drop n xs in
      let long : length xs ≡ n + length (drop n xs) = omega (arith, d, h) in
      qed 𝓛 (‵ (run_owns p xs m) ∷ []) ∵ fsplit ! $
      in_a_block ! p (λ r. bytes_own r xs) (id⊢ 𝓤 (never 𝓤)) (λ b o is.
      use1 𝓛 (‵ (bytes_own (block_ptr b o) (take n xs)) ⊛ ‵ (bytes_own (block_ptr b (o + n)) (drop n xs)))
      (cut 𝓛 b o n xs h) $ split ! $
      -- [the first bytes; the others; the room]
      rewrite ! 2 (λ k. ‵ (room_owns (p +ₚ k) m)) long refl $
      rewrite ! 2 (λ r. ‵ (room_owns r m)) (sym (further p n (length (drop n xs)))) refl $
      use0 𝓛 (‵ (room_owns (block_ptr b (o + length (take n xs))) 0)) (no_room 𝓛 b (o + length (take n xs))) $
      move ! (1 ∷ 0 ∷ []) $ fjoin ! $
      rewrite ! 0 (λ r. ‵ (run_owns r (take n xs) 0)) (sym is) refl $
      rewrite ! 1 (λ r. ‵ (bytes_own (r +ₚ n) (drop n xs))) (sym is) refl $ move ! (1 ∷ 2 ∷ []) $ fjoin ! $
      move ! (1 ∷ 0 ∷ []) $ done !)

  -- the bytes from p on, and those that lie next
  pub glue_at : (xs ys : List ℕ) (k m : ℕ)
      → ent 𝓤 (sep 𝓤 (sem 𝓛 (run_owns p xs k)) (sem 𝓛 (run_owns (p +ₚ length xs) ys m)))
      (sem 𝓛 (run_owns p (xs ++ ys) m))
  glue_at xs ys k m =
      let long : length xs + length ys ≡ length (xs ++ ys) = sym (length-append xs ys) in
      qed 𝓛 (‵ (run_owns p xs k) ∷ ‵ (run_owns (p +ₚ length xs) ys m) ∷ []) ∵ fsplit ! $ move ! (1 ∷ []) $ forget ! $
      in_a_block ! p (λ r. bytes_own r xs) (id⊢ 𝓤 (never 𝓤)) (λ b o is. move ! (1 ∷ []) $ fsplit ! $
      -- [the second bytes; the room; the first bytes]
      rewrite ! 0 (λ r. ‵ (bytes_own (r +ₚ length xs) ys)) is refl $ move ! (2 ∷ 0 ∷ []) $
      use2 𝓛 (‵ (bytes_own (block_ptr b o) (xs ++ ys))) (glue 𝓛 b o xs ys) $
      rewrite ! 0 (λ r. ‵ (bytes_own r (xs ++ ys))) (sym is) refl $
      rewrite ! 1 (λ r. ‵ (room_owns r m)) (further p (length xs) (length ys)) refl $
      rewrite ! 1 (λ j. ‵ (room_owns (p +ₚ j) m)) long refl $ fjoin ! $ done !)

  -- room is the room after no bytes
  pub roomed : (m : ℕ) → ent 𝓤 (sem 𝓛 (room_owns p m)) (sem 𝓛 (run_owns p [] m))
  roomed m = qed 𝓛 (‵ (room_owns p m) ∷ []) ∵ in_a_block ! p (λ r. room_owns r m) (id⊢ 𝓤 (never 𝓤)) (λ b o is.
      rewrite ! 0 (λ r. ‵ (room_owns r m)) (here (block_ptr b o)) refl $
      use0 𝓛 (‵ (bytes_own (block_ptr b o) [])) (none 𝓛 b o) $ fjoin ! $
      rewrite ! 0 (λ r. ‵ (run_owns r [] m)) (sym is) refl $ done !)

  -- bytes are room too
  pub given_up : (xs : List ℕ) (m : ℕ) → ent 𝓤 (sem 𝓛 (run_owns p xs m)) (sem 𝓛 (room_owns p (length xs + m)))
  given_up xs m = qed 𝓛 (‵ (run_owns p xs m) ∷ []) ∵ fsplit ! $
      in_a_block ! p (λ r. bytes_own r xs) (id⊢ 𝓤 (never 𝓤)) (λ b o is.
      use1 𝓛 (‵ (bytes full_share xs b o)) (apart 𝓛 b o xs) $
      use1 𝓛 (‵ (room_owns (block_ptr b o) (length xs))) (bytes-room 𝓛 xs b o) $
      rewrite ! 1 (λ r. ‵ (room_owns (r +ₚ length xs) m)) is refl $
      rewrite ! 1 (λ k. ‵ (room_owns (block_ptr b k) m)) (sym (past_bytes (length xs) o)) refl $
      use2 𝓛 (‵ (room_owns (block_ptr b o) (length xs + m))) (room_glue 𝓛 (ty_int w8) (length xs) m b o) $
      rewrite ! 0 (λ r. ‵ (room_owns r (length xs + m))) (sym is) refl $ done !)
