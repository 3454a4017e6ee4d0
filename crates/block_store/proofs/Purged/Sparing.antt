use Rattle.block_store.proofs.Cited.{◌≡◌, ℕ, ◌+◌, ◌-◌, zero, suc, Bool, true, false, not, ◌&&◌, List, [], ◌∷◌, ◌++◌, refl, sym, ◌∙◌, ap}
use Rattle.block_store.proofs.Cited.{cond, Option, Some, None, filter, option_map, option_or, option_and_then, none-some, same_Some}
use Rattle.block_store.proofs.Cited.{filter-append, Block, Free, Nonrelocatable, Masters, Relocatable, size, free_sum, free, add, tidy}
use Rattle.block_store.proofs.Cited.{is_room, is_purgeable, RunSpot, run_spot, with_run, change_run, has_free, settle, low, movers, Spot}
use Rattle.block_store.proofs.Cited.{spot, raised, may_be_purged, lowest_purged, purge, count_of, room, place, put_at_base, put_in_place}
use Rattle.block_store.proofs.Cited.{filled, Loose}
use Rattle.block_store.proofs.Zone.Tidy.{spot-is, add-joined}
use Rattle.block_store.proofs.Regroup.HavingRoom.{place-room}
use Rattle.block_store.proofs.Regroup.RunLists.{run_spot-parts}
use Rattle.block_store.proofs.Plain.Trials.{least-some}
use Rattle.block_store.proofs.Zone.Absence.{NoFree}

-- Making room keeps the blocks that it spares.

filter-add : (t : Block → Bool) → NoFree t → (b : Block) (bs : List Block) → filter t (add b bs) ≡ filter t (b ∷ bs)
filter-add t free = add-joined (filter t) (λ bs. rw (free 0) refl) (λ n m bs. rw (free (n + m), free n, free m) refl)

pub filter-tidy : (t : Block → Bool) → NoFree t → (bs : List Block) → filter t (tidy bs) ≡ filter t bs
filter-tidy t free [] = refl
filter-tidy t free (b ∷ bs) = filter-add t free b (tidy bs) ∙ ap (λ l. cond (t b) (b ∷ l) l) (filter-tidy t free bs)

-- a test of blocks that are spared
abbrev pub Spares : (Block → Bool) → (Block → Bool) → Type 0
Spares sp t = (b : Block) → t b ≡ true → sp b ≡ true

stays : (sp t : Block → Bool) → Spares sp t → (b : Block) → may_be_purged sp b ≡ true → t b ≡ false
stays sp t spares b goes = cases (t b) refl
  where
    cases : (u : Bool) → t b ≡ u → u ≡ false
    cases false e = refl
    cases true e = let f : (is_purgeable b && not true) ≡ true = ap (λ u. is_purgeable b && not u) (sym (spares b e))
        ∙ goes in clash (is_purgeable b) f
      where
        clash : (u : Bool) → (u && false) ≡ true → true ≡ false
        clash true e = sym e
        clash false e = sym e

filter-lowest_purged : (sp t : Block → Bool) → NoFree t → Spares sp t → (k : ℕ) (bs : List Block)
    → filter t (lowest_purged k sp bs) ≡ filter t bs
filter-lowest_purged sp t free spares zero bs = refl
filter-lowest_purged sp t free spares (suc k) [] = refl
filter-lowest_purged sp t free spares (suc k) (b ∷ bs) = cases (may_be_purged sp b) refl
    (filter-lowest_purged sp t free spares k bs)
    (filter-lowest_purged sp t free spares (suc k) bs)
  where
    cases : (m : Bool) → may_be_purged sp b ≡ m → filter t (lowest_purged k sp bs) ≡ filter t bs
        → filter t (lowest_purged (suc k) sp bs) ≡ filter t bs
        → filter t (cond m (Free (size b) ∷ lowest_purged k sp bs) (b ∷ lowest_purged (suc k) sp bs))
        ≡ filter t (b ∷ bs)
    cases true goes less same = rw (free (size b), stays sp t spares b goes) less
    cases false goes less same = ap (λ l. cond (t b) (b ∷ l) l) same

pub filter-purge : (sp t : Block → Bool) → NoFree t → Spares sp t → (k : ℕ) (bs : List Block)
    → filter t (purge k sp bs) ≡ filter t bs
filter-purge sp t free spares k bs = filter-tidy t free (lowest_purged k sp bs) ∙ filter-lowest_purged sp t free spares
    k bs

filter-free : (t : Block → Bool) → NoFree t → (n : ℕ) → filter t (free n) ≡ []
filter-free t none zero = refl
filter-free t none (suc n) = rw (none (suc n)) refl

-- the blocks of a run but the Free ones
filter-movers : (t : Block → Bool) → NoFree t → (run : List Block) → Loose run → filter t (movers run) ≡ filter t run
filter-movers t free [] r = refl
filter-movers t free (Free n ∷ run) r = rw (free n) (filter-movers t free run r.1)
filter-movers t free (Nonrelocatable id content ∷ run) r = let f : false ≡ true = r.0 in cc
filter-movers t free (Masters ∷ run) r = let f : false ≡ true = r.0 in cc
filter-movers t free (Relocatable id flags content ∷ run) r =
    ap (λ u. filter t (cond u (Relocatable id flags content ∷ movers run) (movers run))) r.0
    ∙ ap (λ l. cond (t (Relocatable id flags content)) (Relocatable id flags content ∷ l) l)
    (filter-movers t free run r.1)

append-nothing : (xs : List Block) → xs ++ [] ≡ xs
append-nothing [] = refl
append-nothing (x ∷ xs) = ap (λ l. x ∷ l) (append-nothing xs)

filter-packed : (t : Block → Bool) → NoFree t → (n : ℕ) (run : List Block) → Loose run
    → filter t (movers run ++ free n) ≡ filter t run
filter-packed t none n run r =
    filter-append t (movers run) (free n) ∙ ap (λ l. filter t (movers run) ++ l) (filter-free t none n)
    ∙ append-nothing (filter t (movers run)) ∙ filter-movers t none run r

-- a change of a run that keeps the blocks of a test
filter-change : (t : Block → Bool) (passes : List Block → Bool) (change : List Block → List Block)
    → ((run : List Block) → Loose run → filter t (change run) ≡ filter t run)
    → (zone after : List Block) → change_run passes change zone ≡ Some after → filter t after ≡ filter t zone
filter-change t passes change keeps zone after e = cases (run_spot passes zone) refl e
  where
    cases : (o : Option RunSpot) → run_spot passes zone ≡ o → option_map (with_run change) o ≡ Some after
        → filter t after ≡ filter t zone
    cases None is e = absurd (none-some _ e)
    cases (Some r) is e =
        ap (filter t) (sym (same_Some _ _ e))
        ∙ filter-append t (r.below ++ change r.run) r.above ∙ ap (λ l. l ++ filter t r.above)
        (filter-append t r.below (change r.run))
        ∙ ap (λ l. (filter t r.below ++ l) ++ filter t r.above) (keeps r.run (run_spot-parts passes zone r is).loose)
        ∙ ap (λ l. l ++ filter t r.above) (sym (filter-append t r.below r.run))
        ∙ sym (filter-append t (r.below ++ r.run) r.above)
        ∙ ap (filter t) (run_spot-parts passes zone r is).whole

pub mapped : {A B : Type 0} (f : A → B) (o : Option A) (y : B) → option_map f o ≡ Some y → (x : A) × (o ≡ Some x)
    × (f x ≡ y)
mapped f None y e = absurd (none-some _ e)
mapped f (Some x) y e = (x, refl, same_Some _ _ e)

-- a block at the base of a run
filter-base : (t : Block → Bool) → NoFree t → (new : Block) → t new ≡ false → (zone after : List Block)
    → put_at_base new zone ≡ Some after → filter t after ≡ filter t zone
filter-base t none new fails zone after e =
    let m = mapped tidy (change_run (has_free (size new)) (low new) zone) after e in
    ap (filter t) (sym m.2) ∙ filter-tidy t none m.0
    ∙ filter-change t (has_free (size new)) (low new) (λ run r. ap
    (λ u. cond u (new ∷ filter t (movers run ++ free (free_sum run - size new)))
    (filter t (movers run ++ free (free_sum run - size new)))) fails
    ∙ filter-packed t none (free_sum run - size new) run r) zone m.0 m.1

not_room : (t : Block → Bool) → NoFree t → (p : ℕ) (b : Block) → is_room p b ≡ true → t b ≡ false
not_room t none p (Free n) e = none n
not_room t none p (Nonrelocatable id content) e = let f : false ≡ true = e in cc
not_room t none p Masters e = let f : false ≡ true = e in cc
not_room t none p (Relocatable id flags content) e = let f : false ≡ true = e in cc

-- the place of a block
filter-place : (t : Block → Bool) → NoFree t → (p : ℕ) (zone : List Block) (s : Spot) → place p zone ≡ Some s
    → filter t (s.below ++ s.here ∷ s.above) ≡ filter t zone
filter-place t none p zone s e = cases (spot (is_room p) zone) refl e
  where
    after : (o : Option (List Block)) → change_run (has_free p) settle zone ≡ o
        → option_and_then (spot (is_room p)) (option_map tidy o) ≡ Some s
        → filter t (s.below ++ s.here ∷ s.above) ≡ filter t zone
    after None is e = absurd (none-some _ e)
    after (Some z) is e =
        ap (filter t) (sym (spot-is (is_room p) (tidy z) s e)) ∙ filter-tidy t none z
        ∙ filter-change t (has_free p) settle (λ run r. filter-packed t none (free_sum run) run r) zone z is

    cases : (o : Option Spot) → spot (is_room p) zone ≡ o → option_or o
        (option_and_then (spot (is_room p)) (option_map tidy (change_run (has_free p) settle zone))) ≡ Some s
        → filter t (s.below ++ s.here ∷ s.above) ≡ filter t zone
    cases None is e = after (change_run (has_free p) settle zone) refl e
    cases (Some q) is e = ap (filter t) (sym (spot-is (is_room p) zone s (is ∙ e)))

-- a block in its place
filter-filled : (t : Block → Bool) → NoFree t → (new : Block) → t new ≡ false → (zone after : List Block)
    → put_in_place new zone ≡ Some after → filter t after ≡ filter t zone
filter-filled t none new fails zone after e =
    let m = mapped (filled new) (place (size new) zone) after e in
    let s = m.0 in
    ap (filter t) (sym m.2) ∙ filter-tidy t none (s.below ++ new ∷ Free (size s.here - size new) ∷ s.above)
    ∙ filter-append t s.below (new ∷ Free (size s.here - size new) ∷ s.above)
    ∙ ap (λ l. filter t s.below ++ l) (gone new s.here (Free (size s.here - size new)) s.above fails
    (not_room t none (size new) s.here (place-room (size new) zone s m.1)) (none (size s.here - size new)))
    ∙ sym (filter-append t s.below (s.here ∷ s.above)) ∙ filter-place t none (size new) zone s m.1
  where
    gone : (a b c : Block) (above : List Block) → t a ≡ false → t b ≡ false → t c ≡ false
        → filter t (a ∷ c ∷ above) ≡ filter t (b ∷ above)
    gone a b c above at_a at_b at_c = rw (at_a, at_b, at_c) refl

-- what room is made for keeps them
pub filter-room : (sp t : Block → Bool) → NoFree t → Spares sp t → (try : List Block → Option (List Block))
    → ((zone after : List Block) → try zone ≡ Some after → filter t after ≡ filter t zone)
    → (zone after : List Block) → room try sp zone ≡ Some after → filter t after ≡ filter t zone
filter-room sp t none spares try keeps zone after e =
    let P : List Block → Type 0 = λ z. filter t z ≡ filter t zone in
    least-some P (λ k. try (purge k sp zone)) (count_of sp zone) after
    (λ k z is. keeps (purge k sp zone) z is ∙ filter-purge sp t none spares k zone) e

pub filter-room_base : (sp t : Block → Bool) → NoFree t → Spares sp t → (new : Block) → t new ≡ false
    → (zone after : List Block) → room (put_at_base new) sp zone ≡ Some after → filter t after ≡ filter t zone
filter-room_base sp t none spares new fails zone after e = filter-room sp t none spares (put_at_base new)
    (filter-base t none new fails) zone after e

pub filter-room_place : (sp t : Block → Bool) → NoFree t → Spares sp t → (new : Block) → t new ≡ false
    → (zone after : List Block) → room (put_in_place new) sp zone ≡ Some after → filter t after ≡ filter t zone
filter-room_place sp t none spares new fails zone after e = filter-room sp t none spares (put_in_place new)
    (filter-filled t none new fails) zone after e

-- the lowest block that passes, by those that pass
abbrev pub lowest : List Block → Option Block
lowest [] = None
lowest (b ∷ bs) = Some b

pub spot-lowest : (t : Block → Bool) (bs : List Block) → option_map (λ (s : Spot). s.here) (spot t bs)
    ≡ lowest (filter t bs)
spot-lowest t [] = refl
spot-lowest t (b ∷ bs) = cases (t b) (spot t bs) (spot-lowest t bs)
  where
    cases : (u : Bool) (o : Option Spot) → option_map (λ (s : Spot). s.here) o ≡ lowest (filter t bs)
        → option_map (λ (s : Spot). s.here) (cond u (Some (record { below = []; here = b; above = bs }))
        (option_map (raised b) o)) ≡ lowest (cond u (b ∷ filter t bs) (filter t bs))
    cases true o e = refl
    cases false None e = e
    cases false (Some s) e = e

-- zones with the same blocks that pass have the same lowest one
pub here-same : (t : Block → Bool) (zone zone' : List Block) → filter t zone' ≡ filter t zone
    → option_map (λ (s : Spot). s.here) (spot t zone') ≡ option_map (λ (s : Spot). s.here) (spot t zone)
here-same t zone zone' same = spot-lowest t zone' ∙ ap lowest same ∙ sym (spot-lowest t zone)
