use Rattle.desk.proofs.Cited.{inl, inr, [], ◌∷◌, ◌≡◌, ℕ, ◌<◌, ◌≤◌, List, length, map, ◌⊎◌, Option, IfSome, true, zero, suc, subst, Some}
use Rattle.desk.proofs.Cited.{None, option_map, slice_get, slice_set, slice_index_or, refl, sym, ◌∙◌, ap, IfOk, Result, ◌++◌, ◌+◌, take}
use Rattle.desk.proofs.Cited.{get_or, map-set, map-append, map_more, map-set_same, slice_get-map, slice_get_read, slice_get_past}
use Rattle.desk.proofs.Cited.{get_or_from_slice_get, IfOk-weaker, Act, Phase, Left, Coming, window_of, waits, phase_seen, is_waiting, OsErr}
use Rattle.desk.proofs.Cited.{Resources, Place, coming, place_come, places_acted, left_by, Fewer, holders, Lot}
use Rattle.desk.specs.declared.seat.Phase as declared
use Rattle.desk.specs.declared.seat.Phase.TheVariants as seen

-- One place of a list changes: what is seen of the list, and of the lots.

pub if_some : {A : Type 0} (o : Option A) (P Q : A → Type 0) → ((x : A) → P x → Q x) → IfSome o P → IfSome o Q
if_some None P Q f h = tt
if_some (Some x) P Q f h = f x h

-- a place is put behind the others, for the next of those that are gone over
pub pushed_there : {X A B : Type 0} (v : X → B) (f : A → B) (xs ys : List X) (x : X) (apps : List A) (i : ℕ) (a : A)
    → ys ≡ xs ++ x ∷ [] → map v xs ≡ map f (take i apps) → i < length apps → a ≡ get_or apps i a → v x ≡ f a
    → map v ys ≡ map f (take (i + 1) apps)
pushed_there v f xs ys x apps i a e h lt r s = ap (map v) e ∙ map-append v xs (x ∷ []) ∙ ap (λ z. z ++ v x ∷ []) h
    ∙ ap (λ z. map f (take i apps) ++ z ∷ []) (s ∙ ap f r) ∙ sym (map_more f apps i a lt)

module _ {X : Type 0} (v : X → Place) (xs : List X) (n i : ℕ) (x : X) (e : n ≡ length xs) (lt : i < n)
    (r : x ≡ slice_index_or xs i x) where
  -- what is seen of an element that was read
  pub seen_at : slice_get (map v xs) i ≡ Some (v x)
  seen_at = slice_get-map v xs i ∙ ap (option_map v) (slice_get_read xs n i x e lt r)

  pub acted_there : (act : Act) (y : X) → v y ≡ place_come (v x) (coming act (v x))
      → map v (slice_set xs i y) ≡ places_acted act i (slice_get (map v xs) i) (map v xs)
  acted_there act y h = rw seen_at (map-set v xs i y ∙ ap (slice_set (map v xs) i) h)

  pub left_there : {D E : Type 0} (act : Act) (o : Result (Option D) E) (f : D → Left)
      → IfOk o (λ d. option_map f d ≡ (coming act (v x)).left)
      → IfOk o (λ d. option_map f d ≡ left_by act (slice_get (map v xs) i))
  left_there act o f h = IfOk-weaker o (λ d. option_map f d ≡ (coming act (v x)).left)
      (λ d. option_map f d ≡ left_by act (slice_get (map v xs) i)) (λ d k. rw seen_at k) h

  pub name_there : {D E : Type 0} (o : Result (Option D) E) (f : D → List ℕ)
      → IfOk o (λ d. IfSome d (λ d. f d ≡ (v x).name))
      → IfOk o (λ d. IfSome d (λ d. option_map (λ (p : Place). p.name) (slice_get (map v xs) i) ≡ Some (f d)))
  name_there o f h = IfOk-weaker o (λ d. IfSome d (λ d. f d ≡ (v x).name))
      (λ d. IfSome d (λ d. option_map (λ (p : Place). p.name) (slice_get (map v xs) i) ≡ Some (f d)))
      (λ d k. if_some d (λ d. f d ≡ (v x).name)
      (λ d. option_map (λ (p : Place). p.name) (slice_get (map v xs) i) ≡ Some (f d))
      (λ d l. rw seen_at (ap Some (sym l))) k)
      h

  pub held_there : (y : X) → window_of (v y).phase ≡ window_of (v x).phase
      → holders (map v (slice_set xs i y)) ≡ holders (map v xs)
  held_there y h =
      let got = get_or_from_slice_get (map v xs) i (v x) (v x) seen_at in
      ap holders (map-set v xs i y)
      ∙ map-set_same (λ (p : Place). window_of p.phase) (map v xs) i (v y) (v x)
      (h ∙ ap (λ (p : Place). window_of p.phase) (sym got))

  -- what is known of the place is known of the element
  pub known_there : (P : Place → Type 0) → IfSome (slice_get (map v xs) i) P → P (v x)
  known_there P h = subst (λ o. IfSome o P) seen_at h

  pub begun_there : (y : X) (change : Place → Place) → v y ≡ change (v x)
      → IfSome (slice_get (map v xs) i) (λ p. map v (slice_set xs i y) ≡ slice_set (map v xs) i (change p))
  begun_there y change h = rw seen_at (map-set v xs i y ∙ ap (slice_set (map v xs) i) h)

-- an application has come so far
pub come_there : (p : Place) (q : Phase) (c : Coming) → q ≡ c.phase → record p { phase = q } ≡ place_come p c
come_there p q c h = ap (λ (q : Phase). record p { phase = q }) h

-- one that waits waits
pub waiting_seen : {S : Type 0} (start : Result Resources OsErr) (phase : declared.Phase S)
    → waits (phase_seen start phase) ≡ true → is_waiting phase ≡ true
waiting_seen start seen.Waiting e = refl
waiting_seen start (seen.Running live) e = cc
waiting_seen start (seen.Ended l) e = cc

-- there is no such place
pub none_left : {X : Type 0} (v : X → Place) (act : Act) (xs : List X) (i : ℕ) → length xs ≤ i
    → None ≡ left_by act (slice_get (map v xs) i)
none_left v act xs i h = rw (slice_get-map v xs i, slice_get_past xs i h) refl

pub none_acted : {X : Type 0} (v : X → Place) (act : Act) (xs : List X) (i : ℕ) → length xs ≤ i
    → map v xs ≡ places_acted act i (slice_get (map v xs) i) (map v xs)
none_acted v act xs i h = rw (slice_get-map v xs i, slice_get_past xs i h) refl

-- Lots.

pub fewer_same : (os : List (Option Lot)) → Fewer os os
fewer_same [] = tt
fewer_same (o ∷ os) = (inr refl, fewer_same os)

nothing_there : (o : Option Lot) → (let none : Option (Option Lot) = None in none) ≡ Some o → ⊥
nothing_there o e = cc

fewer_cons : (p o : Option Lot) → Some o ≡ Some p → (n : Option Lot) → (n ≡ None) ⊎ (n ≡ p) → (n ≡ None) ⊎ (n ≡ o)
fewer_cons p o e n (inl a) = inl a
fewer_cons p o e n (inr a) = inr (let s : o ≡ p = cc in a ∙ sym s)

fewer_set : (os : List (Option Lot)) (i : ℕ) (p n : Option Lot) → slice_get os i ≡ Some p
    → (n ≡ None) ⊎ (n ≡ p) → Fewer os (slice_set os i n)
fewer_set [] i p n e f = absurd (nothing_there p e)
fewer_set (o ∷ os) zero p n e f = (fewer_cons p o e n f, fewer_same os)
fewer_set (o ∷ os) (suc i) p n e f = (inr refl, fewer_set os i p n e f)

module _ {X : Type 0} (v : X → Option Lot) (xs : List X) (n i : ℕ) (x : X) (e : n ≡ length xs) (lt : i < n)
    (r : x ≡ slice_index_or xs i x) where
  pub lot_at : slice_get (map v xs) i ≡ Some (v x)
  lot_at = slice_get-map v xs i ∙ ap (option_map v) (slice_get_read xs n i x e lt r)

  pub lot_there : {D E : Type 0} (o : Result (Option D) E) (f : D → Lot)
      → IfOk o (λ d. IfSome d (λ d. v x ≡ Some (f d)))
      → IfOk o (λ d. IfSome d (λ d. slice_get (map v xs) i ≡ Some (Some (f d))))
  lot_there o f h = IfOk-weaker o (λ d. IfSome d (λ d. v x ≡ Some (f d)))
      (λ d. IfSome d (λ d. slice_get (map v xs) i ≡ Some (Some (f d))))
      (λ d k. if_some d (λ d. v x ≡ Some (f d)) (λ d. slice_get (map v xs) i ≡ Some (Some (f d)))
      (λ d l. lot_at ∙ ap Some l) k)
      h

  pub fewer_there : (y : X) → (v y ≡ None) ⊎ (v y ≡ v x) → Fewer (map v xs) (map v (slice_set xs i y))
  fewer_there y f = subst (Fewer (map v xs)) (sym (map-set v xs i y)) (fewer_set (map v xs) i (v x) (v y) lot_at f)

pub lots_after : {X : Type 0} (v : X → Option Lot) (xs : List X) (i : ℕ) (y : X) (lot : Option Lot) → v y ≡ lot
    → map v (slice_set xs i y) ≡ slice_set (map v xs) i lot
lots_after v xs i y lot e = map-set v xs i y ∙ ap (slice_set (map v xs) i) e
