use Rattle.zone_replay.proofs.Cited.{◌≡◌, ℕ, ◌+◌, ◌==◌, Bool, true, false, cond, List, ◌∷◌, Option, Some, None, refl, sym, ap, ◌∙◌, arith}
use Rattle.zone_replay.proofs.Cited.{◌<◌, ◌^◌, ◌≤◌, suc, add-one, length, drop, slice_get, drop-cons, cond-true, nat_tests, drop_all}
use Rattle.zone_replay.proofs.Cited.{slice_get_within, get_or_from_slice_get, BTreeMap, get, Bor, option_or, option_map, nat_cmp, Label}
use Rattle.zone_replay.proofs.Cited.{Reference, has_handle, Anchor, number_from, no_number, Tag, no_tag, view_tag, tag_in, Owner, entered}
use Rattle.zone_replay.proofs.Cited.{given, owned, owner, owner_in, tag_by}
use Rattle.std.proofs.Common.{nat_lt}
use Rattle.zone_drawing.specs.declared.line.Tag as declared

-- Maps into which the first value of each key is entered.

-- what is there, or else what comes
pub or-assoc : {X : Type 0} (x y z : Option X) → option_or (option_or x y) z ≡ option_or x (option_or y z)
or-assoc None y z = refl
or-assoc (Some x) y z = refl

-- a value that was entered, seen by a function, before what comes
pub entered-first : {X Y : Type 0} (f : X → Y) (there : Option X) (key : ℕ) (value : X) (n : ℕ) (rest : Option Y)
    → option_or (option_map f (option_or there (entered key value n))) rest
    ≡ option_or (option_map f there) (cond (key == n) (Some (f value)) rest)
entered-first f (Some x) key value n rest = refl
entered-first f None key value n rest = cases (key == n)
  where
    cases : (t : Bool) → option_or (option_map f (cond t (Some value) None)) rest ≡ cond t (Some (f value)) rest
    cases true = refl
    cases false = refl

-- the resource of a reference, before those of the references that follow
pub owned-first : (n file : ℕ) (r : Reference) (references : List Reference)
    → option_or (owned n file r) (owner_in n file references) ≡ owner_in n file (r ∷ references)
owned-first n file r references = cases (has_handle n r)
  where
    cases : (t : Bool) → option_or (cond t (Some (owner file r)) None) (owner_in n file references)
        ≡ cond t (Some (owner file r)) (owner_in n file references)
    cases true = refl
    cases false = refl

-- what is known at a key, or else of a number
abbrev pub known_or : (ℕ → Tag) → Option declared.Tag → ℕ → Tag
known_or known None n = known n
known_or known (Some t) n = view_tag t

-- a value that was entered is known of its number
pub entered-known : (known : ℕ → Tag) (there : Option declared.Tag) (key k n more : ℕ) (t : declared.Tag)
    → view_tag t ≡ known n
    → known_or known (option_or there (entered key t k)) more ≡ known_or known there (cond (key == k) n more)
entered-known known (Some x) key k n more t is = refl
entered-known known None key k n more t is = cases (key == k)
  where
    cases : (b : Bool) → known_or known (cond b (Some t) None) more ≡ known (cond b n more)
    cases true = is
    cases false = refl

-- the first of the items from a place on
at-place : {X : Type 0} (xs : List X) (i : ℕ) (x : X) → slice_get xs i ≡ Some x → drop i xs ≡ x ∷ drop (i + 1) xs
at-place xs i x is = drop-cons xs i x (slice_get_within xs i x is)
    ∙ ap (λ y. y ∷ drop (suc i) xs) (get_or_from_slice_get xs i x x is) ∙ ap (λ k. x ∷ drop k xs) (sym (add-one i))

-- the resource of one reference more
pub one-more-owned : (there there' : Option Owner) (n file number i : ℕ) (r : Reference) (references : List Reference)
    (whole : Option Owner) → slice_get references i ≡ Some r → number ≡ file
    → there' ≡ option_or there (owned n number r)
    → option_or there (owner_in n file (drop i references)) ≡ whole
    → option_or there' (owner_in n file (drop (i + 1) references)) ≡ whole
one-more-owned there there' n file number i r references whole is same entered before =
    ap (λ x. option_or x (owner_in n file (drop (i + 1) references)))
    (entered ∙ ap (λ k. option_or there (owned n k r)) same)
    ∙ or-assoc there (owned n file r) (owner_in n file (drop (i + 1) references))
    ∙ ap (option_or there) (owned-first n file r (drop (i + 1) references))
    ∙ ap (λ rest. option_or there (owner_in n file rest)) (sym (at-place references i r is)) ∙ before

-- a number that is given
pub given_below : (n : ℕ) → n < 2 ^ 64 → given n ≡ Some n
given_below n below = cond-true (nat_lt n (2 ^ 64)) _ _ (grind (arith, nat_tests))

-- nothing is known of a number that is larger than any that is given
pub unknown : (names : BTreeMap ℕ (Bor Label)) (owners : BTreeMap ℕ Owner) → get nat_cmp names no_number ≡ None
    → get nat_cmp owners no_number ≡ None → tag_by names owners no_number ≡ no_tag
unknown names owners none unowned i = record {
  name = option_map (λ (l : Bor Label). l.now.0.items) (none i);
  owner = unowned i;
  number = None;
}

-- once all was entered, what is known at a key is what was entered there
pub all-entered : (known : ℕ → Tag) (there : Option declared.Tag) (test : Anchor → Bool) (n : ℕ) (anchors : List Anchor)
    (whole : Tag) → known no_number ≡ no_tag → length anchors ≤ n
    → known_or known there (number_from n test (drop n anchors)) ≡ whole → tag_in there ≡ whole
all-entered known there test n anchors whole none past is =
    ends there ∙ sym (ap (λ rest. known_or known there (number_from n test rest)) (drop_all n anchors past)) ∙ is
  where
    ends : (t : Option declared.Tag) → tag_in t ≡ known_or known t no_number
    ends None = sym none
    ends (Some t) = refl
