use Rattle.res_map.proofs.Cited.{◌≡◌, ◌∙◌, refl, sym, ap, subst, zero, suc, ℕ, ◌<◌, List, [], ◌∷◌, length, map, Option, Some, None, IfSome}
use Rattle.res_map.proofs.Cited.{get_or, arith, Bool, true, false, not, cond, ◌||◌, ◌&&◌, ◌++◌, slice_get, slice_set, option_map, ◌==◌}
use Rattle.res_map.proofs.Cited.{list_any, remove, slice_get-map, distinct, Reference, Map, IsOrdered, stand_together, added}
use Rattle.res_map.proofs.Cited.{view_reference, StoredReference}
use Rattle.res_map.proofs.TypeLists.{is_among, others, added_kind, distinct-among, distinct-new, together-added}
use Rattle.res_map.proofs.TypeLists.{distinct-gone, distinct-left, together-removed}
use Rattle.res_map.proofs.Splitting.{get-inside}

-- What keeps references in order.

abbrev pub kinds_of : List Reference → List ℕ
kinds_of references = map (λ (r : Reference). r.kind) references

-- the order is that of the types
pub ordered-kinds : (kinds : List ℕ) (old new : List Reference) → kinds_of new ≡ kinds_of old → IsOrdered kinds old
    → IsOrdered kinds new
ordered-kinds kinds old new same is = record {
  types = is.types ∙ ap distinct (sym same);
  together = ap stand_together same ∙ is.together;
}

-- a reference that is changed in its place, and not in its type
kinds-set : (f : Reference → Reference) → ((r : Reference) → (f r).kind ≡ r.kind) → (references : List Reference)
    (i : ℕ) (r : Reference) → slice_get references i ≡ Some r
    → kinds_of (slice_set references i (f r)) ≡ kinds_of references
kinds-set f keeps [] i r e = refl
kinds-set f keeps (x ∷ references) zero r e =
    let is : x ≡ r = cc in
    ap (λ k. k ∷ kinds_of references) (keeps r ∙ ap (λ (y : Reference). y.kind) (sym is))
kinds-set f keeps (x ∷ references) (suc i) r e = ap (λ l. x.kind ∷ l) (kinds-set f keeps references i r e)

pub ordered-set : (f : Reference → Reference) → ((r : Reference) → (f r).kind ≡ r.kind) → (kinds : List ℕ) (m : Map)
    (old new : List Reference) (i : ℕ) → old ≡ m.references → i < length m.references
    → IfSome (slice_get old i) (λ r. new ≡ slice_set old i (f r)) → IsOrdered kinds old → IsOrdered kinds new
ordered-set f keeps kinds m old new i seen inside set is =
    cases (slice_get old i) refl (subst (λ (l : List Reference). i < length l) (sym seen) inside) set
  where
    cases : (o : Option Reference) → slice_get old i ≡ o → i < length old
        → IfSome o (λ r. new ≡ slice_set old i (f r)) → IsOrdered kinds new
    cases None e inside set = absurd (get-inside old i inside e)
    cases (Some r) e inside set = ordered-kinds kinds old new (ap kinds_of set ∙ kinds-set f keeps old i r e) is

pub ordered-changed : (f : Reference → Reference) → ((r : Reference) → (f r).kind ≡ r.kind) → (kinds : List ℕ)
    (old new : List Reference) (i : ℕ) → i < length old → IfSome (slice_get old i) (λ r. new ≡ slice_set old i (f r))
    → IsOrdered kinds old → IsOrdered kinds new
ordered-changed f keeps kinds old new i inside set =
    ordered-set f keeps kinds (record { area = []; attrs = 0; references = old }) old new i refl inside set

-- the same of what is kept of a reference
kinds-seen : (refs : List StoredReference) (i : ℕ) (x y : StoredReference) → i < length refs → x ≡ get_or refs i x
    → y.kind ≡ x.kind → kinds_of (map view_reference (slice_set refs i y)) ≡ kinds_of (map view_reference refs)
kinds-seen [] i x y inside is same = refl
kinds-seen (z ∷ refs) zero x y inside is same =
    ap (λ k. k ∷ kinds_of (map view_reference refs)) (same ∙ ap (λ (r : StoredReference). r.kind) is)
kinds-seen (z ∷ refs) (suc i) x y inside is same =
    ap (λ l. z.kind ∷ l) (kinds-seen refs i x y (omega arith) is same)

pub ordered-seen_at : (refs : List StoredReference) (i : ℕ) (x y : StoredReference) → i < length refs
    → x ≡ get_or refs i x → y.kind ≡ x.kind → (kinds : List ℕ) → IsOrdered kinds (map view_reference refs)
    → IsOrdered kinds (map view_reference (slice_set refs i y))
ordered-seen_at refs i x y inside is same kinds =
    ordered-kinds kinds (map view_reference refs) (map view_reference (slice_set refs i y))
    (kinds-seen refs i x y inside is same)

-- the types of references as a list of numbers
pub kinds-any : (kind : ℕ) (refs : List Reference)
    → list_any (λ (r : Reference). r.kind == kind) refs ≡ is_among kind (kinds_of refs)
kinds-any kind [] = refl
kinds-any kind (r ∷ refs) = ap (λ t. r.kind == kind || t) (kinds-any kind refs)

kinds-added : (new : Reference) (refs : List Reference)
    → kinds_of (added new refs) ≡ added_kind new.kind (kinds_of refs)
kinds-added new [] = refl
kinds-added new (r ∷ refs) =
    ap (λ t. kinds_of (cond (r.kind == new.kind && not t) (r ∷ new ∷ refs) (r ∷ added new refs)))
    (kinds-any new.kind refs)
    ∙ cases (r.kind == new.kind && not (is_among new.kind (kinds_of refs))) (kinds-added new refs)
  where
    cases : (t : Bool) → kinds_of (added new refs) ≡ added_kind new.kind (kinds_of refs)
        → kinds_of (cond t (r ∷ new ∷ refs) (r ∷ added new refs))
        ≡ cond t (r.kind ∷ new.kind ∷ kinds_of refs) (r.kind ∷ added_kind new.kind (kinds_of refs))
    cases true e = refl
    cases false e = ap (λ l. r.kind ∷ l) e

-- a reference that is added: its type is there, or it is the last one
pub ordered-among : (kinds : List ℕ) (new : Reference) (refs : List Reference)
    → is_among new.kind (kinds_of refs) ≡ true → IsOrdered kinds refs → IsOrdered kinds (added new refs)
ordered-among kinds new refs among is = record {
  types = is.types ∙ sym (ap distinct (kinds-added new refs) ∙ distinct-among new.kind (kinds_of refs) among);
  together = ap stand_together (kinds-added new refs) ∙ together-added new.kind (kinds_of refs) is.together;
}

pub ordered-new : (kinds : List ℕ) (new : Reference) (refs : List Reference)
    → is_among new.kind (kinds_of refs) ≡ false → IsOrdered kinds refs
    → IsOrdered (kinds ++ new.kind ∷ []) (added new refs)
ordered-new kinds new refs among is = record {
  types = ap (λ l. l ++ new.kind ∷ []) is.types
      ∙ sym (ap distinct (kinds-added new refs) ∙ distinct-new new.kind (kinds_of refs) among);
  together = ap stand_together (kinds-added new refs) ∙ together-added new.kind (kinds_of refs) is.together;
}

-- a reference that goes: another one of its type stays, or the type goes with it
kind-at : (refs : List Reference) (i : ℕ) (r : Reference) → slice_get refs i ≡ Some r
    → slice_get (kinds_of refs) i ≡ Some r.kind
kind-at refs i r got =
    slice_get-map (λ (x : Reference). x.kind) refs i ∙ ap (option_map (λ (x : Reference). x.kind)) got

pub map-remove : {A B : Type 0} (f : A → B) (xs : List A) (i : ℕ) → map f (remove xs i) ≡ remove (map f xs) i
map-remove f [] zero = refl
map-remove f [] (suc i) = refl
map-remove f (x ∷ xs) zero = refl
map-remove f (x ∷ xs) (suc i) = ap (λ l. f x ∷ l) (map-remove f xs i)

kinds-removed : (refs : List Reference) (i : ℕ) → kinds_of (remove refs i) ≡ remove (kinds_of refs) i
kinds-removed refs i = map-remove (λ (r : Reference). r.kind) refs i

pub ordered-left : (kinds : List ℕ) (refs : List Reference) (i : ℕ) (r : Reference) → slice_get refs i ≡ Some r
    → is_among r.kind (kinds_of (remove refs i)) ≡ true → IsOrdered kinds refs → IsOrdered kinds (remove refs i)
ordered-left kinds refs i r got among is = record {
  types = is.types ∙ sym (ap distinct (kinds-removed refs i) ∙ distinct-left r.kind (kinds_of refs) i
      (kind-at refs i r got) (ap (is_among r.kind) (sym (kinds-removed refs i)) ∙ among) is.together);
  together = ap stand_together (kinds-removed refs i) ∙ together-removed (kinds_of refs) i is.together;
}

pub ordered-gone : (kinds : List ℕ) (refs : List Reference) (i : ℕ) (r : Reference) → slice_get refs i ≡ Some r
    → is_among r.kind (kinds_of (remove refs i)) ≡ false → IsOrdered kinds refs
    → IsOrdered (others r.kind kinds) (remove refs i)
ordered-gone kinds refs i r got among is = record {
  types = ap (others r.kind) is.types
      ∙ sym (ap distinct (kinds-removed refs i) ∙ distinct-gone r.kind (kinds_of refs) i
      (kind-at refs i r got) (ap (is_among r.kind) (sym (kinds-removed refs i)) ∙ among));
  together = ap stand_together (kinds-removed refs i) ∙ together-removed (kinds_of refs) i is.together;
}
