use Rattle.res_map.proofs.Cited.{◌≡◌, ◌∙◌, ℕ, suc, ◌+◌, ◌-◌, ◌<◌, ◌≤◌, arith, Bool, true, false, not, cond, ◌||◌, ◌&&◌, List, [], ◌∷◌, ◌++◌}
use Rattle.res_map.proofs.Cited.{length, map, take, get_or, refl, sym, ap, Option, Some, None, zero, subst, ◌==◌, is_some, is_none}
use Rattle.res_map.proofs.Cited.{slice_get, option_map, insert, remove, list_any, insert_end, map_more, map_push, length-map}
use Rattle.res_map.proofs.Cited.{length-take-le, slice_get-map, slice_get-get_or, Reference, IsOrdered, is_of, added, end_of, end_after}
use Rattle.res_map.proofs.Cited.{view_reference, StoredReference}
use Rattle.res_map.proofs.TypeLists.{is_among, others}
use Rattle.res_map.proofs.Order.{kinds_of, kinds-any, map-remove, ordered-among, ordered-new}
use Rattle.res_map.proofs.Order.{ordered-gone, ordered-left}

-- The place behind the last reference of a type.

-- there is one where the type is among those of the references
pub end-among : (kind : ℕ) (refs : List Reference) → is_some (end_of kind refs) ≡ is_among kind (kinds_of refs)
end-among kind [] = refl
end-among kind (r ∷ refs) = cases (r.kind == kind) (end_of kind refs) (end-among kind refs)
  where
    cases : (t : Bool) (o : Option ℕ) → is_some o ≡ is_among kind (kinds_of refs)
        → is_some (end_after t o) ≡ (t || is_among kind (kinds_of refs))
    cases true (Some n) e = refl
    cases true None e = refl
    cases false (Some n) e = e
    cases false None e = e

-- a reference is added there, or behind all
pub added-behind : (new : Reference) (refs : List Reference) (n : ℕ) → end_of new.kind refs ≡ Some n
    → added new refs ≡ insert refs n new
added-behind new [] n e = cc
added-behind new (r ∷ refs) n e =
    ap (λ t. cond (r.kind == new.kind && not t) (r ∷ new ∷ refs) (r ∷ added new refs))
    (kinds-any new.kind refs ∙ sym (end-among new.kind refs))
    ∙ cases (r.kind == new.kind) (end_of new.kind refs) (added-behind new refs) e
  where
    cases : (t : Bool) (o : Option ℕ) → ((n : ℕ) → o ≡ Some n → added new refs ≡ insert refs n new)
        → end_after t o ≡ Some n
        → cond (t && not (is_some o)) (r ∷ new ∷ refs) (r ∷ added new refs) ≡ insert (r ∷ refs) n new
    cases true (Some m) again e =
        let is : suc m ≡ n = cc in
        ap (λ l. r ∷ l) (again m refl) ∙ ap (λ j. insert (r ∷ refs) j new) is
    cases false (Some m) again e =
        let is : suc m ≡ n = cc in
        ap (λ l. r ∷ l) (again m refl) ∙ ap (λ j. insert (r ∷ refs) j new) is
    cases true None again e = let is : 1 ≡ n = cc in ap (λ j. insert (r ∷ refs) j new) is
    cases false None again e = cc

pub added-last : (new : Reference) (refs : List Reference) → end_of new.kind refs ≡ None
    → added new refs ≡ refs ++ new ∷ []
added-last new [] e = refl
added-last new (r ∷ refs) e = cases (r.kind == new.kind) (end_of new.kind refs) (added-last new refs) e
  where
    cases : (t : Bool) (o : Option ℕ) → (o ≡ None → added new refs ≡ refs ++ new ∷ []) → end_after t o ≡ None
        → cond (t && not (list_any (λ (x : Reference). x.kind == new.kind) refs)) (r ∷ new ∷ refs) (r ∷ added new refs)
        ≡ r ∷ (refs ++ new ∷ [])
    cases t (Some m) again e = cc
    cases true None again e = cc
    cases false None again e = ap (λ l. r ∷ l) (again refl)

-- one more behind all
end-push : (kind : ℕ) (refs : List Reference) (r : Reference) (t : Bool) → (r.kind == kind) ≡ t
    → end_of kind (refs ++ r ∷ []) ≡ cond t (Some (suc (length refs))) (end_of kind refs)
end-push kind [] r true e = ap (λ t. end_after t None) e
end-push kind [] r false e = ap (λ t. end_after t None) e
end-push kind (x ∷ refs) r true e = ap (end_after (x.kind == kind)) (end-push kind refs r true e)
end-push kind (x ∷ refs) r false e = ap (end_after (x.kind == kind)) (end-push kind refs r false e)

-- one step of the search from behind
one-more : (refs : List StoredReference) (end : ℕ) (x : StoredReference) → 0 < end → end ≤ length refs
    → x ≡ get_or refs (end - 1) x
    → map view_reference (take end refs) ≡ map view_reference (take (end - 1) refs) ++ view_reference x ∷ []
one-more refs end x some inside is =
    let last : end ≡ end - 1 + 1 = omega arith in
    ap (λ n. map view_reference (take n refs)) last
    ∙ map_more view_reference refs (end - 1) x (omega arith)
    ∙ ap (λ y. map view_reference (take (end - 1) refs) ++ view_reference y ∷ []) (sym is)

pub end_here : (refs : List StoredReference) (kind end : ℕ) (x : StoredReference) (all : Option ℕ) → 0 < end
    → end ≤ length refs → x ≡ get_or refs (end - 1) x → is_of kind (view_reference x) ≡ true
    → end_of kind (map view_reference (take end refs)) ≡ all → Some end ≡ all
end_here refs kind end x all some inside is here e =
    let size : length (map view_reference (take (end - 1) refs)) ≡ end - 1 =
    length-map (take (end - 1) refs) view_reference ∙ length-take-le (end - 1) refs (omega arith) in
    let last : end ≡ suc (length (map view_reference (take (end - 1) refs))) = omega arith in
    ap Some last
    ∙ sym (ap (end_of kind) (one-more refs end x some inside is)
    ∙ end-push kind (map view_reference (take (end - 1) refs)) (view_reference x) true here) ∙ e

pub end_before : (refs : List StoredReference) (kind end : ℕ) (x : StoredReference) (all : Option ℕ) → 0 < end
    → end ≤ length refs → x ≡ get_or refs (end - 1) x → is_of kind (view_reference x) ≡ false
    → end_of kind (map view_reference (take end refs)) ≡ all
    → end_of kind (map view_reference (take (end - 1) refs)) ≡ all
end_before refs kind end x all some inside is other e =
    sym (ap (end_of kind) (one-more refs end x some inside is)
    ∙ end-push kind (map view_reference (take (end - 1) refs)) (view_reference x) false other) ∙ e

-- A reference that is put in, as the list of stored ones has it.

abbrev seen : List StoredReference → List Reference
seen refs = map view_reference refs

map-insert : {A B : Type 0} (f : A → B) (xs : List A) (i : ℕ) (y : A)
    → map f (insert xs i y) ≡ insert (map f xs) i (f y)
map-insert f [] zero y = refl
map-insert f [] (suc i) y = refl
map-insert f (x ∷ xs) zero y = refl
map-insert f (x ∷ xs) (suc i) y = ap (λ l. f x ∷ l) (map-insert f xs i y)

pub put_seen : (old new : List StoredReference) (n : ℕ) (x : StoredReference) → new ≡ insert old n x
    → seen new ≡ insert (seen old) n (view_reference x)
put_seen old new n x is = ap seen is ∙ map-insert view_reference old n x

pub put_seen_last : (old new : List StoredReference) (n : ℕ) (x : StoredReference) → n ≡ length old → new ≡ old ++ x ∷ []
    → seen new ≡ insert (seen old) n (view_reference x)
put_seen_last old new n x is pushed =
    put_seen old new n x (pushed ∙ sym (insert_end old x) ∙ ap (λ m. insert old m x) (sym is))

pub behind_added : (old new : List StoredReference) (end : ℕ) (x : StoredReference) → new ≡ insert old end x
    → end_of x.kind (seen old) ≡ Some end → seen new ≡ added (view_reference x) (seen old)
behind_added old new end x is found =
    ap seen is ∙ map-insert view_reference old end x ∙ sym (added-behind (view_reference x) (seen old) end found)

pub behind_ordered : (old new : List StoredReference) (end : ℕ) (x : StoredReference) → new ≡ insert old end x
    → end_of x.kind (seen old) ≡ Some end → (kinds : List ℕ) → IsOrdered kinds (seen old) → IsOrdered kinds (seen new)
behind_ordered old new end x is found kinds ordered =
    subst (IsOrdered kinds) (sym (behind_added old new end x is found))
    (ordered-among kinds (view_reference x) (seen old)
    (sym (end-among x.kind (seen old)) ∙ ap is_some found) ordered)

pub last_added : (old new : List StoredReference) (x : StoredReference) → new ≡ old ++ x ∷ []
    → end_of x.kind (seen old) ≡ None → seen new ≡ added (view_reference x) (seen old)
last_added old new x is none =
    ap seen is ∙ map_push view_reference old x ∙ sym (added-last (view_reference x) (seen old) none)

pub last_ordered : (old new : List StoredReference) (x : StoredReference) → new ≡ old ++ x ∷ []
    → end_of x.kind (seen old) ≡ None → (kinds left : List ℕ) → left ≡ kinds ++ x.kind ∷ []
    → IsOrdered kinds (seen old) → IsOrdered left (seen new)
last_ordered old new x is none kinds left pushed ordered =
    let all : IsOrdered (kinds ++ x.kind ∷ []) (seen new) =
    subst (IsOrdered (kinds ++ x.kind ∷ [])) (sym (last_added old new x is none))
    (ordered-new kinds (view_reference x) (seen old)
    (sym (end-among x.kind (seen old)) ∙ ap is_some none) ordered) in
    subst (λ (l : List ℕ). IsOrdered l (seen new)) (sym pushed) all

-- A reference that is taken out.

pub out_seen : (old new : List StoredReference) (i : ℕ) → new ≡ remove old i → seen new ≡ remove (seen old) i
out_seen old new i is = ap seen is ∙ map-remove view_reference old i

get-seen : (old : List StoredReference) (i : ℕ) (x : StoredReference) → i < length old → x ≡ get_or old i x
    → slice_get (seen old) i ≡ Some (view_reference x)
get-seen old i x inside is =
    slice_get-map view_reference old i
    ∙ ap (option_map view_reference) (slice_get-get_or old i x inside ∙ ap Some (sym is))

none-among : (kind : ℕ) (refs : List Reference) (o : Option ℕ) (t : Bool) → o ≡ end_of kind refs → is_none o ≡ t
    → is_among kind (kinds_of refs) ≡ not t
none-among kind refs o t is none =
    sym (end-among kind refs) ∙ ap is_some (sym is) ∙ cases o none
  where
    cases : (o : Option ℕ) → is_none o ≡ t → is_some o ≡ not t
    cases None e = ap not e
    cases (Some n) e = ap not e

pub out_gone : (old new : List StoredReference) (i : ℕ) (x : StoredReference) (o : Option ℕ) → i < length old
    → x ≡ get_or old i x → new ≡ remove old i → o ≡ end_of x.kind (seen new) → is_none o ≡ true
    → (kinds left : List ℕ) → left ≡ others x.kind kinds → IsOrdered kinds (seen old) → IsOrdered left (seen new)
out_gone old new i x o inside got is found none kinds left taken ordered =
    let same : seen new ≡ remove (seen old) i = out_seen old new i is in
    let all : IsOrdered (others x.kind kinds) (seen new) =
    subst (IsOrdered (others x.kind kinds)) (sym same)
    (ordered-gone kinds (seen old) i (view_reference x) (get-seen old i x inside got)
    (ap (λ l. is_among x.kind (kinds_of l)) (sym same) ∙ none-among x.kind (seen new) o true found none) ordered) in
    subst (λ (l : List ℕ). IsOrdered l (seen new)) (sym taken) all

pub out_left : (old new : List StoredReference) (i : ℕ) (x : StoredReference) (o : Option ℕ) → i < length old
    → x ≡ get_or old i x → new ≡ remove old i → o ≡ end_of x.kind (seen new) → is_none o ≡ false
    → (kinds : List ℕ) → IsOrdered kinds (seen old) → IsOrdered kinds (seen new)
out_left old new i x o inside got is found none kinds ordered =
    let same : seen new ≡ remove (seen old) i = out_seen old new i is in
    subst (IsOrdered kinds) (sym same)
    (ordered-left kinds (seen old) i (view_reference x) (get-seen old i x inside got)
    (ap (λ l. is_among x.kind (kinds_of l)) (sym same) ∙ none-among x.kind (seen new) o false found none) ordered)
