use Rattle.res_map.proofs.Cited.{◌≡◌, ℕ, ◌+◌, ◌<◌, Bool, true, false, not, cond, ◌||◌, List, [], ◌∷◌, ◌++◌, length, map, take, drop, Option}
use Rattle.res_map.proofs.Cited.{None, refl, sym, ◌∙◌, ap, subst, arith, suc, get_or, ◌⊎◌, inl, inr, Vec, append_assoc, ◌==◌, filter}
use Rattle.res_map.proofs.Cited.{Global, and_parts, eqb_tells, take-map, drop-map, map-append, map_push, Group, view_group, same_self}
use Rattle.res_map.proofs.Cited.{not_same, rest-map, filter-all, distinct-all, Reference, is_of, of_type, types, stand_together}
use Rattle.res_map.proofs.Cited.{read_reference, with_handle, of_group, of_groups, group_of, all_anew, leading_count, stored_group}
use Rattle.res_map.proofs.Cited.{leading_groups, view_reference, view_all, StoredReference}
use Rattle.std.proofs.Common.{◌≢◌}
use Rattle.fork_format.specs.declared.content.Group.{Group as StoredGroup}
use Rattle.res_map.proofs.Anew.{kinds-anew, take-anew, drop-anew}
use Rattle.res_map.proofs.Order.{kinds_of}
use Rattle.res_map.proofs.TypeLists.{is_apart}

-- References of one type that stand one after the other.

-- a count of them: the first one of another type ends it
pub run_ends : (kind : ℕ) (refs : List StoredReference) (i : ℕ) (x : StoredReference) (all : ℕ) → i < length refs
    → x ≡ get_or refs i x → (x.kind == kind) ≡ false
    → i + leading_count kind (map view_reference (drop i refs)) ≡ all → i ≡ all
run_ends kind refs i x all inside is other e =
    let none : leading_count kind (map view_reference (drop i refs)) ≡ 0 =
    ap (leading_count kind) (rest-map view_reference refs i x inside is)
    ∙ ap (λ t. cond t (suc (leading_count kind (map view_reference (drop (i + 1) refs)))) 0) other in
    omega arith

pub run_on : (kind : ℕ) (refs : List StoredReference) (i : ℕ) (x : StoredReference) (all : ℕ) → i < length refs
    → x ≡ get_or refs i x → (x.kind == kind) ≡ true
    → i + leading_count kind (map view_reference (drop i refs)) ≡ all
    → i + 1 + leading_count kind (map view_reference (drop (i + 1) refs)) ≡ all
run_on kind refs i x all inside is same e =
    let rest : ℕ = leading_count kind (map view_reference (drop (i + 1) refs)) in
    let more : leading_count kind (map view_reference (drop i refs)) ≡ suc rest =
    ap (leading_count kind) (rest-map view_reference refs i x inside is)
    ∙ ap (λ t. cond t (suc rest) 0) same in
    omega arith

-- they are counted by their types
run-kinds : (kind : ℕ) (references others : List Reference) → kinds_of references ≡ kinds_of others
    → leading_count kind references ≡ leading_count kind others
run-kinds kind [] [] e = refl
run-kinds kind [] (o ∷ others) e = cc
run-kinds kind (r ∷ references) [] e = cc
run-kinds kind (r ∷ references) (o ∷ others) e =
    let first : r.kind ≡ o.kind = cc in
    let rest : kinds_of references ≡ kinds_of others = cc in
    ap (λ k. cond (k == kind) (suc (leading_count kind references)) 0) first
    ∙ ap (λ n. cond (is_of kind o) (suc n) 0) (run-kinds kind references others rest)

-- the group of a run, and those of the references behind it
pub runs_next : (kind : ℕ) (kinds : List ℕ) (given : List (Option (Vec ℕ Global))) (refs : List StoredReference) (n : ℕ)
    → n ≡ leading_count kind (map view_reference refs)
    → leading_groups (kind ∷ kinds) (all_anew (view_all given) (map view_reference refs))
    ≡ stored_group kind (all_anew (view_all (take n given)) (map view_reference (take n refs)))
    ∷ leading_groups kinds (all_anew (view_all (drop n given)) (map view_reference (drop n refs)))
runs_next kind kinds given refs n is =
    let all : List Reference = all_anew (view_all given) (map view_reference refs) in
    let size : leading_count kind all ≡ n =
    run-kinds kind all (map view_reference refs) (kinds-anew (view_all given) (map view_reference refs)) ∙ sym is in
    let front : take n all ≡ all_anew (view_all (take n given)) (map view_reference (take n refs)) =
    take-anew n (view_all given) (map view_reference refs) ∙ two (take-map _ n given) (take-map _ n refs) in
    let back : drop n all ≡ all_anew (view_all (drop n given)) (map view_reference (drop n refs)) =
    drop-anew n (view_all given) (map view_reference refs) ∙ two (drop-map _ n given) (drop-map _ n refs) in
    ap (λ m. stored_group kind (take m all) ∷ leading_groups kinds (drop m all)) size
    ∙ ap (λ l. stored_group kind l ∷ leading_groups kinds (drop n all)) front
    ∙ ap (λ l. stored_group kind (all_anew (view_all (take n given)) (map view_reference (take n refs))) ∷
    leading_groups kinds l)
    back
  where
    two : {gs hs : List (Option (List ℕ))} {rs ss : List Reference} → gs ≡ hs → rs ≡ ss
        → all_anew gs rs ≡ all_anew hs ss
    two {gs = gs} {ss = ss} p q = ap (λ l. all_anew gs l) q ∙ ap (λ l. all_anew l ss) p

-- References with those in front that are of the first one's type, and those behind that are of other types.

record IsCut (kind : ℕ) (front back references : List Reference) : Type 0 where
  front_is : take (leading_count kind references) references ≡ front
  back_is : drop (leading_count kind references) references ≡ back
  whole : front ++ back ≡ references
  own : of_type kind references ≡ front
  others : (m : ℕ) → (kind == m) ≡ false → of_type m references ≡ of_type m back
  types_are : types references ≡ kind ∷ types back
  apart_are : is_apart kind (types back) ≡ true
  together : stand_together (kinds_of back) ≡ true
  reads : map (read_reference kind) (map (λ (r : Reference). r.stored) front) ≡ map (with_handle None) front

-- there is none of a type among others
pub none-of : (kind : ℕ) (references : List Reference) → is_apart kind (kinds_of references) ≡ true
    → (of_type kind references ≡ []) × (leading_count kind references ≡ 0)
none-of kind [] h = (refl, refl)
none-of kind (r ∷ references) h =
    let both : (not (r.kind == kind) ≡ true) × (is_apart kind (kinds_of references) ≡ true) =
    and_parts (not (r.kind == kind)) (is_apart kind (kinds_of references)) h in
    cases (r.kind == kind) both.0 (none-of kind references both.1).0
  where
    cases : (t : Bool) → not t ≡ true → of_type kind references ≡ []
        → (cond t (r ∷ of_type kind references) (of_type kind references) ≡ [])
        × (cond t (suc (leading_count kind references)) 0 ≡ 0)
    cases true other rest = absurd (let no : false ≡ true = other in cc)
    cases false other rest = (rest, refl)

-- the first reference alone, before others
cut_first : (r : Reference) (references : List Reference) → is_apart r.kind (kinds_of references) ≡ true
    → stand_together (kinds_of references) ≡ true → IsCut r.kind (r ∷ []) references (r ∷ references)
cut_first r references other together =
    let none : (of_type r.kind references ≡ []) × (leading_count r.kind references ≡ 0) = none-of r.kind references
    other in
    let counted : leading_count r.kind (r ∷ references) ≡ 1 =
    ap (λ t. cond t (suc (leading_count r.kind references)) 0) (same_self r.kind) ∙ ap suc none.1 in
    let are : is_apart r.kind (types references) ≡ true =
    distinct-all (λ m. not (m == r.kind)) (kinds_of references) other in
    record {
      front_is = ap (λ n. take n (r ∷ references)) counted;
      back_is = ap (λ n. drop n (r ∷ references)) counted;
      whole = refl;
      own = ap (λ t. cond t (r ∷ of_type r.kind references) (of_type r.kind references)) (same_self r.kind)
          ∙ ap (λ l. r ∷ l) none.0;
      others = λ m no. ap (λ t. cond t (r ∷ of_type m references) (of_type m references)) no;
      types_are = ap (λ l. r.kind ∷ l) (filter-all (λ m. not (m == r.kind)) (types references) are);
      apart_are = are;
      together = together;
      reads = refl;
    }

-- one more of the type of those in front
cut_more : (r : Reference) (front back references : List Reference) → IsCut r.kind front back references
    → IsCut r.kind (r ∷ front) back (r ∷ references)
cut_more r front back references cut =
    let counted : leading_count r.kind (r ∷ references) ≡ suc (leading_count r.kind references) =
    ap (λ t. cond t (suc (leading_count r.kind references)) 0) (same_self r.kind) in
    record {
      front_is = ap (λ n. take n (r ∷ references)) counted ∙ ap (λ l. r ∷ l) cut.front_is;
      back_is = ap (λ n. drop n (r ∷ references)) counted ∙ cut.back_is;
      whole = ap (λ l. r ∷ l) cut.whole;
      own = ap (λ t. cond t (r ∷ of_type r.kind references) (of_type r.kind references)) (same_self r.kind)
          ∙ ap (λ l. r ∷ l) cut.own;
      others = λ m no. ap (λ t. cond t (r ∷ of_type m references) (of_type m references)) no ∙ cut.others m no;
      types_are = ap (λ l. r.kind ∷ filter (λ m. not (m == r.kind)) l) cut.types_are
          ∙ ap (λ t. r.kind ∷ cond (not t) (r.kind ∷ filter (λ m. not (m == r.kind)) (types back))
          (filter (λ m. not (m == r.kind)) (types back))) (same_self r.kind)
          ∙ ap (λ l. r.kind ∷ l) (filter-all (λ m. not (m == r.kind)) (types back) cut.apart_are);
      apart_are = cut.apart_are;
      together = cut.together;
      reads = ap (λ l. with_handle None r ∷ l) cut.reads;
    }

record Cut (kind : ℕ) (references : List Reference) : Type 0 where
  front : List Reference
  back : List Reference
  is : IsCut kind front back references

cut : (r : Reference) (references : List Reference) → stand_together (kinds_of (r ∷ references)) ≡ true
    → Cut r.kind (r ∷ references)
cut r [] h = record { front = r ∷ []; back = []; is = cut_first r [] refl refl }
cut r (s ∷ references) h =
    let both : (((s.kind == r.kind) || is_apart r.kind (kinds_of (s ∷ references))) ≡ true)
    × (stand_together (kinds_of (s ∷ references)) ≡ true) =
    and_parts ((s.kind == r.kind) || is_apart r.kind (kinds_of (s ∷ references)))
    (stand_together (kinds_of (s ∷ references))) h in
    cases (eqb_tells s.kind r.kind) both.0 (cut s references both.1) both.1
  where
    cases : (((s.kind == r.kind) ≡ true) × (s.kind ≡ r.kind)) ⊎ (((s.kind == r.kind) ≡ false) × (s.kind ≢ r.kind))
        → ((s.kind == r.kind) || is_apart r.kind (kinds_of (s ∷ references))) ≡ true → Cut s.kind (s ∷ references)
        → stand_together (kinds_of (s ∷ references)) ≡ true → Cut r.kind (r ∷ s ∷ references)
    cases (inl same) starts c t = record {
      front = r ∷ c.front;
      back = c.back;
      is = cut_more r c.front c.back (s ∷ references)
          (subst (λ k. IsCut k c.front c.back (s ∷ references)) same.1 c.is);
    }
    cases (inr other) starts c t = record {
      front = r ∷ [];
      back = s ∷ references;
      is = cut_first r (s ∷ references)
          (ap (λ u. u || is_apart r.kind (kinds_of (s ∷ references))) (sym other.0) ∙ starts) t;
    }

-- the same where the types are known
record FirstCut (kind : ℕ) (kinds : List ℕ) (references : List Reference) : Type 0 where
  front : List Reference
  back : List Reference
  is : IsCut kind front back references
  rest : kinds ≡ types back

first_cut : (kind : ℕ) (kinds : List ℕ) (references : List Reference) → kind ∷ kinds ≡ types references
    → stand_together (kinds_of references) ≡ true → FirstCut kind kinds references
first_cut kind kinds [] are together = absurd (let no : kind ∷ kinds ≡ [] = are in cc)
first_cut kind kinds (r ∷ references) are together =
    let c : Cut r.kind (r ∷ references) = cut r references together in
    let same : kind ∷ kinds ≡ r.kind ∷ types c.back = are ∙ c.is.types_are in
    let first : kind ≡ r.kind = cc in
    let rest : kinds ≡ types c.back = cc in
    record {
      front = c.front;
      back = c.back;
      is = subst (λ k. IsCut k c.front c.back (r ∷ references)) (sym first) c.is;
      rest = rest;
    }

-- the groups of other types are those of the references behind
groups_behind : (kind : ℕ) (front back references : List Reference) → IsCut kind front back references
    → (kinds : List ℕ) → is_apart kind kinds ≡ true → map (group_of references) kinds ≡ map (group_of back) kinds
groups_behind kind front back references c [] are = refl
groups_behind kind front back references c (m ∷ kinds) are =
    let both : (not (m == kind) ≡ true) × (is_apart kind kinds ≡ true) =
    and_parts (not (m == kind)) (is_apart kind kinds) are in
    ap (λ l. stored_group m l ∷ map (group_of references) kinds) (c.others m (not_same m kind both.0))
    ∙ ap (λ l. group_of back m ∷ l) (groups_behind kind front back references c kinds both.1)

-- the groups of all types are those of the runs
pub runs_are : (kinds : List ℕ) (references : List Reference) → kinds ≡ types references
    → stand_together (kinds_of references) ≡ true → leading_groups kinds references ≡ map (group_of references) kinds
runs_are [] references are together = refl
runs_are (kind ∷ kinds) references are together =
    let c : FirstCut kind kinds references = first_cut kind kinds references are together in
    ap (λ l. stored_group kind l ∷ leading_groups kinds (drop (leading_count kind references) references))
    (c.is.front_is ∙ sym c.is.own)
    ∙ ap (λ l. group_of references kind ∷ l) (ap (leading_groups kinds) c.is.back_is ∙ runs_are kinds c.back c.rest
    c.is.together
    ∙ sym (groups_behind kind c.front c.back references c.is kinds
    (ap (is_apart kind) c.rest ∙ c.is.apart_are)))

-- they are read as the references without handles
pub runs-read : (kinds : List ℕ) (references : List Reference) → kinds ≡ types references
    → stand_together (kinds_of references) ≡ true
    → of_groups (leading_groups kinds references) ≡ map (with_handle None) references
runs-read [] [] are together = refl
runs-read [] (r ∷ references) are together = absurd (let no : [] ≡ types (r ∷ references) = are in cc)
runs-read (kind ∷ kinds) references are together =
    let c : FirstCut kind kinds references = first_cut kind kinds references are together in
    ap (λ l. of_group (stored_group kind l) ++ of_groups
    (leading_groups kinds (drop (leading_count kind references) references)))
    c.is.front_is
    ∙ ap (λ l. l ++ of_groups (leading_groups kinds (drop (leading_count kind references) references))) c.is.reads
    ∙ ap (λ l. map (with_handle None) c.front ++ l) (ap (λ l. of_groups (leading_groups kinds l)) c.is.back_is
    ∙ runs-read kinds c.back c.rest c.is.together)
    ∙ sym (map-append (with_handle None) c.front c.back) ∙ ap (map (with_handle None)) c.is.whole

-- a group is put behind those of the runs before
pub groups_on : (front front' : List StoredGroup) (g : StoredGroup) (kinds : List ℕ) (j kind n : ℕ)
    (given own_given more_given : List (Option (Vec ℕ Global))) (refs own more : List StoredReference)
    (all : List Group)
    → drop j kinds ≡ kind ∷ drop (j + 1) kinds → n ≡ leading_count kind (map view_reference refs)
    → own_given ≡ take n given → more_given ≡ drop n given → own ≡ take n refs → more ≡ drop n refs
    → view_group g ≡ stored_group kind (all_anew (view_all own_given) (map view_reference own))
    → front' ≡ front ++ g ∷ []
    → map view_group front ++ leading_groups (drop j kinds) (all_anew (view_all given) (map view_reference refs)) ≡ all
    → map view_group front' ++ leading_groups (drop (j + 1) kinds)
    (all_anew (view_all more_given) (map view_reference more))
    ≡ all
groups_on front front' g kinds j kind n given own_given more_given refs own more all next size p q r s is pushed e =
    let rest : List Group =
    leading_groups (drop (j + 1) kinds) (all_anew (view_all (drop n given)) (map view_reference (drop n refs))) in
    let group : view_group g
    ≡ stored_group kind (all_anew (view_all (take n given)) (map view_reference (take n refs))) =
    is ∙ ap (λ l. stored_group kind (all_anew (view_all l) (map view_reference own))) p
    ∙ ap (λ l. stored_group kind (all_anew (view_all (take n given)) (map view_reference l))) r in
    rw (q, s, pushed) (ap (λ l. l ++ rest) (map_push view_group front g)
    ∙ append_assoc (map view_group front) (view_group g ∷ []) rest
    ∙ ap (λ x. map view_group front ++ x ∷ rest) group
    ∙ ap (λ l. map view_group front ++ l)
    (sym (ap (λ l. leading_groups l (all_anew (view_all given) (map view_reference refs))) next
    ∙ runs_next kind (drop (j + 1) kinds) given refs n size)) ∙ e)
