use Rattle.res_calls.proofs.Cited.{◌≡◌, ℕ, ◌-◌, ◌==◌, length, Bool, true, false, List, [], ◌∷◌, ◌++◌, refl, sym, ◌∙◌, ap, cond, Option}
use Rattle.res_calls.proofs.Cited.{subst, Some, None, flat_map-append, flat_map, option_or, Role, Split, split, replaced, Reference}
use Rattle.res_calls.proofs.Cited.{split_nth, is_of, of_type, split-whole, split-passes, split_nth-whole, OpenFile, Resources, Found, find}
use Rattle.res_calls.proofs.Cited.{found_in, found_behind, with_reference, Among, Current, EachFile, nth_in, nth_each, nth_among, role_in}
use Rattle.std.specs.Option.{option_map}
use Rattle.res_calls.proofs.Owning.Owners.{owner, owners_in, owners}
use Rattle.res_calls.proofs.Owning.Lists.{inner}

-- A reference in its place among the open files, and the owners before and behind it.

-- what was found stands in these files
pub record Stands (chain : List OpenFile) (at : Found) : Type 0 where
  pub file : replaced at.file.here at.file ≡ chain
  pub reference : replaced at.reference.here at.reference ≡ at.file.here.map.references

-- the files with another reference in its place, and with the same
pub same-there : (chain : List OpenFile) (at : Found) → Stands chain at
    → with_reference at.reference.here at ≡ chain
same-there chain at stands =
    ap (λ (refs : List Reference).
    replaced (record at.file.here { map = record at.file.here.map { references = refs } }) at.file) stands.reference
    ∙ stands.file

-- what a search finds
found-by : {T : Type 0} (P : T → Type 0) (one other : Option T) → ((at : T) → one ≡ Some at → P at)
    → ((at : T) → other ≡ Some at → P at) → (at : T) → option_or one other ≡ Some at → P at
found-by P None other first later at e = later at e
found-by P (Some x) other first later at e = first at e

mapped-by : {S T : Type 0} (P : T → Type 0) (f : S → T) (o : Option S) → ((x : S) → o ≡ Some x → P (f x))
    → (at : T) → option_map f o ≡ Some at → P at
mapped-by P f None each at e = cc
mapped-by P f (Some x) each at e = let same : f x ≡ at = cc in subst P same (each x refl)

-- it stands there, and passes
abbrev pub Finds : (Reference → Bool) → List OpenFile → Found → Type 0
Finds test chain at = Stands chain at × (test at.reference.here ≡ true)

find-first : (test : Reference → Bool) (f : OpenFile) (older : List OpenFile) (t : Bool) (at : Found)
    → cond t (option_map (found_in f older) (split test f.map.references)) None ≡ Some at → Finds test (f ∷ older) at
find-first test f older false at e = cc
find-first test f older true at e =
    mapped-by (Finds test (f ∷ older)) (found_in f older) (split test f.map.references)
    (λ x is. (
      record { file = refl; reference = split-whole test f.map.references x is },
      split-passes test f.map.references x is,
    )) at e

pub find-finds : (within : OpenFile → Bool) (test : Reference → Bool) (chain : List OpenFile) (at : Found)
    → find within test chain ≡ Some at → Finds test chain at
find-finds within test [] at e = cc
find-finds within test (f ∷ older) at e =
    found-by (Finds test (f ∷ older)) _ (option_map (found_behind f) (find within test older))
    (find-first test f older (within f))
    (mapped-by (Finds test (f ∷ older)) (found_behind f) (find within test older)
    (λ x is. let inner = find-finds within test older x is in (
      record { file = ap (λ l. f ∷ l) inner.0.file; reference = inner.0.reference },
      inner.1,
    ))) at e

pub nth-stands : (kind n : ℕ) (test : OpenFile → Bool) (chain : List OpenFile) (at : Found)
    → nth_in kind n (split test chain) ≡ Some at → Stands chain at
nth-stands kind n test chain at e = by_file (split test chain) (split-whole test chain) at e
  where
    by_file : (o : Option (Split OpenFile)) → ((f : Split OpenFile) → o ≡ Some f → replaced f.here f ≡ chain)
        → (at : Found) → nth_in kind n o ≡ Some at → Stands chain at
    by_file None whole at e = cc
    by_file (Some f) whole at e =
        mapped-by (Stands chain) _ (split_nth n (is_of kind) f.here.map.references)
        (λ x is. record {
          file = whole f refl;
          reference = split_nth-whole n (is_of kind) f.here.map.references x is;
        }) at e

each-stands : (kind n : ℕ) (chain : List OpenFile) (at : Found) → nth_each kind n chain ≡ Some at → Stands chain at
each-stands kind n [] at e = cc
each-stands kind n (f ∷ older) at e =
    let left : ℕ = n - length (of_type kind f.map.references) in
    found-by (Stands (f ∷ older)) (option_map (found_in f older) (split_nth n (is_of kind) f.map.references))
    (option_map (found_behind f) (nth_each kind left older))
    (mapped-by (Stands (f ∷ older)) (found_in f older) (split_nth n (is_of kind) f.map.references)
    (λ x is. record { file = refl; reference = split_nth-whole n (is_of kind) f.map.references x is }))
    (mapped-by (Stands (f ∷ older)) (found_behind f) (nth_each kind left older)
    (λ x is. let inner = each-stands kind left older x is in
    record { file = ap (λ l. f ∷ l) inner.file; reference = inner.reference })) at e

pub among-stands : (among : Among) (kind n : ℕ) (r : Resources) (at : Found) → nth_among among kind n r ≡ Some at
    → Stands r.chain at
among-stands Current kind n r at e = nth-stands kind n (λ f. f.number == r.current) r.chain at e
among-stands EachFile kind n r at e = each-stands kind n r.chain at e

-- the owners of a handle before the place, and behind it
abbrev pub front : ℕ → Found → List Role
front h at = owners h at.file.before ++ flat_map (owner h (role_in at.file.here)) at.reference.before

abbrev pub back : ℕ → Found → List Role
back h at = flat_map (owner h (role_in at.file.here)) at.reference.after ++ owners h at.file.after

pub owners-at : (h : ℕ) (at : Found) (x : Reference)
    → owners h (with_reference x at) ≡ front h at ++ (owner h (role_in at.file.here) x ++ back h at)
owners-at h at x =
    let own : Reference → List Role = owner h (role_in at.file.here) in
    flat_map-append (owners_in h) at.file.before _
    ∙ ap (λ (l : List Role). owners h at.file.before ++ (l ++ owners h at.file.after))
    (flat_map-append own at.reference.before (x ∷ at.reference.after))
    ∙ inner (owners h at.file.before) (flat_map own at.reference.before) (own x) (flat_map own at.reference.after)
    (owners h at.file.after)

pub owners-stand : (h : ℕ) (chain : List OpenFile) (at : Found) → Stands chain at
    → owners h chain ≡ front h at ++ (owner h (role_in at.file.here) at.reference.here ++ back h at)
owners-stand h chain at stands = ap (owners h) (sym (same-there chain at stands)) ∙ owners-at h at at.reference.here
