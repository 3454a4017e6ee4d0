use Rattle.fork_commands.proofs.Cited.{◌≡◌, ℕ, Bool, true, false, cond, List, [], ◌∷◌, map, Ok, Err, refl, ap, subst, arith, ◌==◌, not}
use Rattle.fork_commands.proofs.Cited.{filter, list_all, AllByRecursion, and_parts, Ref, Group, Content, IsRef, IsGroup, IsContent}
use Rattle.fork_commands.proofs.Cited.{RES_NOT_FOUND, Code, are_distinct, clear, clear_ref, clear_group, has_refs, and_both, spelled_clear}
use Rattle.fork_commands.proofs.Cited.{spelled_types, spelled_references, spelled_content, AreBytes, HasBytes, IsOfBytes, Selection, All}
use Rattle.fork_commands.proofs.Cited.{OfType, One, content_of_fork, is_selected, selected_group, selected_groups, alone, selected, byte-at}
use Rattle.std.specs.Prelude.{replicate}
use Rattle.fork_commands.proofs.OfBytes.{of_bytes, spelled_by, zeros}

-- What is selected of a content that was read is as good as the content: it can be printed and read again.

-- what holds of each content that was read of bytes
pub record IsRead (c : Content) : Type 0 where
  pub limits : IsContent c
  pub bytes : IsOfBytes c
  pub references : list_all has_refs c.groups ≡ true
  pub distinct : are_distinct (map (λ (g : Group). g.kind) c.groups) ≡ true
  pub cleared : clear c ≡ c

pub is_read : (fork : List ℕ) (c : Content) → AreBytes fork → content_of_fork fork ≡ Ok c → IsRead c
is_read fork c are has =
    let spells = spelled_by fork c has in
    record {
      limits = subst IsContent spells.content (spelled_content fork (λ k. byte-at fork k are));
      bytes = subst IsOfBytes spells.content (of_bytes fork are);
      references = spelled_references fork c spells;
      distinct = spelled_types fork c spells;
      cleared = spelled_clear fork c spells;
    }

-- what holds of each item holds of each that passes a test
kept : {A : Type 0} (P : A → Type 0) (test : A → Bool) (xs : List A) → AllByRecursion P xs → AllByRecursion P (filter test xs)
kept P test [] all = tt
kept P test (x ∷ xs) all = cases (test x) (kept P test xs all.1)
  where
    cases : (t : Bool) → AllByRecursion P (filter test xs) → AllByRecursion P (cond t (x ∷ filter test xs) (filter test xs))
    cases true rest = (all.0, rest)
    cases false rest = rest

-- what holds of each group holds of those that are selected, if it does of a group once some of its resources are left out
of_selected : (P : Group → Type 0) (s : Selection) (groups : List Group) → ((g : Group) → P g → P (selected_group s g))
    → AllByRecursion P groups → AllByRecursion P (selected_groups s groups)
of_selected P s groups step all = kept P has_refs (map (selected_group s) groups) (each groups all)
  where
    each : (gs : List Group) → AllByRecursion P gs → AllByRecursion P (map (selected_group s) gs)
    each [] all = tt
    each (g ∷ gs) all = (step g all.0, each gs all.1)

within_limits : (s : Selection) (g : Group) → IsGroup g → IsGroup (selected_group s g)
within_limits s g is = record { kind = is.kind; refs = kept IsRef (is_selected s g.kind) g.refs is.refs }

-- groups with references
with_references : (groups : List Group) → list_all has_refs (filter has_refs groups) ≡ true
with_references [] = refl
with_references (g ∷ groups) = cases (has_refs g) refl (with_references groups)
  where
    cases : (t : Bool) → has_refs g ≡ t → list_all has_refs (filter has_refs groups) ≡ true
        → list_all has_refs (cond t (g ∷ filter has_refs groups) (filter has_refs groups)) ≡ true
    cases true e rest = and_both (has_refs g) _ e rest
    cases false e rest = rest

-- the types of groups
abbrev kinds : List Group → List ℕ
kinds groups = map (λ (g : Group). g.kind) groups

none_selected : (p : ℕ → Bool) (s : Selection) (groups : List Group) → list_all p (kinds groups) ≡ true
    → list_all p (kinds (selected_groups s groups)) ≡ true
none_selected p s [] all = refl
none_selected p s (g ∷ groups) all =
    let parts : (p g.kind ≡ true) × (list_all p (kinds groups) ≡ true) = and_parts (p g.kind) (list_all p (kinds groups)) all in
    cases (has_refs (selected_group s g)) parts.0 (none_selected p s groups parts.1)
  where
    cases : (t : Bool) → p g.kind ≡ true → list_all p (kinds (selected_groups s groups)) ≡ true
        → list_all p (kinds (cond t (selected_group s g ∷ selected_groups s groups) (selected_groups s groups))) ≡ true
    cases true one rest = and_both (p g.kind) _ one rest
    cases false one rest = rest

stay_distinct : (s : Selection) (groups : List Group) → are_distinct (kinds groups) ≡ true
    → are_distinct (kinds (selected_groups s groups)) ≡ true
stay_distinct s [] apart = refl
stay_distinct s (g ∷ groups) apart =
    let parts : (list_all (λ m. not (m == g.kind)) (kinds groups) ≡ true) × (are_distinct (kinds groups) ≡ true) =
    and_parts (list_all (λ m. not (m == g.kind)) (kinds groups)) (are_distinct (kinds groups)) apart in
    cases (has_refs (selected_group s g)) (none_selected (λ m. not (m == g.kind)) s groups parts.0) (stay_distinct s groups parts.1)
  where
    cases : (t : Bool) → list_all (λ m. not (m == g.kind)) (kinds (selected_groups s groups)) ≡ true
        → are_distinct (kinds (selected_groups s groups)) ≡ true
        → are_distinct (kinds (cond t (selected_group s g ∷ selected_groups s groups) (selected_groups s groups))) ≡ true
    cases true one rest = and_both (list_all (λ m. not (m == g.kind)) (kinds (selected_groups s groups))) _ one rest
    cases false one rest = rest

-- a list that a function leaves as it is, item by item
abbrev Fixed : {A : Type 0} → (A → A) → A → Type 0
Fixed f x = f x ≡ x

fixed_all : {A : Type 0} (f : A → A) (xs : List A) → map f xs ≡ xs → AllByRecursion (Fixed f) xs
fixed_all f [] same = tt
fixed_all f (x ∷ xs) same =
    let both : f x ∷ map f xs ≡ x ∷ xs = same in
    let head : f x ≡ x = cc in
    let rest : map f xs ≡ xs = cc in
    (head, fixed_all f xs rest)

all_fixed : {A : Type 0} (f : A → A) (xs : List A) → AllByRecursion (Fixed f) xs → map f xs ≡ xs
all_fixed f [] all = refl
all_fixed f (x ∷ xs) all = rw (all.0, all_fixed f xs all.1) refl

stays_clear : (s : Selection) (g : Group) → clear_group g ≡ g → clear_group (selected_group s g) ≡ selected_group s g
stays_clear s g same =
    let refs : map clear_ref g.refs ≡ g.refs = ap (λ (x : Group). x.refs) same in
    let less : map clear_ref (filter (is_selected s g.kind) g.refs) ≡ filter (is_selected s g.kind) g.refs =
    all_fixed clear_ref _ (kept (Fixed clear_ref) (is_selected s g.kind) g.refs (fixed_all clear_ref g.refs refs)) in
    ap (λ (rs : List Ref). record g { refs = rs }) less

-- some resources alone
pub some_read : (s : Selection) (c d : Content) → IsRead c → alone (selected_groups s c.groups) ≡ Ok d → IsRead d
some_read s c d is has = cases (selected_groups s c.groups) refl has
  where
    cleared_groups : map clear_group (selected_groups s c.groups) ≡ selected_groups s c.groups
    cleared_groups = all_fixed clear_group _ (of_selected (Fixed clear_group) s c.groups (stays_clear s)
        (fixed_all clear_group c.groups (ap (λ (x : Content). x.groups) is.cleared)))

    all_of : (groups : List Group) → selected_groups s c.groups ≡ groups
        → IsRead (record { area = replicate 240 0; attrs = 0; groups = groups })
    all_of groups e = record {
      limits = record {
        area = refl;
        attrs = omega arith;
        groups = subst (AllByRecursion IsGroup) e (of_selected IsGroup s c.groups (within_limits s) is.limits.groups);
      };
      bytes = record {
        area = zeros 240;
        refs = subst (AllByRecursion (λ (g : Group). AllByRecursion HasBytes g.refs)) e
            (of_selected (λ (g : Group). AllByRecursion HasBytes g.refs) s c.groups
            (λ g all. kept HasBytes (is_selected s g.kind) g.refs all) is.bytes.refs);
      };
      references = subst (λ gs. list_all has_refs gs ≡ true) e (with_references (map (selected_group s) c.groups));
      distinct = subst (λ gs. are_distinct (kinds gs) ≡ true) e (stay_distinct s c.groups is.distinct);
      cleared = subst (λ gs. clear (record { area = replicate 240 0; attrs = 0; groups = gs })
          ≡ record { area = replicate 240 0; attrs = 0; groups = gs }) e
          (ap (λ (gs : List Group). record { area = replicate 240 0; attrs = 0; groups = gs }) cleared_groups);
    }

    cases : (groups : List Group) → selected_groups s c.groups ≡ groups → alone groups ≡ Ok d → IsRead d
    cases [] e has = absurd (let no : Err (Code RES_NOT_FOUND) ≡ Ok d = has in cc)
    cases (g ∷ groups) e has =
        let same : record { area = replicate 240 0; attrs = 0; groups = g ∷ groups } ≡ d = cc in subst IsRead same (all_of (g ∷ groups) e)

pub selected_read : (s : Selection) (c d : Content) → IsRead c → selected s c ≡ Ok d → IsRead d
selected_read All c d is has = let same : c ≡ d = cc in subst IsRead same is
selected_read (OfType ty) c d is has = some_read (OfType ty) c d is has
selected_read (One key) c d is has = some_read (One key) c d is has
