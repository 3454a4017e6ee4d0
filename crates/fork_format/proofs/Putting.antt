use Rattle.fork_format.proofs.Cited.{◌≡◌, ℕ, ◌+◌, ◌*◌, ◌%◌, ◌≤◌, Bool, true, false, cond, Some, None, List, [], ◌∷◌, ◌++◌, length, refl}
use Rattle.fork_format.proofs.Cited.{◌∙◌, ap, append_assoc, arith, length-append, ◌<◌, get_or, map, drop, sym, length-map, view_ref}
use Rattle.fork_format.proofs.Cited.{view_group, IsSome, is_some, nat_le, leb-true, big_bytes, Ref, Group, refs_of, lists, types}
use Rattle.fork_format.proofs.Cited.{references, names_of, refs_offset, is_low, next, behind, refs_end, Starts}
use Rattle.fork_format.specs.declared.content.Group.{Group as StoredGroup}
use Rattle.fork_format.proofs.Rest.{rest-map}
use Rattle.fork_format.proofs.Groups.{length-references}
use Rattle.fork_format.proofs.Whole.{length-types}

-- what is written in two steps
pub put-two : (out one two a b : List ℕ) → one ≡ out ++ a → two ≡ one ++ b → two ≡ out ++ (a ++ b)
put-two out one two a b p q = q ∙ ap (λ l. l ++ b) p ∙ append_assoc out a b

-- a step of what is written, and what is still to come
pub put-next : (out out' a rest all : List ℕ) → out' ≡ out ++ a → out ++ (a ++ rest) ≡ all → out' ++ rest ≡ all
put-next out out' a rest all p q = ap (λ l. l ++ rest) p ∙ append_assoc out a rest ∙ q

-- a first group whose references end in time
pub refs_end-first : (at : ℕ) (g : Group) (groups : List Group) → IsSome (refs_end at (g ∷ groups))
    → (1 ≤ length g.refs) × IsSome (refs_end (at + 12 * length g.refs) groups)
refs_end-first at g groups h = cases (nat_le 1 (length g.refs)) refl h
  where
    cases : (t : Bool) → nat_le 1 (length g.refs) ≡ t → IsSome
        (cond t (refs_end (at + 12 * length g.refs) groups) None)
        → (1 ≤ length g.refs) × IsSome (refs_end (at + 12 * length g.refs) groups)
    cases true first h = (leb-true 1 (length g.refs) first, h)
    cases false first h = cc

-- references that end in time begin so
pub refs_end-low : (at : ℕ) (groups : List Group) → IsSome (refs_end at groups) → at ≤ 65507
refs_end-low at [] h = cases (nat_le at 65507) refl h
  where
    cases : (t : Bool) → nat_le at 65507 ≡ t → IsSome (cond t (Some at) None) → at ≤ 65507
    cases true low h = leb-true at 65507 low
    cases false low h = cc
refs_end-low at (g ∷ groups) h =
    let both : (1 ≤ length g.refs) × IsSome (refs_end (at + 12 * length g.refs) groups) =
    refs_end-first at g groups h in
    let low : at + 12 * length g.refs ≤ 65507 = refs_end-low (at + 12 * length g.refs) groups both.1 in
    omega arith

-- a first resource whose parts may begin where they do
pub behind-first : (s : Starts) (r : Ref) (refs : List Ref) → IsSome (behind s (r ∷ refs)) → is_low s r ≡ true
behind-first s r refs h = cases (is_low s r) h
  where
    cases : (t : Bool) → IsSome (cond t (behind (next s r) refs) None) → t ≡ true
    cases true h = refl
    cases false h = cc

pub length-lists : (groups : List Group) → length (lists groups)
    ≡ refs_offset groups + 12 * length (refs_of groups) + length (names_of groups)
length-lists groups =
    let count : List ℕ = big_bytes 2 ((length groups + 65535) % 65536) in
    let ts : List ℕ = types (refs_offset groups) groups in
    let es : List ℕ = references 0 0 (refs_of groups) in
    let nt : length ts ≡ 8 * length groups = length-types (refs_offset groups) groups in
    let ne : length es ≡ 12 * length (refs_of groups) = length-references 0 0 (refs_of groups) in
    length-append (count ++ ts ++ es) (names_of groups)
    ∙ ap (λ n. n + length (names_of groups)) (length-append (count ++ ts) es) ∙ omega arith

-- what the first of the types that are left keeps to
pub type-first : (groups : List StoredGroup) (i at n : ℕ) (g : StoredGroup) → i < length groups
    → g ≡ get_or groups i g → n ≡ g.refs.len → IsSome (refs_end at (map view_group (drop i groups)))
    → (1 ≤ n) × (at + 12 * n ≤ 65507)
type-first groups i at n g inside is size h =
    let rest : List Group = map view_group (drop (i + 1) groups) in
    let some : IsSome (refs_end at (view_group g ∷ rest)) =
    ap (λ l. is_some (refs_end at l)) (sym (rest-map view_group groups i g inside is)) ∙ h in
    let both : (1 ≤ length (view_group g).refs) × IsSome (refs_end (at + 12 * length (view_group g).refs) rest) =
    refs_end-first at (view_group g) rest some in
    let low : at + 12 * length (view_group g).refs ≤ 65507 =
    refs_end-low (at + 12 * length (view_group g).refs) rest both.1 in
    let same : length (map view_ref g.refs.items) ≡ n = length-map g.refs.items view_ref ∙ sym g.refs.ok.0 ∙ sym size in
    (omega arith, omega arith)

-- a first resource moves the starts on
pub behind-next : (s : Starts) (r : Ref) (refs : List Ref) → is_low s r ≡ true
    → behind s (r ∷ refs) ≡ behind (next s r) refs
behind-next s r refs h = rw h refl
