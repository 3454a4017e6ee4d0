use Rattle.fork_format.proofs.Cited.{◌≡◌, ◌<◌, ◌≤◌, ◌^◌, List, [], ◌∷◌, length, Option, Some, None, subst, sym, IfSome, Ref, Group, IsRef}
use Rattle.fork_format.proofs.Cited.{IsGroup, AreRefs, AreKinds, HaveRefs, AllByRecursion, RefName, view_name}

-- What the types of stored values say of them.

-- a name is short
pub name-short : (name : Option RefName) → IfSome (view_name name) (λ text. length text ≤ 255)
name-short None = tt
name-short (Some n) = n.short

-- with a first one that is as it must be, all are, if the others are
pub refs-next : (left rest : List Ref) (r : Ref) (P : Type 0) → left ≡ r ∷ rest → IsRef r → (AreRefs left → P)
    → AreRefs rest → P
refs-next left rest r P e is so all = so (subst AreRefs (sym e) (is, all))

pub kinds-next : (left rest : List Group) (g : Group) (P : Type 0) → left ≡ g ∷ rest → g.kind < 2 ^ 32
    → (AreKinds left → P) → AreKinds rest → P
kinds-next left rest g P e is so all = so (subst AreKinds (sym e) (is, all))

pub groups-next : (left rest : List Group) (g : Group) (P : Type 0) → left ≡ g ∷ rest → AreRefs g.refs
    → (HaveRefs left → P) → HaveRefs rest → P
groups-next left rest g P e is so all = so (subst HaveRefs (sym e) (is, all))

-- groups by their types and by their resources
pub are_groups : (groups : List Group) → AreKinds groups → HaveRefs groups → AllByRecursion IsGroup groups
are_groups [] kinds refs = tt
are_groups (g ∷ groups) kinds refs = (record { kind = kinds.0; refs = refs.0 }, are_groups groups kinds.1 refs.1)
