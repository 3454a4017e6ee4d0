use Rattle.res_calls.proofs.Cited.{◌≡◌, ℕ, ℤ, Bool, true, false, not, ◌&&◌, ◌==◌, List, [], ◌∷◌, ◌++◌, refl, sym, ◌∙◌, ap, cond, map}
use Rattle.res_calls.proofs.Cited.{Option, Some, None, Decides-eqb, flat_map-append, option_to_list, flat_map, list_any, State, Role}
use Rattle.res_calls.proofs.Cited.{Resource, resource_role_at, Split, replaced, removed, Reference, added, new_reference, is_handle}
use Rattle.res_calls.proofs.Cited.{OpenFile, Found, role_in, updated_reference}
use Rattle.res_calls.proofs.Owning.Owners.{owner, owners_in, owners, OneOwnerEach}
use Rattle.res_calls.proofs.Owning.Lists.{lost, won, inner}
use Rattle.res_calls.proofs.Owning.Places.{Stands, front, back, owners-stand}

-- An open file with other references.

abbrev pub with_references : List Reference → Bool → OpenFile → OpenFile
with_references references touched f = record f { map = record f.map { references = references }; touched = touched }

-- the owners before the file, of its references, and behind it
file-owners : (h : ℕ) (at : Split OpenFile) (references : List Reference) (touched : Bool)
    → owners h (replaced (with_references references touched at.here) at)
    ≡ owners h at.before ++ (flat_map (owner h (role_in at.here)) references ++ owners h at.after)
file-owners h at references touched = flat_map-append (owners_in h) at.before _

whole-owners : (h : ℕ) (chain : List OpenFile) (at : Split OpenFile) → replaced at.here at ≡ chain
    → owners h at.before ++ (flat_map (owner h (role_in at.here)) at.here.map.references ++ owners h at.after)
    ≡ owners h chain
whole-owners h chain at whole = sym (flat_map-append (owners_in h) at.before _) ∙ ap (owners h) whole

-- references with the same handles
pub one-alike : (chain : List OpenFile) (s : State) (at : Split OpenFile) (references : List Reference) (touched : Bool)
    → replaced at.here at ≡ chain
    → ((h : ℕ) (role : Role)
    → flat_map (owner h role) references ≡ flat_map (owner h role) at.here.map.references)
    → OneOwnerEach chain s → OneOwnerEach (replaced (with_references references touched at.here) at) s
one-alike chain s at references touched whole same one h =
    file-owners h at references touched
    ∙ ap (λ (l : List Role). owners h at.before ++ (l ++ owners h at.after)) (same h (role_in at.here))
    ∙ whole-owners h chain at whole ∙ one h

-- what an update stores changes no handle
pub updated-handles : (heap : State) (references : List Reference) (h : ℕ) (role : Role)
    → flat_map (owner h role) (map (updated_reference heap) references) ≡ flat_map (owner h role) references
updated-handles heap [] h role = refl
updated-handles heap (x ∷ references) h role =
    ap (λ (l : List Role). owner h role x ++ l) (updated-handles heap references h role)

-- another reference with the same handle
pub one-changed : (chain : List OpenFile) (s : State) (at : Found) (x : Reference) (touched : Bool) → Stands chain at
    → x.handle ≡ at.reference.here.handle → OneOwnerEach chain s
    → OneOwnerEach (replaced (with_references (replaced x at.reference) touched at.file.here) at.file) s
one-changed chain s at x touched stands held one =
    one-alike chain s at.file (replaced x at.reference) touched stands.file same one
  where
    same : (h : ℕ) (role : Role)
        → flat_map (owner h role) (replaced x at.reference)
        ≡ flat_map (owner h role) at.file.here.map.references
    same h role =
        flat_map-append (owner h role) at.reference.before (x ∷ at.reference.after)
        ∙ ap (λ (o : Option ℕ). flat_map (owner h role) at.reference.before
        ++ (cond (is_handle h o) (role ∷ []) [] ++ flat_map (owner h role) at.reference.after)) held
        ∙ sym (flat_map-append (owner h role) at.reference.before (at.reference.here ∷ at.reference.after))
        ∙ ap (flat_map (owner h role)) stands.reference

-- a reference goes, and its handle is no resource's any more
pub one-removed : (chain : List OpenFile) (s after : State) (at : Found) (k : ℕ) → Stands chain at
    → at.reference.here.handle ≡ Some k → OneOwnerEach chain s
    → ((h : ℕ) → resource_role_at h after ≡ cond (k == h) None (resource_role_at h s))
    → OneOwnerEach (replaced (with_references (removed at.reference) true at.file.here) at.file) after
one-removed chain s after at k stands held one gone h =
    let own : Reference → List Role = owner h (role_in at.file.here) in
    file-owners h at.file (removed at.reference) true
    ∙ ap (λ (l : List Role). owners h at.file.before ++ (l ++ owners h at.file.after))
    (flat_map-append own at.reference.before at.reference.after)
    ∙ inner (owners h at.file.before) (flat_map own at.reference.before) [] (flat_map own at.reference.after)
    (owners h at.file.after)
    ∙ lost (k == h) (front h at) (back h at) (role_in at.file.here) (resource_role_at h s)
    (ap (λ (o : Option ℕ). front h at ++ (cond (is_handle h o) (role_in at.file.here ∷ []) [] ++ back h at)) (sym held)
    ∙ sym (owners-stand h chain at stands) ∙ one h)
    ∙ ap option_to_list (sym (gone h))

-- where a reference is added: between those that were there
pub record Added (new : Reference) (old references : List Reference) : Type 0 where
  pub before : List Reference
  pub after : List Reference
  pub rest : before ++ after ≡ old
  pub whole : before ++ new ∷ after ≡ references

pub added-one : (new : Reference) (references : List Reference) → Added new references (added new references)
added-one new [] = record { before = []; after = []; rest = refl; whole = refl }
added-one new (r ∷ references) =
    by_test (r.kind == new.kind && not (list_any (λ (x : Reference). x.kind == new.kind) references))
    (added-one new references)
  where
    by_test : (t : Bool) → Added new references (added new references)
        → Added new (r ∷ references) (cond t (r ∷ new ∷ references) (r ∷ added new references))
    by_test true later = record { before = r ∷ []; after = references; rest = refl; whole = refl }
    by_test false later = record {
      before = r ∷ later.before;
      after = later.after;
      rest = ap (λ l. r ∷ l) later.rest;
      whole = ap (λ l. r ∷ l) later.whole;
    }

-- a reference is added to a file of an application's own, with a handle that was no resource's
pub one-added : (chain : List OpenFile) (s after : State) (at : Split OpenFile) (kind : ℕ) (id : ℤ) (text : List ℕ)
    (k : ℕ) → replaced at.here at ≡ chain → role_in at.here ≡ Resource → OneOwnerEach chain s
    → resource_role_at k s ≡ None
    → ((h : ℕ) → resource_role_at h after ≡ cond (k == h) (Some Resource) (resource_role_at h s))
    → OneOwnerEach (replaced (with_references (added (new_reference kind id text k) at.here.map.references) true
    at.here) at) after
one-added chain s after at kind id text k whole role-is one free now h =
    file-owners h at (added new at.here.map.references) true
    ∙ ap (λ (l : List Reference). first ++ (flat_map own l ++ last)) (sym place.whole)
    ∙ ap (λ (l : List Role). first ++ (l ++ last)) (flat_map-append own place.before (new ∷ place.after))
    ∙ inner first (flat_map own place.before) (own new) (flat_map own place.after) last
    ∙ won (k == h) (first ++ flat_map own place.before) (flat_map own place.after ++ last) (role_in at.here)
    (resource_role_at h s) (λ e. ap (λ (j : ℕ). resource_role_at j s) (sym ((Decides-eqb k h).0 e)) ∙ free) others
    ∙ ap (λ (role : Role). option_to_list (cond (k == h) (Some role) (resource_role_at h s))) role-is
    ∙ ap option_to_list (sym (now h))
  where
    new : Reference
    new = new_reference kind id text k

    place : Added new at.here.map.references (added new at.here.map.references)
    place = added-one new at.here.map.references

    own : Reference → List Role
    own = owner h (role_in at.here)

    first : List Role
    first = owners h at.before

    last : List Role
    last = owners h at.after

    others : (first ++ flat_map own place.before) ++ (flat_map own place.after ++ last)
        ≡ option_to_list (resource_role_at h s)
    others =
        sym (inner first (flat_map own place.before) [] (flat_map own place.after) last)
        ∙ ap (λ (l : List Role). first ++ (l ++ last)) (sym (flat_map-append own place.before place.after))
        ∙ ap (λ (l : List Reference). first ++ (flat_map own l ++ last)) place.rest
        ∙ whole-owners h chain at whole ∙ one h
