-- What is stored of the blocks that a call purges.
use Rattle.res_calls.proofs.Cited.{◌≡◌, ℕ, Bool, true, false, cond, List, [], ◌∷◌, map, Option, Some, None, refl, sym, ap, subst, ◌∙◌}
use Rattle.res_calls.proofs.Cited.{is_some, Gone, has_handle, stored_anew, is_to_write, Managers, Resources, Found, find_open}
use Rattle.res_calls.proofs.Cited.{with_reference, Owns, found_at, chained, heard, stored_found, stored_gone, with_resources, Sound}
use Rattle.res_calls.proofs.Cited.{view_open, Spot}
use Rattle.res_calls.specs.declared.files.OpenFile.{OpenFile as StoredOpenFile}
use Rattle.res_calls.proofs.Owning.Calls.{changed-owns}
use Rattle.res_calls.proofs.Owning.Facts.{owns-one, one-owns}
use Rattle.res_calls.proofs.Owning.Owners.{OneOwner}
use Rattle.res_calls.proofs.Owning.Places.{Stands, find-finds}
use Rattle.res_calls.proofs.Soundness.Changes.{sound-reference}
use Rattle.res_calls.proofs.Soundness.References.{anew-keeps}
use Rattle.res_calls.proofs.Standing.{some_of}

-- what holds of the resources, and of them with other stored data of a found reference, holds once it is stored
stored-keeps : (P : Resources → Type 0) (h : ℕ) (bytes : List ℕ) (r : Resources)
    → ((at : Found) → Stands r.chain at
    → P (record r { chain = with_reference (stored_anew (Some bytes) at.reference.here) at }))
    → P r → (found : Option Found) → find_open (has_handle h) r ≡ found → P (stored_found found bytes r)
stored-keeps P h bytes r stored same None e = same
stored-keeps P h bytes r stored same (Some at) e = cases (is_to_write at.reference.here)
  where
    new : Resources
    new = record r { chain = with_reference (stored_anew (Some bytes) at.reference.here) at }

    cases : (t : Bool) → P (cond t new r)
    cases true = stored at (find-finds (λ f. true) (has_handle h) r.chain at e).0
    cases false = same

-- the open files stay sound
pub stored-sound : (h : ℕ) (bytes : List ℕ) (r : Resources) → Sound r
    → Sound (stored_found (find_open (has_handle h) r) bytes r)
stored-sound h bytes r sound =
    stored-keeps (λ q. Sound q) h bytes r
    (λ at stands. sound-reference r at (stored_anew (Some bytes) at.reference.here) stands
    (anew-keeps (Some bytes) at.reference.here) sound) sound (find_open (has_handle h) r) refl

pub gone-sound : (gone : List Gone) (r : Resources) → Sound r → Sound (stored_gone gone r)
gone-sound [] r sound = sound
gone-sound (g ∷ gone) r sound = gone-sound gone _ (stored-sound g.0 g.1 r sound)

-- each resource keeps its own handle
gone-one : (gone : List Gone) (s : Managers) → OneOwner s
    → OneOwner (with_resources (stored_gone gone s.resources) s)
gone-one [] s owns = owns
gone-one (g ∷ gone) s owns =
    gone-one gone (with_resources (stored_found (find_open (has_handle g.0) s.resources) g.1 s.resources) s)
    (stored-keeps (λ q. OneOwner (with_resources q s)) g.0 g.1 s.resources
    (λ at stands. changed-owns s at (stored_anew (Some g.1) at.reference.here) at.file.here.touched stands refl owns)
    owns (find_open (has_handle g.0) s.resources) refl)

pub gone-owns : (gone : List Gone) (s : Managers) → Owns s → Owns (with_resources (stored_gone gone s.resources) s)
gone-owns gone s owns = owns-one (with_resources (stored_gone gone s.resources) s) (gone-one gone s (one-owns s owns))

-- what a place's open files become is what the resources become
pub stored-there : (h : ℕ) (bytes : List ℕ) (old new : List StoredOpenFile) (r now : Resources) (at : Spot)
    → chained old r ≡ now → found_at at now.chain ≡ find_open (has_handle h) now
    → is_some (found_at at now.chain) ≡ true
    → ((f : Found) → found_at at (map view_open old) ≡ Some f
    → stored_found (Some f) bytes (chained old r) ≡ chained new r)
    → chained new r ≡ stored_found (find_open (has_handle h) now) bytes now
stored-there h bytes old new r now at is found there stored =
    let f = some_of (found_at at (map view_open old)) (ap (λ (q : Resources). is_some (found_at at q.chain)) is ∙ there) in
    let here = subst (λ (q : Resources). found_at at q.chain ≡ find_open (has_handle h) q) (sym is) found in
    sym (stored f.0 f.1)
    ∙ ap (λ (o : Option Found). stored_found o bytes (chained old r)) (sym f.1 ∙ here)
    ∙ ap (λ (q : Resources). stored_found (find_open (has_handle h) q) bytes q) is

-- the files stay, with their forks
stored-files : (bytes : List ℕ) (r : Resources) (found : Option Found) → (stored_found found bytes r).files ≡ r.files
stored-files bytes r None = refl
stored-files bytes r (Some at) = cases (is_to_write at.reference.here)
  where
    cases : (t : Bool) → (cond t (record r { chain = with_reference (stored_anew (Some bytes) at.reference.here) at }) r).files
        ≡ r.files
    cases true = refl
    cases false = refl

pub gone-files : (gone : List Gone) (r : Resources) → (stored_gone gone r).files ≡ r.files
gone-files [] r = refl
gone-files (g ∷ gone) r =
    gone-files gone (stored_found (find_open (has_handle g.0) r) g.1 r)
    ∙ stored-files g.1 r (find_open (has_handle g.0) r)

-- no blocks are heard of as none
pub heard-none : (on : Bool) → heard on [] ≡ []
heard-none true = refl
heard-none false = refl
