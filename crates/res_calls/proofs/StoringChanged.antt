-- Storing purged blocks changes nothing but what is stored of changed resources.
use Rattle.res_calls.proofs.Cited.{◌≡◌, inl, inr, ℕ, Bool, true, false, true≢false, cond, List, [], ◌∷◌, ◌++◌, Option, Some, None, refl}
use Rattle.res_calls.proofs.Cited.{sym, ◌∙◌, ap, subst, and_left, Gone, replaced, Reference, has_handle, stored_anew, is_to_write, OpenFile}
use Rattle.res_calls.proofs.Cited.{Resources, Found, find_open, with_reference, stored_found, stored_gone, heard, StoredOrSame}
use Rattle.res_calls.proofs.Cited.{EachStoredOrSame, StoresIn, StoresInEach, OnlyStoresChanged}
use Rattle.res_calls.proofs.Owning.Calls.{has-some}
use Rattle.res_calls.proofs.Owning.Places.{Stands, find-finds}
use Rattle.res_calls.proofs.Soundness.References.{changed-clear}

-- nothing is stored
same-each : (gone : List Gone) (xs : List Reference) → EachStoredOrSame gone xs xs
same-each gone [] = tt
same-each gone (x ∷ xs) = (inl refl, same-each gone xs)

same-file : (gone : List Gone) (f : OpenFile) → StoresIn gone f f
same-file gone f = record { rest = refl; each = same-each gone f.map.references }

same-files : (gone : List Gone) (chain : List OpenFile) → StoresInEach gone chain chain
same-files gone [] = tt
same-files gone (f ∷ chain) = (same-file gone f, same-files gone chain)

pub same-stores : (gone : List Gone) (r : Resources) → OnlyStoresChanged gone r r
same-stores gone r = record { rest = refl; files = same-files gone r.chain }

-- of one reference of a file, and in one of the files
one-each : (gone : List Gone) (before : List Reference) (x y : Reference) (after : List Reference)
    → StoredOrSame gone x y → EachStoredOrSame gone (before ++ x ∷ after) (before ++ y ∷ after)
one-each gone [] x y after one = (one, same-each gone after)
one-each gone (b ∷ before) x y after one = (inl refl, one-each gone before x y after one)

one-file : (gone : List Gone) (before : List OpenFile) (f g : OpenFile) (after : List OpenFile)
    → StoresIn gone f g → StoresInEach gone (before ++ f ∷ after) (before ++ g ∷ after)
one-file gone [] f g after one = (one, same-files gone after)
one-file gone (b ∷ before) f g after one = (same-file gone b, one-file gone before f g after one)

-- of one block
one-stored : (g : Gone) (r : Resources) (found : Option Found) → find_open (has_handle g.0) r ≡ found
    → OnlyStoresChanged (g ∷ []) r (stored_found found g.1 r)
one-stored g r None e = same-stores (g ∷ []) r
one-stored g r (Some at) e = by_test (is_to_write at.reference.here) refl
  where
    new : Reference
    new = stored_anew (Some g.1) at.reference.here

    found : Stands r.chain at × (has_handle g.0 at.reference.here ≡ true)
    found = find-finds (λ f. true) (has_handle g.0) r.chain at e

    stores : is_to_write at.reference.here ≡ true → StoredOrSame (g ∷ []) at.reference.here new
    stores changed = inr (changed, g, inl refl, has-some g.0 at.reference.here.handle found.1, refl)

    in-file : is_to_write at.reference.here ≡ true → StoresIn (g ∷ []) at.file.here
        (record at.file.here { map = record at.file.here.map { references = replaced new at.reference } })
    in-file changed = record {
      rest = refl;
      each = subst (λ (xs : List Reference). EachStoredOrSame (g ∷ []) xs (replaced new at.reference))
          found.0.reference
          (one-each (g ∷ []) at.reference.before at.reference.here new at.reference.after (stores changed));
    }

    by_test : (t : Bool) → is_to_write at.reference.here ≡ t
        → OnlyStoresChanged (g ∷ []) r (cond t (record r { chain = with_reference new at }) r)
    by_test true changed = record {
      rest = refl;
      files = subst (λ (xs : List OpenFile). StoresInEach (g ∷ []) xs (with_reference new at)) found.0.file
          (one-file (g ∷ []) at.file.before at.file.here _ at.file.after (in-file changed));
    }
    by_test false plain = same-stores (g ∷ []) r

-- what is stored is changed no more
pub stored-unchanged : (bytes : List ℕ) (x : Reference) → is_to_write (stored_anew (Some bytes) x) ≡ false
stored-unchanged bytes x = and_left _ _ (changed-clear x.stored.attrs)

-- of one block, and then of others
then-stored : (g : Gone) (gone : List Gone) (x y z : Reference) → StoredOrSame (g ∷ []) x y → StoredOrSame gone y z
    → StoredOrSame (g ∷ gone) x z
then-stored g gone x y z (inl same) (inl again) = inl (again ∙ same)
then-stored g gone x y z (inl same) (inr (changed, h, among, held, is)) =
    inr (
      subst (λ (w : Reference). is_to_write w ≡ true) same changed,
      h,
      inr among,
      subst (λ (w : Reference). w.handle ≡ Some h.0) same held,
      subst (λ (w : Reference). z ≡ stored_anew (Some h.1) w) same is,
    )
then-stored g gone x y z (inr (changed, h, inr none, held, is)) later = absurd none
then-stored g gone x y z (inr (changed, h, inl one, held, is)) (inl again) =
    inr (changed, h, inl one, held, again ∙ is)
then-stored g gone x y z (inr (changed, h, inl one, held, is)) (inr (still, k, among, holds, later)) =
    absurd (true≢false (sym still ∙ ap is_to_write is ∙ stored-unchanged h.1 x))

then-each : (g : Gone) (gone : List Gone) (xs ys zs : List Reference) → EachStoredOrSame (g ∷ []) xs ys
    → EachStoredOrSame gone ys zs → EachStoredOrSame (g ∷ gone) xs zs
then-each g gone [] [] [] first later = tt
then-each g gone (x ∷ xs) (y ∷ ys) (z ∷ zs) first later =
    (then-stored g gone x y z first.0 later.0, then-each g gone xs ys zs first.1 later.1)
then-each g gone [] (y ∷ ys) zs first later = absurd first
then-each g gone (x ∷ xs) [] zs first later = absurd first
then-each g gone [] [] (z ∷ zs) first later = absurd later
then-each g gone (x ∷ xs) (y ∷ ys) [] first later = absurd later

then-file : (g : Gone) (gone : List Gone) (a b c : OpenFile) → StoresIn (g ∷ []) a b → StoresIn gone b c
    → StoresIn (g ∷ gone) a c
then-file g gone a b c first later = record {
  rest = later.rest ∙ ap (λ (f : OpenFile).
      let new : OpenFile = record f { map = record f.map { references = c.map.references } } in new) first.rest;
  each = then-each g gone a.map.references b.map.references c.map.references first.each later.each;
}

then-files : (g : Gone) (gone : List Gone) (fs gs hs : List OpenFile) → StoresInEach (g ∷ []) fs gs
    → StoresInEach gone gs hs → StoresInEach (g ∷ gone) fs hs
then-files g gone [] [] [] first later = tt
then-files g gone (a ∷ fs) (b ∷ gs) (c ∷ hs) first later =
    (then-file g gone a b c first.0 later.0, then-files g gone fs gs hs first.1 later.1)
then-files g gone [] (b ∷ gs) hs first later = absurd first
then-files g gone (a ∷ fs) [] hs first later = absurd first
then-files g gone [] [] (c ∷ hs) first later = absurd later
then-files g gone (a ∷ fs) (b ∷ gs) [] first later = absurd later

-- of all
pub stores-changed : (gone : List Gone) (r : Resources) → OnlyStoresChanged gone r (stored_gone gone r)
stores-changed [] r = same-stores [] r
stores-changed (g ∷ gone) r =
    let one : Resources = stored_found (find_open (has_handle g.0) r) g.1 r in
    let first = one-stored g r (find_open (has_handle g.0) r) refl in
    let later = stores-changed gone one in
    record {
      rest = later.rest ∙ ap (λ (q : Resources).
          let new : Resources = record q { chain = (stored_gone gone one).chain } in new) first.rest;
      files = then-files g gone r.chain one.chain (stored_gone gone one).chain first.files later.files;
    }

-- and nothing is while it is off
pub off-stores : (gone : List Gone) (r : Resources) → stored_gone (heard false gone) r ≡ r
off-stores gone r = refl
