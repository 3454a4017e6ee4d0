use Rattle.res_calls.proofs.Cited.{◌≡◌, ℕ, Bool, true, false, not, ◌==◌, List, [], ◌∷◌, ◌++◌, refl, sym, ◌∙◌, ap, cond, map, drop, Option}
use Rattle.res_calls.proofs.Cited.{Some, None, Result, Ok, Err, and_parts, and_from, or_left, or_right, and_assoc, and_zero_r, is_some}
use Rattle.res_calls.proofs.Cited.{list_all, has_bit, unchanged, CHANGED, OsErr, State, Memory, Resource, new_inside, Reference, is_changed}
use Rattle.res_calls.proofs.Cited.{is_preload, stored_anew, added, flags_of, given, preload_one, preload, next_number, numbered, given_to}
use Rattle.res_calls.proofs.Cited.{loaded_if, fresh, updated_reference, keeps_handle}
use Rattle.res_calls.proofs.Owning.Updates.{added-one}
use Rattle.res_calls.proofs.Soundness.Lists.{all-between, all-made}

-- A changed reference has a handle.

-- attributes without resChanged haven't it
pub changed-clear : (attrs : ℕ) → has_bit CHANGED (unchanged attrs) ≡ false
changed-clear attrs = ap (λ (n : ℕ). not (n == 0)) (and_assoc 2 attrs 253 ∙ and_zero_r attrs)

pub anew-keeps : (bytes : Option (List ℕ)) (x : Reference) → keeps_handle (stored_anew bytes x) ≡ true
anew-keeps bytes x =
    or_left (not (is_changed (stored_anew bytes x))) (is_some x.handle) (ap not (changed-clear x.stored.attrs))

pub held-keeps : (x : Reference) (k : ℕ) → x.handle ≡ Some k → keeps_handle x ≡ true
held-keeps x k e = or_right (not (is_changed x)) (is_some x.handle) (ap is_some e)

pub plain-keeps : (x : Reference) → is_changed x ≡ false → keeps_handle x ≡ true
plain-keeps x e = or_left (not (is_changed x)) (is_some x.handle) (ap not e)

-- after an update; with one more
pub updated-keep : (heap : State) (references : List Reference)
    → list_all keeps_handle (map (updated_reference heap) references) ≡ true
updated-keep heap references =
    all-made keeps_handle (updated_reference heap) references (λ x. anew-keeps (fresh heap x) x)

pub added-keep : (new : Reference) (references : List Reference) → keeps_handle new ≡ true
    → list_all keeps_handle references ≡ true → list_all keeps_handle (added new references) ≡ true
added-keep new references keeps e =
    let place = added-one new references in
    ap (list_all keeps_handle) (sym place.whole)
    ∙ all-between keeps_handle place.before new place.after (ap (list_all keeps_handle) place.rest ∙ e) keeps

-- those of a file that is opened
both-keep : (xs ys : List Reference) → list_all keeps_handle xs ≡ true → list_all keeps_handle ys ≡ true
    → list_all keeps_handle (xs ++ ys) ≡ true
both-keep [] ys first later = later
both-keep (x ∷ xs) ys first later =
    let parts = and_parts (keeps_handle x) (list_all keeps_handle xs) first in
    and_from (keeps_handle x) (list_all keeps_handle (xs ++ ys)) parts.0 (both-keep xs ys parts.1 later)

one-keeps : (x : Reference) (m : Memory) → keeps_handle x ≡ true
    → list_all keeps_handle (preload_one x m).references ≡ true
one-keeps x m e = by_bit (is_preload x)
  where
    alone : (y : Reference) → keeps_handle y ≡ true → list_all keeps_handle (y ∷ []) ≡ true
    alone y is = and_from (keeps_handle y) true is refl

    by_room : (o : Result ℕ OsErr × Memory) → list_all keeps_handle (given x o).references ≡ true
    by_room (Err code, n) = alone x e
    by_room (Ok k, n) = alone (record x { handle = Some k }) (held-keeps (record x { handle = Some k }) k refl)

    by_bit : (t : Bool)
        → list_all keeps_handle (cond t (given x (new_inside Resource (flags_of x) x.stored.datum m))
        (record { references = x ∷ []; memory = m; reads = [] })).references ≡ true
    by_bit true = by_room (new_inside Resource (flags_of x) x.stored.datum m)
    by_bit false = alone x e

pub preload-keeps : (references : List Reference) (m : Memory) → list_all keeps_handle references ≡ true
    → list_all keeps_handle (preload references m).references ≡ true
preload-keeps [] m e = refl
preload-keeps (x ∷ references) m e =
    let parts = and_parts (keeps_handle x) (list_all keeps_handle references) e in
    both-keep (preload_one x m).references (preload references (preload_one x m).memory).references
    (one-keeps x m parts.0) (preload-keeps references (preload_one x m).memory parts.1)

pub loaded-keeps : (loading : Bool) (references : List Reference) (m : Memory)
    → list_all keeps_handle references ≡ true
    → list_all keeps_handle (loaded_if loading references m).references ≡ true
loaded-keeps true references m e = preload-keeps references m e
loaded-keeps false references m e = e

-- those of a file whose preloading was stopped
numbered-keeps : (number : Option ℕ) (x : Reference) → keeps_handle x ≡ true → keeps_handle (numbered number x) ≡ true
numbered-keeps None x e = e
numbered-keeps (Some k) x e = held-keeps (numbered (Some k) x) k refl

pub given-keep : (references : List Reference) (numbers : List (Option ℕ)) → list_all keeps_handle references ≡ true
    → list_all keeps_handle (given_to references numbers) ≡ true
given-keep [] numbers e = refl
given-keep (x ∷ references) numbers e =
    let parts = and_parts (keeps_handle x) (list_all keeps_handle references) e in
    by_bit (is_preload x) parts.0 (given-keep references (drop 1 numbers) parts.1)
    (given-keep references numbers parts.1)
  where
    first : Reference
    first = numbered (next_number numbers) x

    by_bit : (t : Bool) → keeps_handle x ≡ true
        → list_all keeps_handle (given_to references (drop 1 numbers)) ≡ true
        → list_all keeps_handle (given_to references numbers) ≡ true
        → list_all keeps_handle (cond t (first ∷ given_to references (drop 1 numbers))
        (x ∷ given_to references numbers)) ≡ true
    by_bit true keeps given passed =
        and_from (keeps_handle first) (list_all keeps_handle (given_to references (drop 1 numbers)))
        (numbered-keeps (next_number numbers) x keeps) given
    by_bit false keeps given passed =
        and_from (keeps_handle x) (list_all keeps_handle (given_to references numbers)) keeps passed
