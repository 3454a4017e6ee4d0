use Rattle.std.specs.Prelude.{◌≡◌, ℕ, zero, suc, Bool, true, Option, Some, None, Result, Ok, Err, List, [], ◌∷◌}
use Rattle.std.specs.Prelude.{map, filter, not, option_map, nat_le, ◌==◌, if◌then◌else◌, is_some, pos}
use Rattle.std.specs.List.{list_any}
use Rattle.byteorder.specs.Endian.{big_number}
use Rattle.mac_words.specs.declared.code.OsErr.{OsErr}
use Rattle.mac_words.specs.declared.code.TheConstants.OsErr.{NO_ERR}
use Rattle.heap_calls.specs.State.{Memory}
use Rattle.heap_calls.specs.Inside.{new_inside, new_empty_inside, resource_role}
use Rattle.heap_calls.specs.declared.refusal.Refusal.{Refusal}
use Rattle.heap_calls.specs.declared.refusal.Refusal.TheVariants.{Code, HostMemory}
use Rattle.res_map.specs.Split.{Split, behind, place}
use Rattle.res_map.specs.Map.{Reference, is_resource, is_named, has_handle, new_reference, types}
use Rattle.res_calls.specs.Files.{OpenFile, Resources, Found, find, is_at}
use Rattle.res_calls.specs.Fetch.{Managers, Answer, flags_of, is_system}
use Rattle.res_calls.specs.Fetch as fetch
use Rattle.res_calls.specs.Rows.{reference_in, fetched_as, closed_file}
use Rattle.res_calls.specs.Rows as rows
use Rattle.res_calls.specs.Update.{update}
use Rattle.res_calls.specs.Leaving.{FilesClosed, update_code, updated_or, left_file, last_opened, has_own, left_after}
use Rattle.fork_format.specs.declared.content.RefName.{RefName}
use Rattle.res_calls.specs.declared.info.Info.{Info}
use Rattle.res_calls.specs.declared.files.File.{File as StoredFile}
use Rattle.res_calls.specs.declared.files.OpenFile.{OpenFile as StoredOpenFile}
use Rattle.res_calls.specs.View.{view_file, view_open}
use Rattle.res_calls.specs.declared.adding.NewReference.{NewReference}
use Rattle.res_calls.specs.declared.find.Spot.{Spot}
use Rattle.res_calls.specs.declared.find.Within.{Within}
use Rattle.res_calls.specs.declared.find.Within.TheVariants as within
use Rattle.res_calls.specs.declared.find.Wanted.{Wanted}
use Rattle.res_calls.specs.declared.find.Wanted.TheVariants as wanted
use Rattle.res_calls.specs.declared.fetched.Fetched.{Fetched}
use Rattle.res_calls.specs.declared.fetched.Unread.{Unread}

-- The place of a reference, given by numbers, and the calls as the methods compute them.

-- The item at index `n` of a list, split from the items before and after the item.
abbrev pub at_index : {A : Type 0} → ℕ → List A → Option (Split A)
at_index n [] = None
at_index zero (x ∷ xs) = Some (record { before = []; here = x; after = xs })
at_index (suc n) (x ∷ xs) = option_map (behind x) (at_index n xs)

-- The reference at index `n` of an open file.
abbrev pub in_file : ℕ → Option (Split OpenFile) → Option Found
in_file n None = None
in_file n (Some f) = option_map (reference_in f) (at_index n f.here.map.references)

-- The reference at a place.
abbrev pub found_at : Spot → List OpenFile → Option Found
found_at at chain = in_file at.reference (at_index at.file chain)

abbrev pub found_from : Option Spot → List OpenFile → Option Found
found_from None chain = None
found_from (Some at) chain = found_at at chain

-- The place of a found reference.
abbrev pub spot_of : Found → Spot
spot_of at = record { file = place at.file; reference = place at.reference }

-- Holds of a file that a search passes through, and of a reference that the search looks for.
abbrev pub is_searched : Within → OpenFile → Bool
is_searched (within.UpTo n) = λ f. nat_le f.number n
is_searched (within.Only n) = λ f. f.number == n
is_searched within.Each = λ f. true
is_searched within.Own = λ f. is_at 0 f.file

abbrev pub is_wanted : Wanted → Reference → Bool
is_wanted (wanted.Id ty id) = is_resource (big_number 4 ty.0) id
is_wanted (wanted.Named ty name) = is_named (big_number 4 ty.0) name.now
is_wanted (wanted.Handle h) = has_handle h

-- Holds of a type that one of the open files has.
abbrev pub has_type : List OpenFile → ℕ → Bool
has_type files kind = list_any (λ (f : OpenFile). list_any (λ (k : ℕ). k == kind) (types f.map.references)) files

-- The types of references that none of the open files before them has.
abbrev pub is_new : List OpenFile → ℕ → Bool
is_new before kind = not (has_type before kind)

abbrev pub new_types : List OpenFile → List Reference → List ℕ
new_types before references = filter (is_new before) (types references)

-- Holds of an ID that a resource of a type has in the files that a search passes through.
abbrev pub is_taken_in : Within → ℕ → List OpenFile → ℕ → Bool
is_taken_in files kind chain id = is_some (find (is_searched files) (is_resource kind (pos id)) chain)

-- The host was out of memory during a fetch.
abbrev pub WantsHost : Result Fetched Unread → Type 0
WantsHost (Ok f) = ⊥
WantsHost (Err u) = u.refusal ≡ HostMemory

-- The resources with the given open files.
abbrev pub chained : List StoredOpenFile → Resources → Resources
chained files r = record r { chain = map view_open files }

-- A new handle for a resource: to a block that holds the stored data where loading is on, and an empty handle
-- otherwise.
abbrev pub made_for : Bool → Bool → Reference → Memory → Result ℕ OsErr × Memory
made_for loading guarded x m = if loading then new_inside (resource_role guarded) (flags_of x) x.stored.datum m
    else new_empty_inside (resource_role guarded) m

-- The fetch of the reference that a search finds; -192 (resNotFound) where no reference was found.
abbrev pub fetch_wanted : Within → Wanted → Bool → Managers → Answer fetch.Fetched
fetch_wanted files x loading s = fetched_as loading (find (is_searched files) (is_wanted x) s.resources.chain) s

-- The code that ResError returns after a fetch. Where the host is out of memory, the code stays as it was.
abbrev pub last_fetched : Result Fetched Unread → OsErr → OsErr
last_fetched (Ok f) last = NO_ERR
last_fetched (Err u) last = last_refused u.refusal last
  where
    last_refused : Refusal → OsErr → OsErr
    last_refused (Code code) last = code
    last_refused HostMemory last = last

-- The bytes of a name, or no bytes where there is no name.
abbrev pub name_bytes : Option RefName → List ℕ
name_bytes None = []
name_bytes (Some name) = name.bytes.now

-- The ID, the type and the name of a resource, as a value of the definitions.
abbrev pub seen_info : Info → rows.Info
seen_info i = record { id = i.id; kind = big_number 4 i.ty.0; name = i.name.0.items }

-- The reference to be added, as a value of the definitions.
abbrev pub view_new : NewReference → Reference
view_new new = new_reference (big_number 4 new.ty.0) new.id new.name.now.0.items new.handle

-- The resources with the given files, open files and number of the current file.
abbrev pub standing : List StoredFile → List StoredOpenFile → ℕ → Resources → Resources
standing files chain current r =
    record r { files = map view_file files; chain = map view_open chain; current = current }

-- The result of updating and closing the file opened last: the code of the update, and the managers after.
abbrev pub left_last_of : List OpenFile → Managers → FilesClosed
left_last_of [] s = record { code = NO_ERR; after = s }
left_last_of (f ∷ older) s = record {
  code = update_code (update s.memory.heap (last_opened f older) s.resources);
  after = left_file (last_opened f older) s;
}

abbrev pub left_last : Managers → FilesClosed
left_last s = left_last_of s.resources.chain s

-- The result of updating the file opened last: the code of the update, and the resources after.
abbrev pub IsLastUpdated : Memory → List OpenFile → OsErr → Resources → Resources → Type 0
IsLastUpdated m [] code before after = Unit {0}
IsLastUpdated m (f ∷ older) code before after =
    (code ≡ update_code (update m.heap (last_opened f older) before))
    × (after ≡ updated_or (update m.heap (last_opened f older) before) before)

-- The managers after the file opened last is closed as it is.
abbrev pub IsLastClosed : List OpenFile → Managers → Managers → Type 0
IsLastClosed [] s after = Unit {0}
IsLastClosed (f ∷ older) s after = closed_file (last_opened f older) s.resources s ≡ after

-- The k files opened last were updated and closed, and no more, though another was to be closed.
pub record StopsAmid (old new : Managers) : Type 0 where
  pub k : ℕ
  pub more : has_own (left_after k old).resources.chain ≡ true
  pub left : new ≡ left_after k old
