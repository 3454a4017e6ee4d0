use Rattle.res_calls.proofs.Cited.{◌≡◌, inl, inr, ℕ, zero, suc, Bool, true, false, List, [], ◌∷◌, ◌++◌, map, refl, sym, ◌∙◌, ◌≢◌, ap, cond}
use Rattle.res_calls.proofs.Cited.{Option, Some, None, Result, Ok, Err, map-append, slice_get, OsErr, PROFILE, Content, Memory, Resource}
use Rattle.res_calls.proofs.Cited.{new_inside, Split, place, Reference, Map, is_preload, with_handle, map_of, File, OpenFile, Resources}
use Rattle.res_calls.proofs.Cited.{fresh_resources, opened, open_at, file_named, Managers, flags_of, given, preload_one, preload, refused}
use Rattle.res_calls.proofs.Cited.{loaded_if, loaded, preloaded, preloaded_in, launched_resources, map_in, open_map, open_unless}
use Rattle.res_calls.proofs.Cited.{open_named, open_res_file, greatest_number, noting, without_handles, outside_heap, KeepHandles}
use Rattle.res_calls.proofs.Cited.{OnlyGivesHandles, OpensAtMost}
use Rattle.std.specs.Prelude.{nat_lt}
use Rattle.res_calls.proofs.Keeping.{either-keeps}
use Rattle.res_calls.proofs.Owning.Calls.{map-bare}
use Rattle.res_calls.proofs.Owning.Laws.{launched-by}
use Rattle.res_calls.proofs.Owning.Openings.{Bare, bare-groups}
use Rattle.res_calls.proofs.Recorded.Given.{handle_of}

-- What is read as a file is opened gives handles, and changes nothing else.

-- one reference, and all
one-outside : (x : Reference) (m : Memory)
    → map (with_handle None) (preload_one x m).references ≡ with_handle None x ∷ []
one-outside x m = by_bit (is_preload x)
  where
    by_room : (o : Result ℕ OsErr × Memory)
        → map (with_handle None) (given x o).references ≡ with_handle None x ∷ []
    by_room (Err code, n) = refl
    by_room (Ok k, n) = refl

    by_bit : (t : Bool)
        → map (with_handle None) (cond t (given x (new_inside Resource (flags_of x) x.stored.datum m))
        (record { references = x ∷ []; memory = m; reads = [] })).references ≡ with_handle None x ∷ []
    by_bit true = by_room (new_inside Resource (flags_of x) x.stored.datum m)
    by_bit false = refl

preload-outside : (references : List Reference) (m : Memory)
    → map (with_handle None) (preload references m).references ≡ map (with_handle None) references
preload-outside [] m = refl
preload-outside (x ∷ references) m =
    map-append (with_handle None) (preload_one x m).references (preload references (preload_one x m).memory).references
    ∙ ap (λ (l : List Reference).
    l ++ map (with_handle None) (preload references (preload_one x m).memory).references) (one-outside x m)
    ∙ ap (λ (l : List Reference). with_handle None x ∷ l) (preload-outside references (preload_one x m).memory)

loaded-outside : (loading : Bool) (references : List Reference) (m : Memory)
    → map (with_handle None) (loaded_if loading references m).references ≡ map (with_handle None) references
loaded-outside true references m = preload-outside references m
loaded-outside false references m = refl

-- the resources of an application's own fork, at its launch
preloaded-outside : (s : Managers) → outside_heap (preloaded s).0.resources ≡ outside_heap s.resources
preloaded-outside s = by_chain s.resources.chain refl
  where
    by_chain : (chain : List OpenFile) → s.resources.chain ≡ chain
        → outside_heap (preloaded_in chain s).0.resources ≡ outside_heap s.resources
    by_chain [] e = refl
    by_chain (f ∷ older) e =
        ap (λ (l : List OpenFile). record s.resources { chain = l })
        (ap (λ (references : List Reference).
        record f { map = record f.map { references = references } } ∷ map without_handles older)
        (loaded-outside s.resources.loading f.map.references s.memory) ∙ ap (map without_handles) (sym e))

-- references that have no handle, and others behind them
bare-behind : (references : List Reference) (behind : List (Option ℕ)) → Bare references
    → ((i h : ℕ) → slice_get behind i ≢ Some (Some h))
    → (i h : ℕ) → slice_get (map handle_of references ++ behind) i ≢ Some (Some h)
bare-behind [] behind bare none i h e = none i h e
bare-behind (x ∷ references) behind bare none zero h e = let no : x.handle ≡ None = bare.0 in cc
bare-behind (x ∷ references) behind bare none (suc i) h e = bare-behind references behind bare.1 none i h e

fresh-kept : (files : List File) (own system : Map) (after : List OpenFile) → Bare own.references
    → Bare system.references → KeepHandles (fresh_resources files own system).chain after
fresh-kept files own system after bare plain i h e =
    absurd (bare-behind own.references (map handle_of system.references ++ []) bare
    (bare-behind system.references [] plain (λ j k is. cc)) i h e)

pub launched-given : (files : List File) (system : Content) (r : Resources) (m : Memory)
    → launched_resources files system ≡ Ok r
    → OnlyGivesHandles r (preloaded (record { memory = m; resources = r })).0.resources
launched-given files system r m e =
    launched-by (λ x. OnlyGivesHandles x (preloaded (record { memory = m; resources = x })).0.resources)
    files system r (λ own bare. record {
      outside = preloaded-outside (record { memory = m; resources = fresh_resources files own (map_of system) });
      kept = fresh-kept files own (map_of system)
          (preloaded (record { memory = m; resources = fresh_resources files own (map_of system) })).0.resources.chain
          bare (bare-groups system.groups);
    }) e

-- references without handles are what they are without them
bare-same : (references : List Reference) → Bare references → map (with_handle None) references ≡ references
bare-same [] bare = refl
bare-same (x ∷ references) bare =
    ap (λ (o : Option ℕ). with_handle o x ∷ map (with_handle None) references) (sym bare.0)
    ∙ ap (λ (l : List Reference). x ∷ l) (bare-same references bare.1)

-- a file is opened, as its fork spells it
map-opens : (name : List ℕ) (at : Split File) (s : Managers) → file_named name s.resources ≡ Some at
    → (o : Result Map OsErr) → map_in at.here.fork ≡ o
    → OpensAtMost name s.resources (open_map (place at) o s).after.resources
map-opens name at s named (Err code) is = inl refl
map-opens name at s named (Ok read) is =
    let f : OpenFile = opened s.resources.next (Some (place at)) read in inr (
      at,
      read,
      record f { map = record read { references = (loaded f s).references } },
      named,
      is,
      ap (λ (references : List Reference). record f { map = record read { references = references } })
          (loaded-outside s.resources.loading read.references s.memory
          ∙ bare-same read.references (map-bare at.here.fork read is)),
      refl,
    )

unless-opens : (name : List ℕ) (at : Split File) (s : Managers) → file_named name s.resources ≡ Some at
    → (o : Option (Split OpenFile)) → OpensAtMost name s.resources (open_unless at o s).after.resources
unless-opens name at s named (Some f) = inl refl
unless-opens name at s named None =
    either-keeps (λ m. OpensAtMost name s.resources m.resources) (nat_lt greatest_number s.resources.next)
    (refused PROFILE s) _ (λ last. inl refl) (λ more. map-opens name at s named (map_in at.here.fork) refl)

named-opens : (name : List ℕ) (s : Managers) (o : Option (Split File)) → file_named name s.resources ≡ o
    → OpensAtMost name s.resources (open_named o s).after.resources
named-opens name s None named = inl refl
named-opens name s (Some at) named = unless-opens name at s named (open_at (place at) s.resources)

-- and the code that ResError tells is set
noted-opens : (name : List ℕ) (r after : Resources) (code : OsErr) → OpensAtMost name r after
    → OpensAtMost name r (record after { error = code })
noted-opens name r after code (inl same) = inl (ap (λ (x : Resources). record x { error = code }) same)
noted-opens name r after code (inr (at, read, f, named, is, bare, same)) =
    inr (at, read, f, named, is, bare, ap (λ (x : Resources). record x { error = code }) same)

pub open-opens : (name : List ℕ) (s : Managers)
    → OpensAtMost name s.resources (noting (open_res_file name) s).after.resources
open-opens name s =
    noted-opens name s.resources (open_res_file name s).after.resources _
    (named-opens name s (file_named name s.resources) refl)
