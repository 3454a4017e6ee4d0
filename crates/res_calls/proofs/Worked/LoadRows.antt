use Rattle.res_calls.proofs.Cited.{◌≡◌, ℕ, pos, false, List, [], ◌∷◌, Option, Some, None, map, refl, replicate, MEM_FULL, Done, Fetched}
use Rattle.res_calls.proofs.Cited.{Number, Refused, Site, Map, fresh_memory, fresh_resources, Managers, with_handles, preloaded}
use Rattle.res_calls.proofs.Cited.{first_handles, GetResource, LoadResource, ReleaseResource, DetachResource, SetResLoad, ResError}
use Rattle.mac_words.specs.Told.{Code}
use Rattle.heap_calls.specs.Table as asks
use Rattle.res_calls.proofs.Worked.Lines.{line, heap_line, tells, stored, opened_map, group}

-- Resources that are read as their file is opened, and as they are asked for.

-- 'DATA'
abbrev data_type : ℕ
data_type = 0x44415441

-- the map of a fork with 'DATA' 1
abbrev own : ℕ → List ℕ → Map
own attrs datum = opened_map (group data_type (stored (pos 1) None attrs datum ∷ []) ∷ [])

-- an application of n bytes that has 'DATA' 1 with these attributes and bytes, as it is launched
abbrev start : ℕ → ℕ → List ℕ → Site → Managers
start n attrs datum window = (preloaded (record {
  memory = fresh_memory n window;
  resources = fresh_resources [] (own attrs datum) (opened_map []);
})).0

-- a purgeable resource is there; released and asked for without loading it is emptied, and is read once on demand
loaded-on-demand : (window : Site) → tells (line (GetResource data_type (pos 1)) ∷ heap_line (asks.HGetState (Some 0))
    ∷ line (ReleaseResource (Some 0)) ∷ line (SetResLoad false) ∷ line (GetResource data_type (pos 1))
    ∷ line (LoadResource (Some 1)) ∷ line (LoadResource (Some 1)) ∷ line (DetachResource (Some 1)) ∷ [])
    (start 1024 36 (100 ∷ []) window)
    ≡ Fetched 0 0 ∷ Number 96 ∷ Done ∷ Done ∷ Fetched 1 0 ∷ Fetched 1 1 ∷ Fetched 1 0 ∷ Done ∷ []
loaded-on-demand window = refl

-- one that found no room at launch is asked for in vain
no-room : (window : Site) → tells (line (GetResource data_type (pos 1)) ∷ line ResError ∷ [])
    (start 512 4 (replicate 300 7) window)
    ≡ Refused MEM_FULL ∷ Code MEM_FULL ∷ []
no-room window = refl

-- the handles of two preloaded resources, where the preloading was stopped behind the first k
abbrev two : Map
two = opened_map (group data_type (stored (pos 1) None 4 (100 ∷ []) ∷ stored (pos 2) None 4 (101 ∷ []) ∷ []) ∷ [])

abbrev stopped_behind : ℕ → Site → List (Option ℕ)
stopped_behind k window =
    map (λ x. x.handle) (with_handles (first_handles k two.references (fresh_memory 1024 window)) two).references

before-the-first : (window : Site) → stopped_behind 0 window ≡ None ∷ None ∷ []
before-the-first window = refl

before-the-second : (window : Site) → stopped_behind 1 window ≡ Some 0 ∷ None ∷ []
before-the-second window = refl

not-stopped : (window : Site) → stopped_behind 2 window ≡ Some 0 ∷ Some 1 ∷ []
not-stopped window = refl
