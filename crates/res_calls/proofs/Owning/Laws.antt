use Rattle.res_calls.proofs.Cited.{◌≡◌, ℕ, List, [], ◌∷◌, refl, subst, None, Result, Ok, Err, OsErr}
use Rattle.res_calls.proofs.Cited.{Content, Memory, Asked, resource_role_at, Map, map_of, File, Resources}
use Rattle.res_calls.proofs.Cited.{fresh_resources, Managers, map_in, own_opened, launched_resources, preloaded}
use Rattle.res_calls.proofs.Cited.{ResourceAsked, served, Owns}
use Rattle.heap_calls.specs.Table as heap
use Rattle.res_calls.proofs.Owning.Changes.{one-owner-heap}
use Rattle.res_calls.proofs.Owning.Openings.{Bare, bare-groups}
use Rattle.res_calls.proofs.Owning.Calls.{map-bare, one-owner-served, one-owner-fresh, one-owner-preloaded}
use Rattle.res_calls.proofs.Owning.Facts.{owns-one, one-owns}

-- Each resource has its own handle, from an application's launch on and after each call.

-- a call of the Memory Manager, and one of the Resource Manager
pub owns-heap : (a : Asked) (s : Managers) → Owns s → Owns (record s { memory = (heap.served a s.memory).1 })
owns-heap a s owns =
    owns-one (record s { memory = (heap.served a s.memory).1 }) (one-owner-heap a s (one-owns s owns))

pub owns-served : (a : ResourceAsked) (s : Managers) → Owns s → Owns (served a s).after
owns-served a s owns = owns-one (served a s).after (one-owner-served a s (one-owns s owns))

-- a heap without a resource's handle, and files that were just opened
pub owns-fresh : (files : List File) (own system : Map) (m : Memory) → Bare own.references → Bare system.references
    → ((h : ℕ) → resource_role_at h m.heap ≡ None)
    → Owns (record { memory = m; resources = fresh_resources files own system })
owns-fresh files own system m bare plain none =
    owns-one (record { memory = m; resources = fresh_resources files own system })
    (one-owner-fresh files own system m bare plain none)

-- and with those of the application's resources that are read at once
pub owns-preloaded : (files : List File) (own system : Map) (m : Memory) → Bare own.references
    → Bare system.references → ((h : ℕ) → resource_role_at h m.heap ≡ None)
    → Owns (preloaded (record { memory = m; resources = fresh_resources files own system })).0
owns-preloaded files own system m bare plain none =
    owns-one (preloaded (record { memory = m; resources = fresh_resources files own system })).0
    (one-owner-preloaded files own system m bare plain none)

-- so it is as an application is launched, before its resources are read and after
pub launched-by : (P : Resources → Type 0) (files : List File) (system : Content) (r : Resources)
    → ((own : Map) → Bare own.references → P (fresh_resources files own (map_of system)))
    → launched_resources files system ≡ Ok r → P r
launched-by P [] system r each e = cc
launched-by P (f ∷ files) system r each e = by_map (map_in f.fork) (map-bare f.fork) e
  where
    by_map : (o : Result Map OsErr) → ((read : Map) → o ≡ Ok read → Bare read.references)
        → own_opened (f ∷ files) o system ≡ Ok r → P r
    by_map (Err code) bare e = cc
    by_map (Ok own) bare e =
        let same : fresh_resources (f ∷ files) own (map_of system) ≡ r = cc in
        subst P same (each own (bare own refl))

pub owns-launched : (files : List File) (system : Content) (r : Resources) (m : Memory)
    → launched_resources files system ≡ Ok r → ((h : ℕ) → resource_role_at h m.heap ≡ None)
    → Owns (record { memory = m; resources = r }) × Owns (preloaded (record { memory = m; resources = r })).0
owns-launched files system r m e none =
    launched-by (λ x. Owns (record { memory = m; resources = x })
    × Owns (preloaded (record { memory = m; resources = x })).0) files system r
    (λ own bare. (
      owns-fresh files own (map_of system) m bare (bare-groups system.groups) none,
      owns-preloaded files own (map_of system) m bare (bare-groups system.groups) none,
    )) e
