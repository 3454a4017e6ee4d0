use Rattle.res_calls.proofs.Cited.{◌≡◌, ℕ, ◌+◌, Bool, true, false, not, ◌==◌, List, ap, map, subst, Ok, or_left, eq-eqb, and_assoc, filter}
use Rattle.res_calls.proofs.Cited.{list_all, has_bit, CHANGED, Ref, Group, distinct, joined, number, ref_places, ref_at, group_at}
use Rattle.res_calls.proofs.Cited.{type_places, map_kept, map_start, content_of, Map, map_of, of_group, of_groups, read_reference, map_in}
use Rattle.res_calls.proofs.Cited.{keeps_handle}
use Rattle.fork_format.specs.Content.{is_of}
use Rattle.res_calls.proofs.OpeningForks.{read_is}
use Rattle.res_calls.proofs.Soundness.Lists.{all-filter, all-flat, all-implied, all-made, all-mapped}
use Rattle.res_calls.proofs.Soundness.References.{changed-clear}

-- What is read from a fork: no reference is changed, and the map's attributes are as a fork gives them.

-- a resource as it is stored, without resChanged; and those of a type
abbrev is_clear : Ref → Bool
is_clear r = not (has_bit CHANGED r.attrs)

abbrev are_clear : Group → Bool
are_clear g = list_all is_clear g.refs

places-clear : (bytes places : List ℕ) → list_all are_clear (map (group_at bytes) places) ≡ true
places-clear bytes places =
    all-made are_clear (group_at bytes) places
    (λ at. all-made is_clear (ref_at bytes) (ref_places at bytes)
    (λ ref. ap not (changed-clear (number 1 (ref + 4) bytes))))

joined-clear : (groups : List Group) → list_all are_clear groups ≡ true → list_all are_clear (joined groups) ≡ true
joined-clear groups e =
    all-made are_clear _ (distinct (map (λ g. g.kind) groups))
    (λ kind. all-flat is_clear (λ g. g.refs) (filter (is_of kind) groups)
    (all-filter are_clear (is_of kind) groups e))

groups-keep : (groups : List Group) → list_all are_clear groups ≡ true
    → list_all keeps_handle (of_groups groups) ≡ true
groups-keep groups e =
    all-flat keeps_handle of_group groups
    (all-implied (λ g. list_all keeps_handle (of_group g)) are_clear groups
    (λ g clear. all-mapped keeps_handle is_clear (read_reference g.kind) g.refs
    (λ r is. or_left (is_clear r) false is) clear) e)

pub record Fresh (m : Map) : Type 0 where
  pub references : list_all keeps_handle m.references ≡ true
  pub attrs : (map_kept m.attrs == m.attrs) ≡ true

read-fresh : (fork : List ℕ) → Fresh (map_of (content_of fork))
read-fresh fork = record {
  references = groups-keep (joined (map (group_at fork) (type_places fork)))
      (joined-clear (map (group_at fork) (type_places fork)) (places-clear fork (type_places fork)));
  attrs = let attrs : ℕ = number 2 (map_start fork + 22) fork in
      eq-eqb (map_kept (map_kept attrs)) (map_kept attrs) (and_assoc 65439 attrs 65439);
}

-- as its file is opened
pub map-fresh : (fork : List ℕ) (read : Map) → map_in fork ≡ Ok read → Fresh read
map-fresh fork read e = subst Fresh (read_is fork read e) (read-fresh fork)
