use Rattle.res_calls.proofs.Cited.{◌≡◌, ℕ, ◌<◌, List, [], ◌∷◌, if◌then◌else◌, option_to_list, flat_map, Role, State, resource_role_at}
use Rattle.res_calls.proofs.Cited.{Reference, has_handle, OpenFile, Managers, role_in}

-- The owners of a handle: that it has its own is said by their list.

-- the owners among references, in order, each by the role that it gives the handle
abbrev pub owner : ℕ → Role → Reference → List Role
owner h role x = if has_handle h x then role ∷ [] else []

abbrev pub owners_in : ℕ → OpenFile → List Role
owners_in h f = flat_map (owner h (role_in f)) f.map.references

abbrev pub owners : ℕ → List OpenFile → List Role
owners h chain = flat_map (owners_in h) chain

-- a resource's handle has one, which gives it its role; what is no resource's handle has none
abbrev pub OneOwnerEach : List OpenFile → State → Type 0
OneOwnerEach chain heap = (h : ℕ) → owners h chain ≡ option_to_list (resource_role_at h heap)

-- so it is in the managers; and no file that is opened gets the number of the System's
pub record OneOwner (s : Managers) : Type 0 where
  pub one : OneOwnerEach s.resources.chain s.memory.heap
  pub numbered : 0 < s.resources.next
