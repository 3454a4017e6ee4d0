-- The fields of a `Region`, and what holds of them.
use Rattle.std.specs.Prelude.{◌≡◌, ℕ, ◌≤◌, ◌+◌, ◌-◌, List, ◌++◌, length, replicate, vec_capacity}
use denote.RawPtr.{InBlock}
use Rattle.raw_region.specs.Memory.{Whole}
use Rattle.raw_region.specs.Gaps.{bytes_of, windows_of, room_of, IsLaid, IsStart}
use Rattle.raw_region.specs.declared.region.Region.TheInside.{Inside}
use Rattle.raw_region.specs.declared.region.TheConstants.{MOST_BYTES, MOST_OUT}

-- The bytes above the place `used` were never woken: nobody wrote them, and each is 0.
abbrev pub asleep : Inside → List ℕ
asleep r = replicate (r.len - r.used) 0

abbrev pub region_view : Inside → Whole
region_view r = record { home = r.home; bytes = bytes_of r.gaps.items ++ asleep r; out = windows_of r.gaps.items }

-- The entries fill the allocation up to the place `used`, and the room after the last of them is the rest of it. The list
-- has room for the greatest number of windows in use.
pub record IsRegion (r : Inside) : Type 0 where
  pub start : r.frame.ptr ≡ r.home
  pub placed : InBlock r.home
  pub whole : length (bytes_of r.gaps.items) ≡ r.used
  pub rest : r.used + room_of r.gaps.items ≡ r.len
  pub long : r.len ≡ r.frame.len
  pub small : r.frame.len ≤ MOST_BYTES
  pub laid : IsLaid r.home 0 r.gaps.items
  pub first : IsStart r.gaps.items
  pub room : MOST_OUT + 1 ≤ vec_capacity r.gaps
