use Rattle.real_zone.proofs.Cited.{◌≡◌, ℕ, ◌-◌, ◌≤◌, length, get, option_or, nat_cmp, passed_from, first_found, named_in_block, resource_of}
use Rattle.real_zone.proofs.resources.resources_in.Given as goal

-- what was entered, before the blocks that are left, is what all blocks name
abbrev pub invariant-loop-at : goal.invariant-loop-at
invariant-loop-at l = record {
  inside : l.at ≤ length l.bytes;
  entered : (handle : ℕ) → option_or (get nat_cmp l.resources handle)
      (first_found (named_in_block l.form l.bytes handle) (passed_from l.form l.bytes l.at))
      ≡ resource_of l.form l.bytes handle;
}

abbrev pub decreases-loop-at : goal.decreases-loop-at
decreases-loop-at l = length l.bytes - l.at
