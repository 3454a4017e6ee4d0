use Rattle.zone_bytes.proofs.Cited.{◌≡◌, ℕ, ◌+◌, ◌<◌, ◌≤◌, Bool, true, false, List, length, Some, None, nat_lt, refl, subst, arith}
use Rattle.zone_bytes.proofs.Cited.{nat_tests, Tells, IsOnWay, left_in}
use Rattle.zone_bytes.proofs.Places.Stepped.{stepped-read, tells-step, tells-none, may-read}
use Rattle.zone_bytes.proofs.raw_walk.RawWalkWalk.next_block.Goals as goal

-- where no header is left, no block begins
ended : (at : ℕ) (xs : List ℕ) → IsOnWay at xs → length xs < at + 16 → length xs ≤ at
ended at xs w short = cases (nat_lt at (length xs)) refl
  where
    cases : (t : Bool) → nat_lt at (length xs) ≡ t → length xs ≤ at
    cases true e = absurd (let m = may-read at xs w (grind (arith, nat_tests, e)) in omega (arith, m, short))
    cases false e = grind (arith, nat_tests, e)

pub returns-then-self-len : goal.returns-then-self-len
returns-then-self-len c = subst (λ v. Tells v None v) c.self.view_is
    (tells-none _ _ c.self.invariant (ended _ _ c.self.invariant (omega arith)))

pub read_header-header-requires : goal.read_header-header-requires
read_header-header-requires c = may-read _ _ c.self.invariant (omega arith)

pub overflow_add-self : goal.overflow_add-self
overflow_add-self c =
    let s = stepped-read _ _ c.self.invariant (omega arith) _ c.read_header-header.ensures in
    omega arith

pub invariant_of-self : goal.invariant_of-self
invariant_of-self c = (stepped-read _ _ c.self.invariant (omega arith) _ c.read_header-header.ensures).way

pub returns : goal.returns
returns c = subst (λ v. Tells v (Some c.seen_of.result) (left_in (c.self.inside.at + c.read_header-header.result.size)
    c.self.inside.part.now.bytes)) c.self.view_is
    (tells-step _ _ c.self.invariant (omega arith) _ c.read_header-header.ensures _ c.seen_of.ensures)
