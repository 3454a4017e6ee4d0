use Rattle.raw_region.proofs.Cited.{◌≡◌, ℕ, ◌+◌, List, ◌++◌, length, drop, refl, ap, ◌∙◌, position_or_len, subst, InOrder, bytes_of}
use Rattle.raw_region.proofs.Cited.{windows_of}
use Rattle.raw_region.proofs.Cited.{gap_is, asleep, IsRegion, Inside, Gap}
use Rattle.raw_region.proofs.Waking.{whole_order}
use Rattle.raw_region.proofs.Cutting.{none}
use Rattle.raw_region.proofs.Joining.{Joins, joins}
use Rattle.raw_region.proofs.region.Region.join.Goals.{After-index_of-i, After-shut}
use Rattle.raw_region.proofs.region.Region.join.Goals as goal

counts : (l : List Gap) (n at len at' len' : ℕ) → n ≡ 1 + position_or_len (gap_is at len) (drop 1 l) → at ≡ at'
    → len ≡ len' → n ≡ 1 + position_or_len (gap_is at' len') (drop 1 l)
counts l n at len at' len' e p q = e ∙ (λ j. 1 + position_or_len (gap_is (p j) (q j)) (drop 1 l))

facts : (c : After-index_of-i) → Joins c.self.inside c.args.self.now c.args.part c.vacate-run.result c.index_of-i.result
facts c =
    let seen = c.part.view_is in
    let at : c.part.inside.at ≡ c.args.part.at = ap (λ z. z.at) seen in
    let len : c.len-len.result ≡ length c.args.part.bytes =
    c.len-len.ensures ∙ c.part.inside.bytes.ok.0 ∙ ap (λ z. length z.bytes) seen in
    joins c.self.inside c.self.invariant c.args.self.now c.self.view_is c.args.part c.requires.of_this c.requires.out
    c.vacate-run.result (c.vacate-run.ensures.home ∙ ap (λ z. z.home) seen) (c.vacate-run.ensures.place ∙ at)
    (c.vacate-run.ensures.bytes ∙ ap (λ z. z.bytes) seen) c.as_slice.result.now c.as_slice.ensures.value
    c.index_of-i.result
    (counts c.as_slice.result.now c.index_of-i.result c.part.inside.at c.len-len.result c.args.part.at
    (length c.args.part.bytes) c.index_of-i.ensures at len)

-- the region once the part is joined
abbrev left : After-shut → Inside
left c = record {
  frame = c.self.inside.frame;
  home = c.self.inside.home;
  gaps = c.shut.new.gaps;
  len = c.self.inside.len;
  used = c.self.inside.used;
}

region_is : (c : After-shut) → IsRegion (left c)
region_is c = (facts c.before.before).region (left c) refl refl refl refl (c.shut.ensures.items none)
    c.shut.ensures.capacity

pub shut-requires-clause-not_start : goal.shut-requires-clause-not_start
shut-requires-clause-not_start c = (facts (goal.at.shut-requires-clause-not_start c).After-index_of-i).not_start

pub shut-requires-clause-there : goal.shut-requires-clause-there
shut-requires-clause-there c = (facts (goal.at.shut-requires-clause-there c).After-index_of-i).there

pub shut-requires-clause-beside : goal.shut-requires-clause-beside
shut-requires-clause-beside c = (facts (goal.at.shut-requires-clause-beside c).After-index_of-i).beside

pub invariant_of-self : goal.invariant_of-self
invariant_of-self c = region_is (goal.at.invariant_of-self c).After-shut

pub returns-clause-bytes : goal.returns-clause-bytes
returns-clause-bytes c =
    ap (λ gs. bytes_of gs ++ asleep c.self.inside) (c.shut.ensures.items none)
    ∙ (facts (goal.at.returns-clause-bytes c).After-index_of-i).bytes

pub returns-clause-out : goal.returns-clause-out
returns-clause-out c =
    ap windows_of (c.shut.ensures.items none) ∙ (facts (goal.at.returns-clause-out c).After-index_of-i).out

pub returns-clause-same_length : goal.returns-clause-same_length
returns-clause-same_length c =
    ap (λ gs. length (bytes_of gs ++ asleep c.self.inside)) (c.shut.ensures.items none)
    ∙ (facts (goal.at.returns-clause-same_length c).After-index_of-i).long

pub returns-clause-in_order : goal.returns-clause-in_order
returns-clause-in_order c =
    let new = region_is (goal.at.returns-clause-in_order c).After-shut in
    whole_order c.self.inside.home c.shut.new.gaps.items (asleep c.self.inside) new.laid new.first

pub returns-clause-was_in_order : goal.returns-clause-was_in_order
returns-clause-was_in_order c = subst (λ w. InOrder 0 w.out (length w.bytes)) c.self.view_is
    (whole_order c.self.inside.home c.self.inside.gaps.items (asleep c.self.inside) c.self.invariant.laid c.self.invariant.first)
