use Rattle.fork_rules.proofs.Cited.{◌≡◌, ◌∙◌, ap, subst, true, arith, canon, fits, Content, IsContent, view, differences}
use Rattle.fork_rules.proofs.Alike.{exactly}
use Rattle.fork_rules.proofs.Bounds.{AreBytes, spelled_content}
use Rattle.fork_rules.proofs.Following.{follow}
use Rattle.fork_rules.proofs.comparing.differences_from_canonical.Goals as goal

pub returns-clause-differences : goal.returns-clause-differences
returns-clause-differences c = c.in_ok-regions.ensures
    ∙ ap (differences c.args.bytes.now) (c.as_slice.ensures.value ∙ c.in_ok-fork.ensures.fork)

pub returns-clause-canonical : goal.returns-clause-canonical
returns-clause-canonical c =
    let v : Content = view c.args.content.now in
    let are : AreBytes c.args.bytes.now = λ k. let byte = c.type_inv.bytes k in omega (arith, byte) in
    let is : IsContent v = subst IsContent c.requires.content (spelled_content c.args.bytes.now are) in
    let low : fits v ≡ true = c.in_ok-fork.ensures.fits in
    exactly c.args.bytes.now (canon v) _ c.in_ok-regions.regions.items (follow v is low) (c.in_ok-regions.ensures
    ∙ ap (differences c.args.bytes.now) (c.as_slice.ensures.value ∙ c.in_ok-fork.ensures.fork))
