use Rattle.desk.proofs.Cited.{sym, ap, ◌∙◌, Some, refl, subst, IfSome, IsOutside}
use Rattle.desk.proofs.Holding.{contains-opened, closed-opened}
use Rattle.desk.proofs.Changes.{granted-some}
use Rattle.desk.proofs.desk.open_zone.Goals as goal

pub give_back-requires : goal.give_back-requires
give_back-requires g c =
    contains-opened (Some c.in-Ok.window) c.in-Ok.window c.args.grants.now.windows c.grant.new.self.windows refl c.in-Ok.ensures.granted

pub returns-in-Err-clause-err : goal.returns-in-Err-clause-err
returns-in-Err-clause-err g c =
    closed-opened (Some c.in-Ok.window) c.in-Ok.window c.args.grants.now.windows c.grant.new.self.windows
    c.give_back.new.self.windows refl c.in-Ok.ensures.zone.2 c.in-Ok.ensures.granted c.give_back.ensures.windows

pub returns-in-Err-clause-same : goal.returns-in-Err-clause-same
returns-in-Err-clause-same g c =
    ap g.Z.ZoneMaker.windows c.in-Err.ensures.err ∙ c.requires.same ∙ sym (
    closed-opened (Some c.in-Ok.window) c.in-Ok.window c.args.grants.now.windows c.grant.new.self.windows
    c.give_back.new.self.windows refl c.in-Ok.ensures.zone.2 c.in-Ok.ensures.granted c.give_back.ensures.windows)

-- the window that is opened is the one that is granted
pub returns-in-Err-clause-outside : goal.returns-in-Err-clause-outside
returns-in-Err-clause-outside g c = λ place f.
    c.open.ensures.outside place
    (subst (λ o. IfSome o (λ v. IsOutside place v))
    (granted-some c.grant.result _ _ c.in-Ok.window c.grant.ensures.answer c.in-Ok.is) f)
