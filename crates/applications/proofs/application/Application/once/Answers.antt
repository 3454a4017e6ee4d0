use Rattle.applications.proofs.Cited.{◌≡◌, false, subst, Call, deed_of, writes_files}
use Rattle.mac_words.specs.declared.call.Call.TheVariants as call
use Rattle.applications.proofs.Filing.{either_keeps, try_keeps}
use Rattle.applications.proofs.application.Application.once.Goals as goal

pub returns-in-Resource-clause-files : goal.returns-in-Resource-clause-files
returns-in-Resource-clause-files g c = λ quiet.
    either_keeps c.find.result c.find.new.self _ _ c.find.ensures.after c.find.ensures.files
    (try_keeps c.args.script.now.blocks (call.Resource c.in-Resource.call) c.args.self.now
    (subst (λ (k : Call). writes_files (deed_of k c.args.self.now.names) ≡ false) c.in-Resource.is quiet))

pub returns-in-Segment-clause-files : goal.returns-in-Segment-clause-files
returns-in-Segment-clause-files g c = λ quiet.
    either_keeps c.jump.result c.jump.new.self _ _ c.jump.ensures.after c.jump.ensures.files
    (try_keeps c.args.script.now.blocks (call.Segment c.in-Segment.call) c.args.self.now
    (subst (λ (k : Call). writes_files (deed_of k c.args.self.now.names) ≡ false) c.in-Segment.is quiet))
