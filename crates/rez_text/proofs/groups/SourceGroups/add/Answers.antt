use Rattle.rez_text.proofs.Cited.{refl, big_number}
use Rattle.rez_text.proofs.Grouping.{put_found}
use Rattle.rez_text.proofs.groups.SourceGroups.add.Goals as goal

pub returns-in_ok-push-in-Some : goal.returns-in_ok-push-in-Some
returns-in_ok-push-in-Some c =
    put_found (big_number 4 c.args.ty.0) c.kind_of.result c.args.resource c.args.self.now.list.items c.in-Some.place
    c.index_mut.result.now (record { ty = c.index_mut.result.now.ty; refs = c.push.new.self }) c.kind_of.ensures
    c.in-Some.ensures c.index_mut.ensures.value refl c.in_ok-push-in-Some.ensures.items
