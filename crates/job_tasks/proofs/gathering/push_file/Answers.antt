use Rattle.job_tasks.proofs.Cited.{◌≡◌, ◌∷◌, ◌++◌, [], map, refl, ap, arith, common_steps, name_of, file_given, app_given, spelled}
use Rattle.job_tasks.proofs.Owners.{map_kept, put_file}
use Rattle.job_tasks.proofs.gathering.push_file.Goals as goal

pub returns-in_err-push-clause-names : goal.returns-in_err-push-clause-names
returns-in_err-push-clause-names c =
    map_kept name_of c.args.apps.now.items c.args.i c.index_mut.result.now _ c.index_mut.ensures.value refl

pub returns-clause-names : goal.returns-clause-names
returns-clause-names c =
    map_kept name_of c.args.apps.now.items c.args.i c.index_mut.result.now _ c.index_mut.ensures.value refl

pub returns-clause-file : goal.returns-clause-file
returns-clause-file c =
    let x = c.index_mut.result.now in
    let more : map file_given c.push.new.self.items ≡ map file_given x.files.items ++ file_given c.args.file ∷ [] =
    grind (arith, common_steps) in
    put_file app_given c.args.apps.now.items c.args.i x _ _ c.index_mut.ensures.value
    (ap (λ files. record {
      name = x.name.0.items;
      fork = x.fork.items;
      files = files;
      size = x.size;
      script = spelled x.script;
    }) more)
