use Rattle.commands.proofs.Cited.{false, refl, also_ok, Task, message_of, also_err}
use Rattle.job_tasks.specs.declared.tasks.Work.TheVariants as work
use Rattle.commands.proofs.Checked.{file_checked, file_unchecked, folder_checked, folder_unchecked}
use Rattle.commands.proofs.doing.check_one.Goals as goal

-- the lines of the folder were printed
pub returns-then-is_folder-clause-done : goal.returns-then-is_folder-clause-done
returns-then-is_folder-clause-done g c = also_ok _ _ c.print_folder.result
    (λ ending h. folder_checked c.args.path.now ending _ _ _ _ _ _ c.is_folder.ensures.silent c.is_folder.ensures.files h)
    c.print_folder.ensures.done

-- they were not, or not to their end
pub returns-then-is_folder-clause-undone : goal.returns-then-is_folder-clause-undone
returns-then-is_folder-clause-undone g c = also_err _ _ c.print_folder.result
    (λ fault h. folder_unchecked c.args.path.now _ _ _ _ _ _ (message_of fault) c.is_folder.ensures.silent
    c.is_folder.ensures.files h) c.print_folder.ensures.undone

-- the form of the fork was printed
pub returns-clause-done : goal.returns-clause-done
returns-clause-done g c =
    let task : Task = record { work = work.Check; path = c.args.path; watched = false } in
    also_ok _ _ c.look.result (λ ending h. file_checked task ending _ _ _ _ _ _ c.is_folder.ensures.silent
    c.is_folder.ensures.files refl h) c.look.ensures.done

-- it was not printed
pub returns-clause-undone : goal.returns-clause-undone
returns-clause-undone g c =
    let task : Task = record { work = work.Check; path = c.args.path; watched = false } in
    also_err _ _ c.look.result (λ fault h. file_unchecked task _ _ _ _ _ _ (message_of fault)
    c.is_folder.ensures.silent c.is_folder.ensures.files refl h) c.look.ensures.undone
