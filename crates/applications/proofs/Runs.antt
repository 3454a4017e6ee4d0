use Rattle.applications.proofs.Cited.{ℕ, List, take, ScriptParts, Line, Resources, KeepsPromises}
use Rattle.applications.proofs.AnyRuns.{any_launch_holds, any_goes_by_rule, any_linked, any_shows_put, any_holds_put}
use Rattle.applications.proofs.AnyRuns.{any_locked_stays, any_nonrelocatable_stays, any_only_purgeable_go, any_searches_few}
use Rattle.applications.proofs.AnyRuns.{any_refused_leave, any_refused_cost, any_resources_stay, any_files_stay, any_table_stays}
use Rattle.applications.proofs.AnyRuns.{any_nothing_stays_busy, any_refused_bind, any_locked_lines, any_nonrelocatable_lines}

-- The laws of any lines, of the first steps of a script.

pub keeps_promises : (given : Resources) (size : ℕ) (script : ScriptParts) (n : ℕ) → KeepsPromises given size script n
keeps_promises given size script n =
    let lines : List Line = take n script.steps in
    record {
      launched = any_launch_holds given size;
      rule = any_goes_by_rule given size script.blocks lines;
      linked = any_linked given size script.blocks lines;
      shown = any_shows_put given size script.blocks lines;
      held = any_holds_put given size script.blocks lines;
      locked = any_locked_stays given size script.blocks lines;
      locked_lines = any_locked_lines given size script.blocks lines;
      nonrelocatable = any_nonrelocatable_stays given size script.blocks lines;
      nonrelocatable_lines = any_nonrelocatable_lines given size script.blocks lines;
      purged = any_only_purgeable_go given size script.blocks lines;
      searches = any_searches_few given size script.blocks lines;
      refused = any_refused_leave given size script.blocks lines;
      costs = any_refused_cost given size script.blocks lines;
      resources = any_resources_stay given size script.blocks lines;
      files = any_files_stay given size script.blocks lines;
      table = any_table_stays given size script.blocks lines;
      idle = any_nothing_stays_busy given size script.blocks lines;
      bound = any_refused_bind given size script.blocks lines;
    }
