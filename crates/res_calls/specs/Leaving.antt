use Rattle.std.specs.Prelude.{◌≡◌, ℕ, zero, suc, pos, not, Bool, true, false, Option, Some, None, List, [], ◌∷◌}
use Rattle.std.specs.Prelude.{if◌then◌else◌}
use Rattle.std.specs.Ordering.{int_eq}
use Rattle.mac_words.specs.declared.code.OsErr.{OsErr}
use Rattle.mac_words.specs.declared.code.TheConstants.OsErr.{NO_ERR, DISK_FULL}
use Rattle.res_map.specs.Split.{Split}
use Rattle.res_calls.specs.Changing.{with_files}
use Rattle.res_calls.specs.Files.{OpenFile, Resources}
use Rattle.res_calls.specs.Fetch.{Managers, is_system}
use Rattle.res_calls.specs.Rows.{closed_file}
use Rattle.res_calls.specs.Update.{update}

-- The quit of an application: its open files are updated and closed, the file opened last first; the System file stays
-- open. More Macintosh Toolbox, chapter 1, "Closing Resource Forks"; Inside Macintosh: Processes, chapter 2,
-- "Terminating a Process".

-- The code of an update, and the resources after the update. Where the content does not fit the format, the code is -34
-- (dskFulErr) and the resources stay as they were.
abbrev pub update_code : Option Resources → OsErr
update_code None = DISK_FULL
update_code (Some r) = NO_ERR

abbrev pub updated_or : Option Resources → Resources → Resources
updated_or None r = r
updated_or (Some r') r = r'

-- The managers after an open file is updated and closed. Where the content does not fit the format, the fork stays as
-- it is, and the file is closed all the same.
abbrev pub left_file : Split OpenFile → Managers → Managers
left_file at s = closed_file at (updated_or (update s.memory.heap at s.resources) s.resources) s

-- The first of two codes that is not 0, or 0.
abbrev pub first_code : OsErr → OsErr → OsErr
first_code first later = if int_eq first.0 (pos 0) then later else first

-- The file opened last, followed by the files opened before it.
abbrev pub last_opened : OpenFile → List OpenFile → Split OpenFile
last_opened f older = record { before = []; here = f; after = older }

-- The result of updating and closing open files in order, up to the System file: the first code that is not 0, and the
-- managers after.
-- See decision 81 (a quit closes the files in the reverse order of their opening).
pub record FilesClosed : Type 0 where
  pub code : OsErr
  pub after : Managers

abbrev pub leave_files : List OpenFile → Managers → FilesClosed
leave_files [] s = record { code = NO_ERR; after = s }
leave_files (f ∷ older) s = if is_system f then record { code = NO_ERR; after = s }
    else left_first (update_code (update s.memory.heap (last_opened f older) s.resources))
    (leave_files older (left_file (last_opened f older) s))
  where
    left_first : OsErr → FilesClosed → FilesClosed
    left_first code rest = record { code = first_code code rest.code; after = rest.after }

abbrev pub leave : Managers → FilesClosed
leave s = leave_files s.resources.chain s

-- Holds where a file other than the System file is open: the file opened last is not the System file.
abbrev pub has_own : List OpenFile → Bool
has_own [] = false
has_own (f ∷ older) = not (is_system f)

-- The managers after the file opened last is updated and closed.
abbrev pub left_one_of : List OpenFile → Managers → Managers
left_one_of [] s = s
left_one_of (f ∷ older) s = left_file (last_opened f older) s

abbrev pub left_one : Managers → Managers
left_one s = left_one_of s.resources.chain s

-- The managers after the k files that were opened last are updated and closed, one after another.
abbrev pub left_after : ℕ → Managers → Managers
left_after zero s = s
left_after (suc k) s = left_one (left_after k s)

-- A quit in whose midst the host was out of memory: the k files that were opened last are updated and closed, as in the
-- quit, and no more are, though another was to be closed; but all files have the forks that they had before the quit.
pub record StopsLeaving (old new : Managers) : Type 0 where
  pub k : ℕ
  pub more : has_own (left_after k old).resources.chain ≡ true
  pub left : new ≡ with_files old.resources.files (left_after k old)
