use Rattle.std.specs.Prelude.{ℕ, ◌+◌, ◌-◌, ◌==◌, nat_lt, nat_le, Option, Some, None, List, [], ◌∷◌, ◌++◌, length, take}
use Rattle.std.specs.Prelude.{if◌then◌else◌}
use Rattle.script_text.specs.Script.{ScriptParts}
use Rattle.script_text.specs.Transcript.{launch_line}
use Rattle.script_text.specs.declared.script.Line.{Line}
use Rattle.res_calls.specs.Files.{Resources}
use Rattle.applications.specs.Alone.{first_steps}
use Rattle.applications.specs.Application.{lines_told}
use Rattle.zone_replay.specs.Shown.{zone_shown}
use Rattle.zone_replay.specs.declared.form.Form.{Form}

-- The zone of an application as it lies after a line of its script.

-- The first words of the last line of a text, with the blanks between them, where `words` are those of the line so far,
-- and `left` is how many are still to come, the one that is being read among them.
abbrev pub left_behind : ℕ → ℕ → ℕ
left_behind byte left = if byte == 32 then left - 1 else left

abbrev pub with_byte : ℕ → ℕ → List ℕ → List ℕ
with_byte byte left words = if nat_lt 0 left then words ++ byte ∷ [] else words

abbrev pub last_words : List ℕ → ℕ → List ℕ → List ℕ
last_words words left [] = words
last_words words left (b ∷ more) =
    if b == 10 then last_words [] 3 more
    else last_words (with_byte b (left_behind b left) words) (left_behind b left) more

-- The step after which a zone is shown: the first three words of the last line of a transcript, which ends with LF. They
-- are the number of the line, the call and its result code; before the first step, the launch, 0 and the zone's size.
abbrev pub step_told : List ℕ → List ℕ
step_told transcript = last_words [] 3 (take (length transcript - 1) transcript)

-- How many of the steps stand on a line up to the n-th.
abbrev pub steps_to : ℕ → List Line → ℕ
steps_to n [] = 0
steps_to n (l ∷ lines) = (if nat_le l.number n then 1 else 0) + steps_to n lines

-- How many steps are taken up to a line, or where none is given, in all.
abbrev pub steps_at : Option ℕ → List Line → ℕ
steps_at None lines = length lines
steps_at (Some n) lines = steps_to n lines

-- The transcript of the first `n` steps, the line of the launch first.
abbrev pub told : Resources → ℕ → ScriptParts → ℕ → List ℕ
told resources size script n = launch_line size ++ lines_told (first_steps resources size script n).lines

-- The zone of an application with these resources, in a fresh partition of `size` bytes, after the first `n` steps of a
-- script; or after its last step, if it ended before.
abbrev pub zone_behind : Form → Resources → ℕ → ScriptParts → ℕ → List ℕ
zone_behind form resources size script n =
    zone_shown form (first_steps resources size script n).after (step_told (told resources size script n))
