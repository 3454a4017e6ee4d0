use Rattle.std.specs.Prelude.{ℕ, List}
use Rattle.script_text.specs.Script.{ScriptParts}
use Rattle.res_calls.specs.Files.{Resources}
use Rattle.zone_replay.specs.Behind.{zone_behind}
use Rattle.zone_replay.specs.Drawn.{moments_svg}
use Rattle.zone_replay.specs.declared.sight.Sight.{Sight}
use Rattle.zone_replay.specs.declared.sight.Sight.TheVariants as sight

-- What is shown of an application with these resources, in a fresh partition of `size` bytes, whose script has this
-- text.
abbrev pub sight_text : Sight → Resources → ℕ → ScriptParts → List ℕ → List ℕ
sight_text (sight.Zone n form) resources size script text = zone_behind form resources size script n
sight_text (sight.Moments from to strips) resources size script text = moments_svg strips resources size script text from to
