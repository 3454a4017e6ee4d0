use Rattle.std.specs.Prelude.{ℕ, List, take}
use Rattle.zone_replay.specs.declared.form.BlockName.{BlockName}

-- The bytes of a name of a script.
abbrev pub spelled : BlockName → List ℕ
spelled name = take name.length name.bytes
