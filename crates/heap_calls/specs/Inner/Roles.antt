use Rattle.std.specs.Prelude.{Bool, true, false, Result, Ok, Err}
use Rattle.mac_words.specs.declared.code.OsErr.{OsErr}
use Rattle.heap_calls.specs.State.{Role, Plain, Resource, SystemResource}
use Rattle.heap_calls.specs.Answer.{Known}

-- The role of a handle that was looked up.

-- Whether a role is a System resource's.
abbrev pub is_guarded_role : Role → Bool
is_guarded_role Plain = false
is_guarded_role Resource = false
is_guarded_role SystemResource = true

-- Whether a handle that was looked up is a System resource's.
abbrev pub is_system : Result Known OsErr → Bool
is_system (Err code) = false
is_system (Ok k) = is_guarded_role k.role
