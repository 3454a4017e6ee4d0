use Rattle.std.specs.Prelude.{ℕ, ◌+◌, Option, Some, None, Result, Ok, Err, List, [], ◌∷◌}
use Rattle.script_text.specs.declared.fault.FaultKind.{FaultKind}
use Rattle.script_text.specs.declared.fault.FaultKind.TheVariants as kinds
use Rattle.script_text.specs.Argument.{Value, argument}
use Rattle.lint.specs.Roles.{kind}
use Rattle.lint.specs.declared.role.Role.{Role}
use Rattle.lint.specs.declared.wrong.Wrong.{Wrong}
use Rattle.lint.specs.declared.wrong.Wrong.TheVariants as wrong

-- The fault of what is wrong.
abbrev pub kind_of : Wrong → FaultKind
kind_of (wrong.UnknownCall word) = kinds.UnknownCall
kind_of wrong.EndOutside = kinds.UnknownCall
kind_of (wrong.NotAllowed word) = kinds.NotAllowed
kind_of (wrong.LongLine length) = kinds.LongLine
kind_of (wrong.Argument form number role found) = kinds.BadArgument
kind_of (wrong.Extra form found) = kinds.BadArgument
kind_of (wrong.TakenName name) = kinds.BadArgument
kind_of wrong.NamedNone = kinds.BadArgument
kind_of (wrong.NoEnd name) = kinds.BadArgument
kind_of (wrong.NoGrowZone name) = kinds.BadArgument
kind_of (wrong.UnknownWord word) = kinds.UnknownCall
kind_of (wrong.BeforeMemory word) = kinds.BadArgument
kind_of wrong.SecondMemory = kinds.BadArgument
kind_of (wrong.MemorySize size) = kinds.BadArgument
kind_of wrong.SecondSystem = kinds.BadArgument
kind_of (wrong.AfterEvent word) = kinds.BadArgument
kind_of (wrong.TakenApplication name) = kinds.BadArgument
kind_of wrong.ManyApplications = kinds.BadArgument
kind_of (wrong.NoApplication name) = kinds.BadArgument
kind_of (wrong.TakenFile name) = kinds.BadArgument
kind_of wrong.ManyFiles = kinds.BadArgument
kind_of wrong.NoMemory = kinds.BadArgument

-- The text after an argument that was read.
abbrev pub rest_after : Result (Value × List ℕ) FaultKind → Option (List ℕ)
rest_after (Ok read) = Some read.1
rest_after (Err kind) = None

-- What is found in the text after an argument; or that the argument is wrong.
abbrev pub unless_wrong : {A : Type 0} → A → (List ℕ → Option A) → Option (List ℕ) → Option A
unless_wrong wrong go_on None = Some wrong
unless_wrong wrong go_on (Some rest) = go_on rest

-- The first of the arguments, numbered from n on, that is missing in a text, or is not written as one that stands for
-- this: its number, and what it stands for. There is none where a text begins with all of them.
abbrev pub first_wrong : ℕ → List Role → List ℕ → Option (ℕ × Role)
first_wrong n [] text = None
first_wrong n (role ∷ more) text =
    unless_wrong (n, role) (first_wrong (n + 1) more) (rest_after (argument (kind role) text))

-- The argument that is said to be wrong: its number, and what it stands for. There is none where something else is said.
abbrev pub argument_of : Wrong → Option (ℕ × Role)
argument_of (wrong.Argument form number role found) = Some (number, role)
argument_of _ = None
