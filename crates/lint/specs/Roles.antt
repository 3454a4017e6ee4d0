use Rattle.script_text.specs.Argument.{Kind, Label, Size, Id, Byte, ResType, Bytes, File, Text, Switch, Target}
use Rattle.script_text.specs.Argument.{Replacement, Path}
use Rattle.lint.specs.declared.role.Role.{Role}
use Rattle.lint.specs.declared.role.Role.TheVariants as role

-- The kind of an argument by what it stands for.
abbrev pub kind : Role → Kind
kind role.Handle = Label
kind role.Source = Label
kind role.Target = Label
kind role.Pointer = Label
kind role.Variable = Label
kind role.From = Label
kind role.Into = Label
kind role.GrowZone = Label
kind role.Size = Size
kind role.Offset = Size
kind role.Count = Size
kind role.Place = Size
kind role.Number = Size
kind role.Id = Id
kind role.Byte = Byte
kind role.Type = ResType
kind role.Bytes = Bytes
kind role.Old = Target
kind role.New = Replacement
kind role.File = File
kind role.Text = Text
kind role.Switch = Switch
kind role.Application = Label
kind role.Memory = Size
kind role.System = Path
kind role.Fork = Path
kind role.Script = Path
