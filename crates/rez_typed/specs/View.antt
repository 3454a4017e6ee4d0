use Rattle.std.specs.Prelude.{List, map}
use Rattle.rez_types.specs.View.{declaration_of}
use Rattle.rez_typed.specs.declared.form.Form.{Form as HeldForm}
use Rattle.rez_typed.specs.declared.body.Choice.{Choice as HeldChoice}
use Rattle.rez_typed.specs.Forms.{Form, Choice}

-- The forms and the choices of the code.

abbrev pub form_in : HeldForm → Form
form_in f = record { text = f.text.items; declaration = declaration_of f.declaration; tail = f.tail }

abbrev pub forms_in : List HeldForm → List Form
forms_in forms = map form_in forms

abbrev pub choice_in : HeldChoice → Choice
choice_in c = record { place = c.place; text = c.text.items }
