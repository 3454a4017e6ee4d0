use Rattle.std.specs.Prelude.{List, map}
use Rattle.rez_types.specs.declared.declaration.NamedNumber.{NamedNumber as HeldNumber}
use Rattle.rez_types.specs.declared.declaration.NamedText.{NamedText as HeldText}
use Rattle.rez_types.specs.declared.declaration.Part.{Part as HeldPart}
use Rattle.rez_types.specs.declared.declaration.Part.TheVariants as part
use Rattle.rez_types.specs.declared.declaration.ArrayEnd.{ArrayEnd as HeldEnd}
use Rattle.rez_types.specs.declared.declaration.ArrayEnd.TheVariants as ends
use Rattle.rez_types.specs.declared.declaration.KeyPlace.{KeyPlace as HeldPlace}
use Rattle.rez_types.specs.declared.declaration.Case.{Case as HeldCase}
use Rattle.rez_types.specs.declared.declaration.Field.{Field as HeldField}
use Rattle.rez_types.specs.declared.declaration.Field.TheVariants as field
use Rattle.rez_types.specs.declared.declaration.Block.{Block as HeldBlock}
use Rattle.rez_types.specs.declared.declaration.Declaration.{Declaration as HeldDeclaration}
use Rattle.rez_types.specs.declared.value.Value.{Value as HeldValue}
use Rattle.rez_types.specs.declared.value.Value.TheVariants as held
use Rattle.rez_types.specs.Fields.{NamedNumber, NamedText, Part, Integer, Constant, Count, FillBits}
use Rattle.rez_types.specs.Fields.{ArrayEnd, Fixed, Counted, Before, Resource, KeyPlace, Case}
use Rattle.rez_types.specs.Fields.{Field, Run, Fill, Align, Text, Point, Rect, Array, Switch, Declaration}
use Rattle.rez_types.specs.Values as value
use Rattle.rez_types.specs.Values.{Value}

-- The declarations and the values of the code.

abbrev pub number_of : HeldNumber → NamedNumber
number_of n = record { name = n.name.items; pattern = n.pattern }

abbrev pub text_of : HeldText → NamedText
text_of t = record { name = t.name.items; text = t.text.items }

abbrev pub part_of : HeldPart → Part
part_of (part.Integer i) = Integer i.width.bits i.form (map number_of i.constants.items)
part_of (part.Constant c) = Constant c.width.bits c.pattern c.is_key
part_of (part.Count c) = Count c.width.bits c.is_less_one
part_of (part.Fill w) = FillBits w.bits

abbrev pub end_of : HeldEnd → ArrayEnd
end_of (ends.Fixed n) = Fixed n
end_of (ends.Counted k) = Counted k
end_of (ends.Constant s) = Before s.bytes s.pattern
end_of ends.Resource = Resource

abbrev pub place_of : HeldPlace → KeyPlace
place_of k = record { before = k.before; bytes = k.bytes; below = k.below; width = k.width.bits }

abbrev pub case_of : HeldCase → Case
case_of c = record { name = c.name.items; pattern = c.pattern; block = c.block }

abbrev pub field_of : HeldField → Field
field_of (field.Run r) = Run r.bytes (map part_of r.parts.items)
field_of (field.Fill n) = Fill n
field_of (field.Align b) = Align b
field_of (field.Text t) = Text t.end t.is_hex (map text_of t.constants.items)
field_of field.Point = Point
field_of field.Rect = Rect
field_of (field.Array a) = Array a.name.items (end_of a.end) a.block
field_of (field.Switch s) = Switch (place_of s.key) (map case_of s.cases.items)

abbrev pub fields_of : List HeldField → List Field
fields_of fields = map field_of fields

abbrev pub block_of : HeldBlock → List Field
block_of b = fields_of b.fields.items

abbrev pub blocks_of : List HeldBlock → List (List Field)
blocks_of blocks = map block_of blocks

abbrev pub declaration_of : HeldDeclaration → Declaration
declaration_of d = record { fields = fields_of d.fields.items; blocks = blocks_of d.blocks.items }

abbrev pub value_of : HeldValue → Value
value_of (held.Number n) = value.Number n
value_of (held.Count n) = value.Count n
value_of (held.Text v) = value.Text v.items
value_of (held.Filled v) = value.Filled v.items
value_of held.Element = value.Element
value_of held.NoElement = value.NoElement
value_of (held.Case k) = value.Case k

abbrev pub values_of : List HeldValue → List Value
values_of values = map value_of values
