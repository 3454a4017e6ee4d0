use Rattle.std.specs.Prelude.{◌≡◌, Option, Some, None, Result, Ok, Err, List, Vec, true, false}
use Rattle.std.specs.declared.alloc.Global.{Global}
use Rattle.rez_types.specs.declared.declaration.Constant.{Constant as HeldConstant}
use Rattle.rez_declarations.specs.declared.shape.Shape.{Shape}
use Rattle.rez_declarations.specs.declared.unsound.Unsound.{Unsound}
use Rattle.rez_types.specs.Fields.{Part, Constant}
use Rattle.rez_declarations.specs.Sound.{is_key}

-- What functions that judge return.

-- A function has returned what a judgement gives.
abbrev pub IsJudged : {A B : Type 0} → (A → B) → Result A Unsound → Result B Unsound → Type 0
IsJudged of (Ok x) given = given ≡ Ok (of x)
IsJudged of (Err fault) given = given ≡ Err fault

-- A function has returned the key that a part is, where it is one.
abbrev pub KeyPart : Option HeldConstant → Part → Type 0
KeyPart None p = is_key p ≡ false
KeyPart (Some c) p = (p ≡ Constant c.width.bits c.pattern true)

-- The shapes of a vector.
abbrev pub shapes_in : Vec Shape Global → List Shape
shapes_in v = v.items
