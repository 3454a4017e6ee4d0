use Rattle.std.specs.Prelude.{◌≡◌, Result, Ok, Err, List, Vec, map}
use Rattle.std.specs.declared.alloc.Global.{Global}
use Rattle.rez_tokens.specs.declared.token.Token.{Token as HeldToken}
use Rattle.rez_types.specs.declared.value.Value.{Value as HeldValue}
use Rattle.rez_values.specs.declared.fault.TakeFault.{TakeFault}
use Rattle.rez_values.specs.declared.fault.TakeFault.TheVariants as fault
use Rattle.rez_values.specs.declared.taker.CountPlace.{CountPlace as HeldPlace}
use Rattle.rez_values.specs.declared.taker.Taker.{Taker}
use Rattle.rez_tokens.specs.Tokens.{Token}
use Rattle.rez_tokens.specs.View.{token_of}
use Rattle.rez_types.specs.View.{values_of}
use Rattle.rez_types.specs.Values.{Value}
use Rattle.rez_values.specs.Taking.{CountPlace, Taking, Fault}

-- The tokens and the taker of the code, and what its functions lead to.

abbrev pub tokens_of : List HeldToken → List Token
tokens_of tokens = map token_of tokens

abbrev pub place_of : HeldPlace → CountPlace
place_of c = record { place = c.place; width = c.width.bits }

abbrev pub taking_of : Taker → Taking
taking_of t = record {
  tokens = tokens_of t.tokens.now;
  last = t.last;
  values = values_of t.values.items;
  counts = map place_of t.counts.items;
  stated = t.is_stated;
}

-- A function has led to what a definition gives, or to the fault that it gives; where the host is out of memory, nothing is said.
abbrev pub Takes : {A B : Type 0} → Result A TakeFault → B → Result B Fault → Type 0
Takes (Ok x) new given = given ≡ Ok new
Takes (Err fault.HostMemory) new given = Unit {0}
Takes (Err (fault.Wrong e)) new given = given ≡ Err (e.line, e.kind)

-- The same of a function that also returns what the definition gives.
abbrev pub TakesTo : {A B C : Type 0} → (A → C) → Result A TakeFault → B → Result (C × B) Fault → Type 0
TakesTo of (Ok x) new given = given ≡ Ok (of x, new)
TakesTo of (Err fault.HostMemory) new given = Unit {0}
TakesTo of (Err (fault.Wrong e)) new given = given ≡ Err (e.line, e.kind)

-- A function has returned what a definition gives.
abbrev pub Returns : {A C : Type 0} → (A → C) → Result A TakeFault → Result C Fault → Type 0
Returns of (Ok x) given = given ≡ Ok (of x)
Returns of (Err fault.HostMemory) given = Unit {0}
Returns of (Err (fault.Wrong e)) given = given ≡ Err (e.line, e.kind)

-- The values of a vector.
abbrev pub values_in : Vec HeldValue Global → List Value
values_in v = values_of v.items
