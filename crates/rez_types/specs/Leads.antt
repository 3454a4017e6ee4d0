use Rattle.std.specs.Prelude.{◌≡◌, ℕ, Bool, Option, Some, None, Result, Ok, Err, List, Vec}
use Rattle.rez_types.specs.declared.fault.CodingFault.{CodingFault}
use Rattle.rez_types.specs.declared.fault.CodingFault.TheVariants.{Misfit, HostMemory}
use Rattle.rez_types.specs.declared.decoder.Decoder.{Decoder}
use Rattle.rez_types.specs.declared.encoder.Encoder.{Encoder}
use Rattle.std.specs.declared.alloc.Global.{Global}
use Rattle.rez_types.specs.declared.value.Value.{Value as HeldValue}
use Rattle.rez_types.specs.View.{values_of}
use Rattle.rez_types.specs.Values.{Value}
use Rattle.rez_types.specs.Decoding.{Decoding}
use Rattle.rez_types.specs.Encoding.{Encoding}

-- What functions that read bytes, or write them, lead to.

-- A function has led to what a definition gives, or to a fault where it gives nothing; where the host is out of memory, nothing
-- is said.
abbrev pub LeadsTo : {A B : Type 0} → Result A CodingFault → B → Option B → Type 0
LeadsTo (Ok x) new given = given ≡ Some new
LeadsTo (Err HostMemory) new given = Unit {0}
LeadsTo (Err Misfit) new given = given ≡ None

-- The same of a function that also returns what the definition gives.
abbrev pub Gives : {A B C : Type 0} → (A → C) → Result A CodingFault → B → Option (C × B) → Type 0
Gives of (Ok x) new given = given ≡ Some (of x, new)
Gives of (Err HostMemory) new given = Unit {0}
Gives of (Err Misfit) new given = given ≡ None

-- A function has returned what a definition gives.
abbrev pub Returns : {A C : Type 0} → (A → C) → Result A CodingFault → Option C → Type 0
Returns of (Ok x) given = given ≡ Some (of x)
Returns of (Err HostMemory) given = Unit {0}
Returns of (Err Misfit) given = given ≡ None

-- The decoder of the code, as how far bytes are read.
abbrev pub decoding_of : Decoder → Decoding
decoding_of d = record {
  at = d.phase;
  rest = d.rest.now;
  values = values_of d.values.items;
  counts = d.counts.items;
}

-- The encoder of the code, as how far values are written.
abbrev pub encoding_of : Encoder → Encoding
encoding_of e = record {
  values = values_of e.values.now;
  bytes = e.bytes.items;
  counts = e.counts.items;
}

-- A number, as it is.
abbrev pub same : ℕ → ℕ
same n = n

-- An answer, as it is.
abbrev pub flag : Bool → Bool
flag b = b

-- The bytes and the values of a vector.
abbrev pub bytes_in : Vec ℕ Global → List ℕ
bytes_in v = v.items

abbrev pub values_in : Vec HeldValue Global → List Value
values_in v = values_of v.items
