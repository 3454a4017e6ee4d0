use Rattle.std.specs.Prelude.{◌≡◌, ℕ, Result, Ok, Err, List, Vec, map, option_map}
use Rattle.std.specs.declared.alloc.Global.{Global}
use Rattle.rez_declarations.specs.declared.unsound.Unsound.{Unsound}
use Rattle.rez_declarations.specs.declared.drafting.DraftFault.{DraftFault}
use Rattle.rez_declarations.specs.declared.drafting.DraftFault.TheVariants as fault
use Rattle.rez_declarations.specs.declared.drafting.WaitingArray.{WaitingArray}
use Rattle.rez_declarations.specs.declared.drafting.BlockDraft.{BlockDraft}
use Rattle.rez_types.specs.declared.declaration.Field.{Field as HeldField}
use Rattle.rez_types.specs.Fields.{Field}
use Rattle.rez_types.specs.View.{part_of, fields_of}
use Rattle.rez_declarations.specs.Drafting.{Waiting, Draft}

-- The drafts of the code, and what functions that change them lead to.

abbrev pub waiting_of : WaitingArray → Waiting
waiting_of w = record { name = w.name.items; block = w.block }

abbrev pub names_of : List (Vec ℕ Global) → List (List ℕ)
names_of names = map (λ (name : Vec ℕ Global). name.items) names

abbrev pub draft_of : BlockDraft → Draft
draft_of d = record {
  fields = fields_of d.fields.items;
  parts = map part_of d.parts.items;
  bits = d.bits;
  counts = names_of d.counts.items;
  names = names_of d.names.items;
  waiting = option_map waiting_of d.waiting;
}

-- A function has led to what a definition gives, or to the fault that it gives; where the host is out of memory, nothing is said.
abbrev pub Drafts : {A B : Type 0} → Result A DraftFault → B → Result B Unsound → Type 0
Drafts (Ok x) new given = given ≡ Ok new
Drafts (Err fault.HostMemory) new given = Unit {0}
Drafts (Err (fault.Unsound kind)) new given = given ≡ Err kind

-- The same of a function that returns fields.
abbrev pub Closes : Result (Vec HeldField Global) DraftFault → Result (List Field) Unsound → Type 0
Closes (Ok fields) given = given ≡ Ok (fields_of fields.items)
Closes (Err fault.HostMemory) given = Unit {0}
Closes (Err (fault.Unsound kind)) given = given ≡ Err kind
