use Rattle.std.specs.Prelude.{◌≡◌, ℕ, Option, Some, None, Result, Ok, Err, List, Vec}
use Rattle.std.specs.declared.alloc.Global.{Global}
use Rattle.rez_templates.specs.declared.fault.TemplateFault.{TemplateFault}
use Rattle.rez_templates.specs.declared.fault.TemplateFault.TheVariants.{Unstated, HostMemory}
use Rattle.rez_templates.specs.declared.item.Item.{Item as HeldItem}
use Rattle.rez_templates.specs.declared.item.Item.TheVariants as held
use Rattle.rez_templates.specs.declared.draft.Draft.{Draft}
use Rattle.rez_templates.specs.Items.{Item, Field, Hex, Fill, Count, Begin, End, Drafted}

-- The items and the drafts of the code, and what its functions lead to.

abbrev pub item_in : HeldItem → Item
item_in (held.Field text) = Field text.now
item_in (held.Hex n) = Hex n
item_in (held.Fill n) = Fill n
item_in (held.Count f) = Count f
item_in (held.Begin e) = Begin e
item_in held.End = End

abbrev pub drafted_of : Draft → Drafted
drafted_of d = record { text = d.text.items; fill = d.fill; lists = d.lists.items; counts = d.counts; waits = d.waits }

-- A function has led to what a definition gives, or to a fault where it gives nothing; where the host is out of memory, nothing is said.
abbrev pub LeadsTo : {A B : Type 0} → Result A TemplateFault → B → Option B → Type 0
LeadsTo (Ok x) new given = given ≡ Some new
LeadsTo (Err HostMemory) new given = Unit {0}
LeadsTo (Err Unstated) new given = given ≡ None

-- The same of a function that also returns what the definition gives.
abbrev pub Gives : {A B C : Type 0} → (A → C) → Result A TemplateFault → B → Option (B × C) → Type 0
Gives of (Ok x) new given = given ≡ Some (new, of x)
Gives of (Err HostMemory) new given = Unit {0}
Gives of (Err Unstated) new given = given ≡ None

-- A function has returned what a definition gives.
abbrev pub Returns : {A B : Type 0} → (A → B) → Result A TemplateFault → Option B → Type 0
Returns of (Ok x) given = given ≡ Some (of x)
Returns of (Err HostMemory) given = Unit {0}
Returns of (Err Unstated) given = given ≡ None

-- The bytes of a vector.
abbrev pub bytes_in : Vec ℕ Global → List ℕ
bytes_in v = v.items
