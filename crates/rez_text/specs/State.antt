use Rattle.std.specs.Prelude.{◌≡◌, ℕ, pos, ◌==◌, None, Result, Ok, Err, List, [], ◌∷◌, ◌++◌, if◌then◌else◌}
use Rattle.std.specs.Prelude.{replicate}
use Rattle.byteorder.specs.Endian.{big_number}
use Rattle.fork_format.specs.Content.{Ref, Group, Content}
use Rattle.rez_statements.specs.declared.fault.TypesFault.{TypesFault}
use Rattle.rez_statements.specs.declared.fault.TypesFault.TheVariants as types_fault
use Rattle.rez_statements.specs.Types.{Declared}
use Rattle.rez_statements.specs.View.{types_of}
use Rattle.rez_text.specs.declared.fault.FaultKind.{FaultKind}
use Rattle.rez_text.specs.declared.fault.FaultKind.TheVariants as faults
use Rattle.rez_text.specs.declared.fault.StepFault.{StepFault}
use Rattle.rez_text.specs.declared.fault.StepFault.TheVariants.{Memory, Wrong}
use Rattle.rez_text.specs.declared.mode.Form.{Form}
use Rattle.rez_text.specs.declared.mode.Form.TheVariants as forms
use Rattle.rez_text.specs.declared.mode.Mode.{Mode}
use Rattle.rez_text.specs.declared.mode.Mode.TheVariants as mode
use Rattle.rez_text.specs.declared.mode.Place.{Place}
use Rattle.rez_text.specs.declared.reader.Reader.{Reader}
use Rattle.rez_text.specs.View.{ref_said, content_said, files_of, names_of}

-- The files whose bytes statements `read` take: the bytes of those that are given, and the names that the statements have stated.
pub record Files : Type 0 where
  pub given : List (List ℕ)
  pub named : List (List ℕ)

-- What statements have said: the content and the types that are declared before the statement in which the text stands, the form of
-- that statement, and the files.
pub record Said : Type 0 where
  pub content : Content
  pub types : List Declared
  pub form : Form
  pub files : Files

-- What has been read of a source: where the text stands within a token and within a statement, the bytes of the token
-- so far, the type and the resource of the statement so far, and what statements have said.
pub record State : Type 0 where
  pub mode : Mode
  pub place : Place
  pub gathered : List ℕ
  pub kind : ℕ
  pub draft : Ref
  pub said : Said

-- A resource of which nothing is stated yet.
abbrev pub no_ref : Ref
no_ref = record { id = pos 0; name = None; attrs = 0; datum = [] }

-- No bytes after the header but 0, no attributes of the map, no resources.
abbrev pub no_content : Content
no_content = record { area = replicate 240 0; attrs = 0; groups = [] }

-- These files, none of which is named yet.
abbrev pub unnamed : List (List ℕ) → Files
unnamed files = record { given = files; named = [] }

-- Before the first byte of a text, where these types are declared and these files are given.
abbrev pub start : Place → List Declared → List (List ℕ) → State
start p types files = record {
  mode = mode.Between;
  place = p;
  gathered = [];
  kind = 0;
  draft = no_ref;
  said = record { content = no_content; types = types; form = forms.Data; files = unnamed files };
}

-- The same with another content, and with other types.
abbrev pub with_content : Content → Said → Said
with_content c said = record { content = c; types = said.types; form = said.form; files = said.files }

abbrev pub with_types : List Declared → Said → Said
with_types types said = record { content = said.content; types = types; form = said.form; files = said.files }

-- The text stands elsewhere within a token.
abbrev pub in_mode : Mode → State → State
in_mode m s = record s { mode = m }

-- One more byte of a token.
abbrev pub gather : ℕ → Mode → State → State
gather b m s = record s { mode = m; gathered = s.gathered ++ b ∷ [] }

-- A token ends, and the statement has come to a place.
abbrev pub come_to : Place → State → State
come_to p s = record s { mode = mode.Between; gathered = []; place = p }

-- The resource as the last one of its type: in the group of the type, or in a new group after all others.
abbrev pub with_ref : ℕ → Ref → List Group → List Group
with_ref kind r [] = record { kind = kind; refs = r ∷ [] } ∷ []
with_ref kind r (g ∷ groups) =
    if g.kind == kind then record { kind = g.kind; refs = g.refs ++ r ∷ [] } ∷ groups else g ∷ with_ref kind r groups

infixl 10 ◌>>=◌
-- One step after another; a fault of the first stays.
abbrev pub ◌>>=◌ : {A B : Type 0} → Result A FaultKind → (A → Result B FaultKind) → Result B FaultKind
(Ok x) >>= f = f x
(Err e) >>= f = Err e

-- The reader of the code, as a state.
abbrev pub state_of : Reader → State
state_of r = record {
  mode = r.mode;
  place = r.place;
  gathered = r.gathered.items;
  kind = big_number 4 r.ty.0;
  draft = ref_said r.draft;
  said = record {
    content = content_said r.source;
    types = types_of r.types;
    form = r.form;
    files = record { given = files_of r.files.items; named = names_of r.named.items };
  };
}

-- The fault of the text of a statement.
abbrev pub within_text : TypesFault → StepFault
within_text (types_fault.Wrong e) = Wrong (faults.Within e.line e.kind)
within_text types_fault.HostMemory = Memory

-- A function has led to what a definition gives, or has the fault that it gives; where the host is out of memory, nothing
-- is said about the text.
abbrev pub LeadsTo : {A B : Type 0} → Result A StepFault → B → Result B FaultKind → Type 0
LeadsTo (Ok x) new given = given ≡ Ok new
LeadsTo (Err Memory) new given = Unit {0}
LeadsTo (Err (Wrong kind)) new given = given ≡ Err kind

-- A function has led to the state that a step defines.
abbrev pub Leads : {A : Type 0} → Result A StepFault → State → Result State FaultKind → Type 0
Leads result new stepped = LeadsTo result new stepped
