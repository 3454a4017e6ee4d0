-- What is made of the content of a file.
use Rattle.macmem_c.proofs.Cited.{◌≡◌, ◌∙◌, List, ℕ, Result, Ok, map, sym, ap, subst, flat_map, Content, rows, Stops, made_then, info_text}
use Rattle.macmem_c.proofs.Cited.{opened, content_in, FileFault, WorkFault, File, HostMemory, listing, listed_line, row_as, listed, Row}
use Rattle.fork_edits.specs.Resources as edits

-- a fault in the place of a result is one in the place of what follows
then_stops : {A B : Type 0} (f : WorkFault) (made : Result A FileFault) (next : A → Result B FileFault) → Stops f made
    → Stops f (made_then made next)
then_stops HostMemory made next stops = tt
then_stops (File f) made next stops = ap (λ m. made_then m next) stops

-- the rows of the content of a file, or why there are none
pub rows_there : (file bytes : List ℕ) (content : Content) (views : List edits.Row) (found : List Row) → bytes ≡ file
    → content_in bytes ≡ Ok content → views ≡ rows content.groups → found ≡ map row_as views → listed file ≡ Ok found
rows_there file bytes content views found same holds all is =
    ap (λ m. made_then m (λ c. Ok (map row_as (rows c.groups)))) (ap content_in (sym same) ∙ holds)
    ∙ ap Ok (ap (map row_as) (sym all) ∙ sym is)

pub rows_stopped : (f : WorkFault) (file bytes : List ℕ) → bytes ≡ file → Stops f (content_in bytes) → Stops f (listed file)
rows_stopped f file bytes same stops = then_stops f (content_in file) _ (subst (λ b. Stops f (content_in b)) same stops)

-- the lines of the resources of the content of a file, or why there are none
pub lines_there : (file bytes : List ℕ) (content : Content) (views : List edits.Row) (out : List ℕ) → bytes ≡ file
    → content_in bytes ≡ Ok content → views ≡ rows content.groups → out ≡ flat_map listed_line views → listing file ≡ Ok out
lines_there file bytes content views out same holds all is =
    ap (λ m. made_then m (λ c. Ok (flat_map listed_line (rows c.groups)))) (ap content_in (sym same) ∙ holds)
    ∙ ap Ok (ap (flat_map listed_line) (sym all) ∙ sym is)

pub lines_stopped : (f : WorkFault) (file bytes : List ℕ) → bytes ≡ file → Stops f (content_in bytes) → Stops f (listing file)
lines_stopped f file bytes same stops = then_stops f (content_in file) _ (subst (λ b. Stops f (content_in b)) same stops)

-- what is known of a file, or why nothing is
pub info_there : (file bytes out : List ℕ) → bytes ≡ file → info_text bytes ≡ Ok out → info_text file ≡ Ok out
info_there file bytes out same is = ap info_text (sym same) ∙ is

pub info_stopped : (f : WorkFault) (file : List ℕ) → Stops f (opened file) → Stops f (info_text file)
unfolding info_text
info_stopped f file stops = then_stops f (opened file) _ stops
