use Rattle.zone_script_laws.proofs.Cited.{◌≡◌, ℕ, ◌+◌, ◌-◌, ◌*◌, ◌≤◌, suc, List, [], ◌∷◌, ◌++◌, refl, sym, ◌∙◌, ap, subst, map, None, Ok}
use Rattle.zone_script_laws.proofs.Cited.{arith, replicate, append_assoc, flat_map, leb-true, is_zone, zone_bytes, Form, form_for}
use Rattle.zone_script_laws.proofs.Cited.{answer_text, dump_fault, Place, parts_in, fits, script_text, Block, Masters, count, free, tidy}
use Rattle.zone_script_laws.proofs.Cited.{is_masters, Site, Memory, fresh_memory, Bindings, Part, numbered, block_of, bytes_of, handles}
use Rattle.zone_script_laws.proofs.Cited.{more_masters, needed, partition_of, zone_of, MoreMasters, making, ending, lines_of, NamesDiffer}
use Rattle.zone_script_laws.proofs.Cited.{ScriptParts, spelled, script_of, run_alone, nowhere, launched, Runs, States, Leaves, asks_script}
use Rattle.zone_script_laws.proofs.Cited.{parts_at}
use Rattle.std.specs.Prelude.{length, true}
use Rattle.zone_script_laws.proofs.Names.{names_of_zone}
use Rattle.zone_script_laws.proofs.Texts.{text-states}
use Rattle.zone_script_laws.proofs.Shown.{shown}
use Rattle.zone_script_laws.proofs.Spoken.{course-kept}
use Rattle.zone_script_laws.proofs.Fixed.{stay-append, stay-tidy}
use Rattle.zone_script_laws.proofs.Steps.{Stands, none-bound, all-bound, bindings}
use Rattle.zone_script_laws.proofs.Numbers.{held, below-masters, masters-stay, masters-many, all-stay}
use Rattle.zone_script_laws.proofs.Making.{masters-all, making-all, meaning}
use Rattle.zone_script_laws.proofs.Ending.{ending-all, all-named}

-- A whole script.

-- in a fresh partition of the size that is said each call is done, and the zone is then the one of the parts
pub makes_zone : (parts : List Part) (site : Site) → NamesDiffer parts → partition_of parts ≤ 134217728
    → Runs (lines_of parts) (fresh_memory (partition_of parts) site) [] (λ m names. m.heap.zone ≡ zone_of parts)
makes_zone parts site differ small =
    let enough : needed parts ≤ partition_of parts = omega arith in
    let least : 272 ≤ size = omega arith in
    let slots : 0 + handles parts ≤ 64 * count is_masters masters = (let c = masters-many (suc more) in omega arith) in
    subst (λ ls. Runs ls (fresh_memory size site) [] holds)
    (sym (append_assoc (replicate more MoreMasters) (flat_map making parts) (flat_map ending parts)))
    (masters-all more (flat_map making parts ++ flat_map ending parts) (fresh_memory size site) [] holds (Masters ∷ []) (size - 272) []
    (record { heap = refl; calm = refl }) (refl, tt) (omega arith)
    (λ m s. making-all parts (flat_map ending parts) m [] holds masters (size - 272 - 272 * more) [] s (masters-stay (suc more))
    (below-masters 0 (suc more)) slots (omega arith) (omega arith) (none-bound parts) differ
    (λ m' s'. ending-all parts m' (bindings 0 parts) holds masters 0 (size - 272 - 272 * more - bytes_of parts) (map meaning parts)
    (subst (λ z. Stands z (map meaning parts) m')
    (sym (stay-tidy (size - 272 - 272 * more - bytes_of parts) (masters ++ numbered held 0 parts)
    (stay-append masters (numbered held 0 parts) (masters-stay (suc more)) (all-stay 0 parts)))
    ∙ ap tidy (append_assoc masters (numbered held 0 parts) (free (size - 272 - 272 * more - bytes_of parts)))) s')
    (below-masters 0 (suc more)) (all-named [] parts) (all-bound 0 parts differ)
    (λ m'' e. e ∙ ap tidy (sym (append_assoc masters (numbered block_of 0 parts) (free (size - 272 - 272 * more - bytes_of parts))))
    ∙ ap (λ g. tidy ((masters ++ numbered block_of 0 parts) ++ free g))
    (let z : size - 272 - 272 * more - bytes_of parts ≡ partition_of parts - needed parts = omega arith in z)))))
  where
    more : ℕ
    more = more_masters parts

    size : ℕ
    size = partition_of parts

    masters : List Block
    masters = replicate (suc (more_masters parts)) Masters

    holds : Memory → Bindings → Type 0
    holds m names = m.heap.zone ≡ zone_of parts

-- so an application that is only a script whose steps state the calls has that zone, and each line of its transcript has code 0
pub makes_zone_alone : (parts : List Part) (script : ScriptParts) → NamesDiffer parts → partition_of parts ≤ 134217728
    → States (lines_of parts) script.steps → Leaves (zone_of parts) (run_alone (partition_of parts) script)
makes_zone_alone parts script differ small states =
    let kept = course-kept (lines_of parts) script.steps script.blocks (launched (partition_of parts) nowhere)
    (λ m names. m.heap.zone ≡ zone_of parts) states (makes_zone parts nowhere differ small) in
    record { done = kept.done; goes_on = kept.goes_on; zone_is = kept.after }

-- so it is of each zone that keeps all rules, and has room in a partition: of the script that is read in the text
pub makes_zone_of_dump : (form : Form) (zone : ℕ) (bytes : List ℕ) (script : ScriptParts) → is_zone form zone bytes ≡ true
    → 52 ≤ length bytes → zone + length bytes ≤ 4294967296 → fits (parts_in form zone bytes) ≡ true
    → script_of (script_text form zone (parts_in form zone bytes)) ≡ Ok (spelled script)
    → Leaves (zone_of (parts_in form zone bytes)) (run_alone (partition_of (parts_in form zone bytes)) script)
makes_zone_of_dump form zone bytes script sound long small room read =
    let fit = leb-true (partition_of (parts_in form zone bytes)) 134217728 room in
    makes_zone_alone (parts_in form zone bytes) script (names_of_zone form zone bytes sound long small) fit
    (text-states form zone (parts_in form zone bytes) script fit read)

-- and so it is wherever `macmem zone --script` prints a text
pub makes_zone_shown : (base : ℕ) (place : Place) (dump : List ℕ) (script : ScriptParts) → dump_fault (asks_script base place) dump ≡ None
    → script_of (answer_text (asks_script base place) dump) ≡ Ok (spelled script)
    → Leaves (zone_of (parts_at base place dump)) (run_alone (partition_of (parts_at base place dump)) script)
makes_zone_shown base place dump script none read =
    let is = shown base place dump none in
    makes_zone_of_dump (form_for place dump base) place.address (zone_bytes (form_for place dump base) dump base place.address) script
    is.zone.sound is.zone.record_in is.zone.below is.room read
