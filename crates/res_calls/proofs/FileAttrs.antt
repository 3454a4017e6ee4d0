use Rattle.res_calls.proofs.Cited.{◌≡◌, ◌<◌, ℕ, ◌==◌, Bool, true, false, cond, Option, Some, None, Ok, Err, List, map, length, refl, sym}
use Rattle.res_calls.proofs.Cited.{◌∙◌, ap, subst, get_or, option_map, has_bit, WRITE_PERMISSION, map_kept, Memory, Code, Split, split}
use Rattle.res_calls.proofs.Cited.{place, replaced, Map, found-none, found-place, split-set, OpenFile, Resources, Managers, done, refused}
use Rattle.res_calls.proofs.Cited.{attrs_told, with_resources, set_file, set_res_file_attrs, with_map_attrs, IsAnswered, managers, chained}
use Rattle.res_calls.proofs.Cited.{view_open}
use Rattle.std.proofs.Common.{slice_set}
use Rattle.res_calls.specs.declared.files.OpenFile.{OpenFile as StoredOpenFile}
use Rattle.res_calls.proofs.Lookups.{found_seen}
use Rattle.res_calls.proofs.Standing.{map_set}

-- The attributes of an open file, by the file's place.

pub attrs_seen : (test : OpenFile → Bool) (xs : List StoredOpenFile) (i : ℕ) (x : StoredOpenFile) → i < length xs
    → x ≡ get_or xs i x → Some i ≡ option_map place (split test (map view_open xs))
    → Some (attrs_told (view_open x))
    ≡ option_map (λ (at : Split OpenFile). attrs_told at.here) (split test (map view_open xs))
attrs_seen test xs i x inside is found =
    let at = found_seen view_open test xs i x inside is found in
    ap (λ (f : OpenFile). Some (attrs_told f)) (sym at.1.1.1)
    ∙ sym (ap (option_map (λ (at : Split OpenFile). attrs_told at.here)) at.1.0)

pub attrs_unseen : (test : OpenFile → Bool) (xs : List StoredOpenFile)
    → None ≡ option_map place (split test (map view_open xs))
    → None ≡ option_map (λ (at : Split OpenFile). attrs_told at.here) (split test (map view_open xs))
attrs_unseen test xs found =
    sym (ap (option_map (λ (at : Split OpenFile). attrs_told at.here)) (found-none (split test (map view_open xs)) found))

-- where no file of the number is open, nothing is done; the System's attributes stay
abbrev Answers : ℕ → ℕ → List StoredOpenFile → Resources → Memory → Option (Split OpenFile) → Type 0
Answers n attrs xs r m o = IsAnswered (λ (u : Unit {0}). u) (set_file n attrs o (managers (chained xs r) m)) (Ok tt)
    (managers (chained xs r) m)

pub attrs_missing : (n attrs : ℕ) (xs : List StoredOpenFile) (r : Resources) (m : Memory)
    → None ≡ option_map place (split (λ (f : OpenFile). f.number == n) (map view_open xs))
    → IsAnswered (λ (u : Unit {0}). u) (set_res_file_attrs n attrs (managers (chained xs r) m)) (Ok tt)
    (managers (chained xs r) m)
attrs_missing n attrs xs r m found =
    subst (Answers n attrs xs r m)
    (sym (found-none (split (λ (f : OpenFile). f.number == n) (map view_open xs)) found)) (refl, refl)

pub attrs_barred : (n attrs i : ℕ) (xs : List StoredOpenFile) (r : Resources) (m : Memory)
    → Some i ≡ option_map place (split (λ (f : OpenFile). f.number == n) (map view_open xs)) → (n == 0) ≡ true
    → IsAnswered (λ (u : Unit {0}). u) (set_res_file_attrs n attrs (managers (chained xs r) m))
    (Err (Code WRITE_PERMISSION)) (managers (chained xs r) m)
attrs_barred n attrs i xs r m found system =
    let at = found-place (split (λ (f : OpenFile). f.number == n) (map view_open xs)) i found in
    let s : Managers = managers (chained xs r) m in
    subst (λ (o : Option (Split OpenFile)). IsAnswered (λ (u : Unit {0}). u) (set_file n attrs o s)
    (Err (Code WRITE_PERMISSION)) s) (sym at.1.0)
    (subst (λ (t : Bool). IsAnswered {T = Unit {0}} (λ (u : Unit {0}). u) (cond t (refused WRITE_PERMISSION s)
    (done tt (with_resources (record r { chain = replaced (with_map_attrs attrs at.0.here) at.0 }) s)))
    (Err (Code WRITE_PERMISSION)) s) (sym system) (refl, refl))

-- those of another file are set in its place
pub attrs_set : (n attrs i : ℕ) (xs : List StoredOpenFile) (x y : StoredOpenFile) (r : Resources) (m : Memory)
    → i < length xs → x ≡ get_or xs i x
    → Some i ≡ option_map place (split (λ (f : OpenFile). f.number == n) (map view_open xs)) → (n == 0) ≡ false
    → y.map ≡ (let kept : Map = record x.map { attrs = map_kept attrs } in kept)
    → view_open y ≡ (let f : OpenFile = record (view_open x) { map = y.map; touched = has_bit 32 attrs } in f)
    → IsAnswered (λ (u : Unit {0}). u) (set_res_file_attrs n attrs (managers (chained xs r) m)) (Ok tt)
    (managers (chained (slice_set xs i y) r) m)
attrs_set n attrs i xs x y r m inside is found own kept so =
    let at = found_seen view_open (λ (f : OpenFile). f.number == n) xs i x inside is found in
    let s : Managers = managers (chained xs r) m in
    let after : Managers = managers (chained (slice_set xs i y) r) m in
    let here : with_map_attrs attrs at.0.here ≡ view_open y =
    ap (with_map_attrs attrs) at.1.1.1
    ∙ ap (λ (l : Map). let f : OpenFile = record (view_open x) { map = l; touched = has_bit 32 attrs } in f) (sym kept)
    ∙ sym so in
    let chain : replaced (with_map_attrs attrs at.0.here) at.0 ≡ map view_open (slice_set xs i y) =
    ap (λ f. replaced f at.0) here
    ∙ sym (split-set (λ (f : OpenFile). f.number == n) (map view_open xs) (view_open y) at.0 at.1.0)
    ∙ ap (λ k. slice_set (map view_open xs) k (view_open y)) (sym at.1.1.0) ∙ sym (map_set view_open xs i y) in
    subst (λ (o : Option (Split OpenFile)). IsAnswered (λ (u : Unit {0}). u) (set_file n attrs o s) (Ok tt) after)
    (sym at.1.0)
    (subst (λ (t : Bool). IsAnswered {T = Unit {0}} (λ (u : Unit {0}). u) (cond t (refused WRITE_PERMISSION s)
    (done tt (with_resources (record r { chain = replaced (with_map_attrs attrs at.0.here) at.0 }) s))) (Ok tt) after)
    (sym own)
    (refl, ap (λ c. (let t : Managers = managers (record r { chain = c }) m in t)) chain))
