use Rattle.res_calls.proofs.Cited.{◌≡◌, ℕ, ◌+◌, Bool, true, false, Option, Some, refl, sym, ◌∙◌, ap, List, [], ◌∷◌, ◌++◌, map, length, drop}
use Rattle.res_calls.proofs.Cited.{suc, zero, cond, arith, Result, Ok, Err, ◌≤◌, subst, slice_get, slice_set, option_or, length-set, OsErr}
use Rattle.res_calls.proofs.Cited.{Flags, Memory, Resource, Gone, Tells, handle_gone, all_gone, new_inside, new_all, number_if}
use Rattle.res_calls.proofs.Cited.{wanted_as, Filling, Reference, Map, is_preload, with_handle, Loaded, flags_of, given, preload_one}
use Rattle.res_calls.proofs.Cited.{preload, loaded_both, preload_gone, filling_of, wanted_of, next_number, numbered, given_to}
use Rattle.std.proofs.Common.{IfSome}

-- A file's references are read as it is opened: making all handles first and then giving them out comes to the same.

-- what is wanted of the first reference and of the rest
wanted_cons : (x : Reference) (references : List Reference) (is : Bool) → is_preload x ≡ is
    → wanted_of (x ∷ references) ≡ cond is (filling_of x ∷ wanted_of references) (wanted_of references)
wanted_cons x references true e = rw e refl
wanted_cons x references false e = rw e refl

wanted_from : (references : List Reference) (i : ℕ) (x : Reference) (is : Bool) → slice_get references i ≡ Some x
    → is_preload x ≡ is → wanted_of (drop i references)
    ≡ cond is (filling_of x ∷ wanted_of (drop (suc i) references)) (wanted_of (drop (suc i) references))
wanted_from [] i x is here e = cc
wanted_from (y ∷ references) zero x is here e =
    let same : y ≡ x = cc in wanted_cons y references is (ap is_preload same ∙ e)
    ∙ ap (λ z. cond is (filling_of z ∷ wanted_of references) (wanted_of references)) same
wanted_from (y ∷ references) (suc i) x is here e = wanted_from references i x is here e

-- one more is gathered, or passed by
pub wanted_here : (references : List Reference) (i : ℕ) (x : Reference) (f : Filling) (front front' : List Filling)
    (all : List (Flags × List ℕ)) → slice_get references i ≡ Some x → is_preload x ≡ true
    → wanted_as f ≡ filling_of x → front' ≡ front ++ f ∷ []
    → map wanted_as front ++ wanted_of (drop i references) ≡ all
    → map wanted_as front' ++ wanted_of (drop (i + 1) references) ≡ all
wanted_here references i x f front front' all here is seen pushed e =
    ap (λ k. map wanted_as front' ++ wanted_of (drop k references)) (let s : i + 1 ≡ suc i = omega arith in s)
    ∙ ap (λ l. map wanted_as l ++ wanted_of (drop (suc i) references)) pushed
    ∙ front_more front
    ∙ ap (λ w. map wanted_as front ++ w ∷ wanted_of (drop (suc i) references)) seen
    ∙ ap (λ l. map wanted_as front ++ l) (sym (wanted_from references i x true here is)) ∙ e
  where
    front_more : (front : List Filling) → map wanted_as (front ++ f ∷ []) ++ wanted_of (drop (suc i) references)
        ≡ map wanted_as front ++ wanted_as f ∷ wanted_of (drop (suc i) references)
    front_more [] = refl
    front_more (g ∷ front) = ap (λ l. wanted_as g ∷ l) (front_more front)

pub wanted_on : (references : List Reference) (i : ℕ) (x : Reference) (front : List Filling)
    (all : List (Flags × List ℕ)) → slice_get references i ≡ Some x → is_preload x ≡ false
    → map wanted_as front ++ wanted_of (drop i references) ≡ all
    → map wanted_as front ++ wanted_of (drop (i + 1) references) ≡ all
wanted_on references i x front all here is e =
    ap (λ k. map wanted_as front ++ wanted_of (drop k references)) (let s : i + 1 ≡ suc i = omega arith in s)
    ∙ ap (λ l. map wanted_as front ++ l) (sym (wanted_from references i x false here is)) ∙ e

-- the references from a place on are given their numbers
abbrev pub given_from : ℕ → List Reference → List (Option ℕ) → List Reference
given_from zero references numbers = given_to references numbers
given_from (suc i) [] numbers = []
given_from (suc i) (x ∷ references) numbers = x ∷ given_from i references numbers

given_cons : (x : Reference) (references : List Reference) (numbers : List (Option ℕ)) (is : Bool) → is_preload x ≡ is
    → given_to (x ∷ references) numbers ≡ cond is (numbered (next_number numbers) x ∷ given_to references (drop 1 numbers))
    (x ∷ given_to references numbers)
given_cons x references numbers true e = rw e refl
given_cons x references numbers false e = rw e refl

-- one more reference is given its number
given_set : (references : List Reference) (i : ℕ) (x : Reference) (numbers : List (Option ℕ))
    → slice_get references i ≡ Some x → is_preload x ≡ true
    → given_from (suc i) (slice_set references i (numbered (next_number numbers) x)) (drop 1 numbers)
    ≡ given_from i references numbers
given_set [] i x numbers here is = cc
given_set (y ∷ references) zero x numbers here is =
    let same : y ≡ x = cc in
    sym (given_cons y references numbers true (ap is_preload same ∙ is)
    ∙ ap (λ z. numbered (next_number numbers) z ∷ given_to references (drop 1 numbers)) same)
given_set (y ∷ references) (suc i) x numbers here is = ap (λ l. y ∷ l) (given_set references i x numbers here is)

given_past : (references : List Reference) (i : ℕ) (x : Reference) (numbers : List (Option ℕ))
    → slice_get references i ≡ Some x → is_preload x ≡ false
    → given_from (suc i) references numbers ≡ given_from i references numbers
given_past [] i x numbers here is = cc
given_past (y ∷ references) zero x numbers here is =
    let same : y ≡ x = cc in sym (given_cons y references numbers false (ap is_preload same ∙ is))
given_past (y ∷ references) (suc i) x numbers here is = ap (λ l. y ∷ l) (given_past references i x numbers here is)

drop_more : {A : Type 0} (n : ℕ) (xs : List A) → drop 1 (drop n xs) ≡ drop (suc n) xs
drop_more zero xs = refl
drop_more (suc n) [] = refl
drop_more (suc n) (x ∷ xs) = drop_more n xs

-- the numbers are given as far as a place
pub record IsGiven (start : Map) (numbers : List (Option ℕ)) (i next : ℕ) (file : Map) : Type 0 where
  pub most : next ≤ i
  pub area : file.area ≡ start.area
  pub attrs : file.attrs ≡ start.attrs
  pub long : length file.references ≡ length start.references
  pub done : given_from i file.references (drop next numbers) ≡ given_to start.references numbers

-- the reference of a place gets its number
pub given_here : (start file file' : Map) (i next : ℕ) (x : Reference) (numbers : List (Option ℕ))
    (handle : Option ℕ) → IsGiven start numbers i next file → slice_get file.references i ≡ Some x
    → is_preload x ≡ true → handle ≡ option_or (next_number (drop next numbers)) x.handle
    → IfSome (slice_get file.references i) (λ r. file' ≡ record file {
      references = slice_set file.references i (with_handle handle r);
    })
    → IsGiven start numbers (i + 1) (next + 1) file'
given_here start file file' i next x numbers handle before here is number set =
    let P : Option Reference → Type 0 = λ o. IfSome o (λ r. file' ≡ record file {
      references = slice_set file.references i (with_handle handle r);
    }) in
    let put : file' ≡ record file { references = slice_set file.references i (with_handle handle x) } =
    subst P here set in
    let xs : file'.references ≡ slice_set file.references i (numbered (next_number (drop next numbers)) x) =
    ap (λ (f : Map). f.references) put ∙ ap (λ h. slice_set file.references i (with_handle h x)) number in
    let most = before.most in
    record {
      most = omega (arith, most);
      area = ap (λ (f : Map). f.area) put ∙ before.area;
      attrs = ap (λ (f : Map). f.attrs) put ∙ before.attrs;
      long = ap length xs ∙ length-set file.references i (numbered (next_number (drop next numbers)) x) ∙ before.long;
      done = ap (λ k. given_from k file'.references (drop (next + 1) numbers)) (let s : i + 1 ≡ suc i = omega arith in s)
          ∙ ap (λ k. given_from (suc i) file'.references (drop k numbers)) (let s : next + 1 ≡ suc next = omega arith in s)
          ∙ ap (given_from (suc i) file'.references) (sym (drop_more next numbers))
          ∙ ap (λ l. given_from (suc i) l (drop 1 (drop next numbers))) xs
          ∙ given_set file.references i x (drop next numbers) here is ∙ before.done;
    }

pub given_on : (start file : Map) (i next : ℕ) (x : Reference) (numbers : List (Option ℕ))
    → IsGiven start numbers i next file → slice_get file.references i ≡ Some x → is_preload x ≡ false
    → IsGiven start numbers (i + 1) next file
given_on start file i next x numbers before here is =
    let most = before.most in
    record {
      most = omega (arith, most);
      area = before.area;
      attrs = before.attrs;
      long = before.long;
      done = ap (λ k. given_from k file.references (drop next numbers)) (let s : i + 1 ≡ suc i = omega arith in s)
          ∙ given_past file.references i x (drop next numbers) here is ∙ before.done;
    }

-- no reference is left
pub given_none : (start file : Map) (i next : ℕ) (numbers : List (Option ℕ)) → IsGiven start numbers i next file
    → i ≡ length start.references → file ≡ record start { references = given_to start.references numbers }
given_none start file i next numbers before whole =
    let xs : file.references ≡ given_to start.references numbers =
    sym (ap (λ k. given_from k file.references (drop next numbers)) (whole ∙ sym before.long)
    ∙ passed file.references (drop next numbers)) ∙ before.done in
    rw (← before.area, ← before.attrs, ← xs) refl
  where
    passed : (xs : List Reference) (numbers : List (Option ℕ)) → given_from (length xs) xs numbers ≡ xs
    passed [] numbers = refl
    passed (x ∷ xs) numbers = ap (λ l. x ∷ l) (passed xs numbers)

-- the first reference's own answer
one_read : (x : Reference) (p : Result ℕ OsErr × Memory) → given x p ≡ record {
  references = numbered (number_if p.0) x ∷ [];
  memory = p.1;
  reads = (given x p).reads;
}
one_read x (Ok h, m) = refl
one_read x (Err code, m) = refl

-- reading in order is making all handles, and then giving them to the references
abbrev Loads : List Reference → Memory → Type 0
Loads references m = ((preload references m).references ≡ given_to references (new_all (wanted_of references) m).0)
    × ((preload references m).memory ≡ (new_all (wanted_of references) m).1)

loads_wanted : (x : Reference) (references : List Reference) (m : Memory) → is_preload x ≡ true
    → Loads references (new_inside Resource (flags_of x) x.stored.datum m).1 → Loads (x ∷ references) m
loads_wanted x references m is again =
    let p = new_inside Resource (flags_of x) x.stored.datum m in
    let one : preload_one x m ≡ given x p = rw is refl in
    let both : preload (x ∷ references) m ≡ loaded_both (given x p) (preload references (given x p).memory) =
    ap (λ (l : Loaded). loaded_both l (preload references l.memory)) one in
    let whole = one_read x p in (
      ap (λ (l : Loaded). l.references) both
          ∙ ap (λ (l : Loaded). l.references ++ (preload references l.memory).references) whole
          ∙ ap (λ l. numbered (number_if p.0) x ∷ l) again.0
          ∙ sym (ap (λ w. given_to (x ∷ references) (new_all w m).0) (wanted_cons x references true is)
          ∙ given_cons x references (number_if p.0 ∷ (new_all (wanted_of references) p.1).0) true is),
      ap (λ (l : Loaded). l.memory) both
          ∙ ap (λ (l : Loaded). (preload references l.memory).memory) whole ∙ again.1
          ∙ sym (ap (λ w. (new_all w m).1) (wanted_cons x references true is)),
    )

loads_other : (x : Reference) (references : List Reference) (m : Memory) → is_preload x ≡ false → Loads references m
    → Loads (x ∷ references) m
loads_other x references m is again =
    let alone : Loaded = record { references = x ∷ []; memory = m; reads = [] } in
    let one : preload_one x m ≡ alone = rw is refl in
    let both : preload (x ∷ references) m ≡ loaded_both alone (preload references m) =
    ap (λ (l : Loaded). loaded_both l (preload references l.memory)) one in (
      ap (λ (l : Loaded). l.references) both ∙ ap (λ l. x ∷ l) again.0
          ∙ sym (ap (λ w. given_to (x ∷ references) (new_all w m).0) (wanted_cons x references false is)
          ∙ given_cons x references (new_all (wanted_of references) m).0 false is),
      ap (λ (l : Loaded). l.memory) both ∙ again.1
          ∙ sym (ap (λ w. (new_all w m).1) (wanted_cons x references false is)),
    )

loads : (references : List Reference) (m : Memory) → Loads references m
loads [] m = (refl, refl)
loads (x ∷ references) m =
    cases (is_preload x) refl (loads references (new_inside Resource (flags_of x) x.stored.datum m).1)
    (loads references m)
  where
    cases : (is : Bool) → is_preload x ≡ is → Loads references (new_inside Resource (flags_of x) x.stored.datum m).1
        → Loads references m → Loads (x ∷ references) m
    cases true is read passed = loads_wanted x references m is read
    cases false is read passed = loads_other x references m is passed

-- what the handles that were made, and then given, come to
loaded_references : (references : List Reference) (m after : Memory) (numbers : List (Option ℕ))
    → new_all (wanted_of references) m ≡ (numbers, after)
    → given_to references numbers ≡ (preload references m).references
loaded_references references m after numbers made =
    sym ((loads references m).0 ∙ ap (λ (p : List (Option ℕ) × Memory). given_to references p.0) made)

pub loaded_file : (start file : Map) (m after : Memory) (xs numbers : List (Option ℕ))
    → new_all (wanted_of start.references) m ≡ (numbers, after)
    → file ≡ record start { references = given_to start.references xs } → xs ≡ numbers
    → file ≡ record start { references = (preload start.references m).references }
loaded_file start file m after xs numbers made put same =
    put ∙ ap (λ (l : List Reference). let f : Map = record start { references = l } in f)
    (ap (given_to start.references) same ∙ loaded_references start.references m after numbers made)

pub loaded_memory : (references : List Reference) (m after : Memory) (numbers : List (Option ℕ))
    → new_all (wanted_of references) m ≡ (numbers, after) → after ≡ (preload references m).memory
loaded_memory references m after numbers made =
    sym ((loads references m).1 ∙ ap (λ (p : List (Option ℕ) × Memory). p.1) made)

-- what is purged for the references in order is what is purged for all handles
gone_wanted : (x : Reference) (references : List Reference) (m : Memory) → is_preload x ≡ true
    → preload_gone references (new_inside Resource (flags_of x) x.stored.datum m).1
    ≡ all_gone (wanted_of references) (new_inside Resource (flags_of x) x.stored.datum m).1
    → preload_gone (x ∷ references) m ≡ all_gone (wanted_of (x ∷ references)) m
gone_wanted x references m is again =
    let p = new_inside Resource (flags_of x) x.stored.datum m in
    let first : List Gone = handle_gone true x m in
    let one : preload_one x m ≡ given x p = rw is refl in
    ap (λ (t : Bool). cond t first [] ++ preload_gone references (preload_one x m).memory) is
    ∙ ap (λ (l : Loaded). first ++ preload_gone references l.memory) (one ∙ one_read x p)
    ∙ ap (λ (l : List Gone). first ++ l) again
    ∙ sym (ap (λ w. all_gone w m) (wanted_cons x references true is))

gone_other : (x : Reference) (references : List Reference) (m : Memory) → is_preload x ≡ false
    → preload_gone references m ≡ all_gone (wanted_of references) m
    → preload_gone (x ∷ references) m ≡ all_gone (wanted_of (x ∷ references)) m
gone_other x references m is again =
    let first : List Gone = handle_gone true x m in
    let alone : Loaded = record { references = x ∷ []; memory = m; reads = [] } in
    let one : preload_one x m ≡ alone = rw is refl in
    ap (λ (t : Bool). cond t first [] ++ preload_gone references (preload_one x m).memory) is
    ∙ ap (λ (l : Loaded). preload_gone references l.memory) one ∙ again
    ∙ sym (ap (λ w. all_gone w m) (wanted_cons x references false is))

gone_all : (references : List Reference) (m : Memory)
    → preload_gone references m ≡ all_gone (wanted_of references) m
gone_all [] m = refl
gone_all (x ∷ references) m =
    cases (is_preload x) refl (gone_all references (new_inside Resource (flags_of x) x.stored.datum m).1)
    (gone_all references m)
  where
    cases : (is : Bool) → is_preload x ≡ is
        → preload_gone references (new_inside Resource (flags_of x) x.stored.datum m).1
        ≡ all_gone (wanted_of references) (new_inside Resource (flags_of x) x.stored.datum m).1
        → preload_gone references m ≡ all_gone (wanted_of references) m
        → preload_gone (x ∷ references) m ≡ all_gone (wanted_of (x ∷ references)) m
    cases true is read passed = gone_wanted x references m is read
    cases false is read passed = gone_other x references m is passed

pub tells_loaded : {A : Type 0} (told : A → List Gone → Type 0) (references : List Reference) (m : Memory) (s s' : A)
    → Tells told (all_gone (wanted_of references) m) s s' → Tells told (preload_gone references m) s s'
tells_loaded told references m s s' tells = subst (λ l. Tells told l s s') (sym (gone_all references m)) tells
