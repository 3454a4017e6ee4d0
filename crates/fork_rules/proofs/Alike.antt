use Rattle.fork_rules.proofs.Cited.{◌≡◌, ℕ, ◌+◌, ◌-◌, ◌*◌, ◌%◌, ◌<◌, ◌≤◌, Bool, true, false, cond, not, List, [], ◌∷◌, ◌++◌, length, take}
use Rattle.fork_rules.proofs.Cited.{drop, refl, sym, ◌∙◌, ap, arith, zero, suc, lit<, get_or, filter, flat_map, Decides, bytes_eq}
use Rattle.fork_rules.proofs.Cited.{take-append-drop, drop-drop, take-add, slice_eq-Decides, bytes_eq-Decides, big_number, big_from-take}
use Rattle.fork_rules.proofs.Cited.{number, part, offsets, data_start, map_start, map_end, type_list, name_list, type_count, type_places}
use Rattle.fork_rules.proofs.Cited.{ref_places, Region, REGIONS, all_places, column, bytes_of, differs, differences}
use Rattle.fork_rules.specs.declared.regions.Region.TheVariants as region

-- Two forks that are alike in every region are equal, if the regions of the second follow one another.

-- lists that begin alike and go on alike
seam : (n at : ℕ) (a b : List ℕ) → part n at a ≡ part n at b → drop (at + n) a ≡ drop (at + n) b → drop at a ≡ drop at b
seam n at a b p q = sym (take-append-drop n (drop at a))
    ∙ joined p (drop-drop n at a ∙ q ∙ sym (drop-drop n at b)) ∙ take-append-drop n (drop at b)
  where
    joined : {xs xs' ys ys' : List ℕ} → xs ≡ xs' → ys ≡ ys' → (xs ++ ys) ≡ (xs' ++ ys')
    joined p q = cc

-- a number is that of its own bytes
same_number : (n at at' : ℕ) (a b : List ℕ) → part n at a ≡ part n at' b → number n at a ≡ number n at' b
same_number n at at' a b p = sym (big_from-take 0 n n (drop at a) (omega arith)) ∙ ap (big_number n) p
    ∙ big_from-take 0 n n (drop at' b) (omega arith)

-- the part of the first fork at the place where the second has it
moved : (n n' at at' : ℕ) (a b : List ℕ) → n ≡ n' → at ≡ at' → part n at a ≡ part n' at' b → part n' at' a ≡ part n' at' b
moved n n' at at' a b p q e = ap (λ k. part k at' a) (sym p) ∙ ap (λ k. part n k a) (sym q) ∙ e

-- parts that follow one another, as one
longer : (n m at : ℕ) (a b : List ℕ) → part n at a ≡ part n at b → part m (at + n) a ≡ part m (at + n) b
    → part (n + m) at a ≡ part (n + m) at b
longer n m at a b p q = take-add n m (drop at a)
    ∙ joined p (ap (take m) (drop-drop n at a) ∙ q ∙ sym (ap (take m) (drop-drop n at b)))
    ∙ sym (take-add n m (drop at b))
  where
    joined : {xs xs' ys ys' : List ℕ} → xs ≡ xs' → ys ≡ ys' → (xs ++ ys) ≡ (xs' ++ ys')
    joined p q = cc

-- a copy of the header is the header, where that of another fork is its own
copied : (t u : Bool) (xs ys : List ℕ) {P : Type 0} → cond t [] (xs ∷ []) ≡ cond u [] (ys ∷ []) → u ≡ true → Decides t P → P
copied true true xs ys e h d = d.0 refl
copied true false xs ys e h d = cc
copied false true xs ys e h d = cc
copied false false xs ys e h d = cc

-- first and other items
firsts : {A : Type 0} {x y : A} {xs ys : List A} → x ∷ xs ≡ y ∷ ys → x ≡ y
firsts h = cc

others : {A : Type 0} {x y : A} {xs ys : List A} → x ∷ xs ≡ y ∷ ys → xs ≡ ys
others h = cc

-- a field at a distance of 0
begins : (n at : ℕ) (a b : List ℕ) → part n (at + 0) a ≡ part n (at + 0) b → part n at a ≡ part n at b
begins n at a b p = let e : at + 0 ≡ at = omega arith in
    ap (λ k. part n k a) (sym e) ∙ p ∙ ap (λ k. part n k b) e

-- what stands at an offset is alike where it is at an equal one
beyond : {at at' : ℕ} (a b : List ℕ) → at ≡ at' → drop at a ≡ drop at b → drop at' a ≡ drop at' b
beyond a b e p = rw (← e) p

-- entries of a type list whose fields are alike
entries_alike : (n t : ℕ) (a b : List ℕ) → column 4 0 (offsets t 8 n) a ≡ column 4 0 (offsets t 8 n) b
    → column 2 4 (offsets t 8 n) a ≡ column 2 4 (offsets t 8 n) b
    → column 2 6 (offsets t 8 n) a ≡ column 2 6 (offsets t 8 n) b
    → drop (t + 8 * n) a ≡ drop (t + 8 * n) b → drop t a ≡ drop t b
entries_alike zero t a b p q r rest = beyond a b (omega arith) rest
entries_alike (suc n) t a b p q r rest =
    let next : drop (t + 8) a ≡ drop (t + 8) b = entries_alike n (t + 8) a b (others p) (others q) (others r)
    (beyond a b (omega arith) rest) in
    let six : drop (t + 6) a ≡ drop (t + 6) b = seam 2 (t + 6) a b (firsts r) (beyond a b (omega arith) next) in
    let four : drop (t + 4) a ≡ drop (t + 4) b = seam 2 (t + 4) a b (firsts q) (beyond a b (omega arith) six) in
    seam 4 t a b (begins 4 t a b (firsts p)) four

-- references whose fields are alike
references_alike : (n t : ℕ) (a b : List ℕ) → column 2 0 (offsets t 12 n) a ≡ column 2 0 (offsets t 12 n) b
    → column 2 2 (offsets t 12 n) a ≡ column 2 2 (offsets t 12 n) b
    → column 1 4 (offsets t 12 n) a ≡ column 1 4 (offsets t 12 n) b
    → column 3 5 (offsets t 12 n) a ≡ column 3 5 (offsets t 12 n) b
    → column 4 8 (offsets t 12 n) a ≡ column 4 8 (offsets t 12 n) b
    → drop (t + 12 * n) a ≡ drop (t + 12 * n) b → drop t a ≡ drop t b
references_alike zero t a b i m s d h rest = beyond a b (omega arith) rest
references_alike (suc n) t a b i m s d h rest =
    let next : drop (t + 12) a ≡ drop (t + 12) b = references_alike n (t + 12) a b (others i) (others m) (others s)
    (others d) (others h) (beyond a b (omega arith) rest) in
    let eight : drop (t + 8) a ≡ drop (t + 8) b = seam 4 (t + 8) a b (firsts h) (beyond a b (omega arith) next) in
    let five : drop (t + 5) a ≡ drop (t + 5) b = seam 3 (t + 5) a b (firsts d) (beyond a b (omega arith) eight) in
    let four : drop (t + 4) a ≡ drop (t + 4) b = seam 1 (t + 4) a b (firsts s) (beyond a b (omega arith) five) in
    let two : drop (t + 2) a ≡ drop (t + 2) b = seam 2 (t + 2) a b (firsts m) (beyond a b (omega arith) four) in
    seam 2 t a b (begins 2 t a b (firsts i)) two

-- types whose numbers of resources and offsets of lists are alike have their references at the same places
same_lists : (l : ℕ) (ps : List ℕ) (a b : List ℕ) → column 2 4 ps a ≡ column 2 4 ps b → column 2 6 ps a ≡ column 2 6 ps b
    → flat_map (λ t. offsets (l + number 2 (t + 6) a) 12 (number 2 (t + 4) a + 1)) ps
    ≡ flat_map (λ t. offsets (l + number 2 (t + 6) b) 12 (number 2 (t + 4) b + 1)) ps
same_lists l [] a b p q = refl
same_lists l (t ∷ ps) a b p q = both
    (ap (λ k. offsets (l + k) 12 (number 2 (t + 4) a + 1)) (same_number 2 (t + 6) (t + 6) a b (firsts q))
    ∙ ap (λ k. offsets (l + number 2 (t + 6) b) 12 (k + 1)) (same_number 2 (t + 4) (t + 4) a b (firsts p)))
    (same_lists l ps a b (others p) (others q))
  where
    both : {xs xs' ys ys' : List ℕ} → xs ≡ xs' → ys ≡ ys' → (xs ++ ys) ≡ (xs' ++ ys')
    both p q = cc

-- a fork whose regions follow one another
pub record Follow (b : List ℕ) (n : ℕ) : Type 0 where
  pub at_data : data_start b ≡ 256
  pub at_map : map_start b ≡ 256 + number 4 8 b
  pub copy : part 16 (map_start b) b ≡ part 16 0 b
  pub at_types : type_list b ≡ map_start b + 28
  pub references : all_places b ≡ offsets (type_list b + 2 + 8 * type_count b) 12 n
  pub names : name_list b ≡ type_list b + 2 + 8 * type_count b + 12 * n
  pub end : name_list b ≤ map_end b

-- the columns at the same places
placed : (n d : ℕ) (ps qs : List ℕ) (a b : List ℕ) → ps ≡ qs → column n d ps a ≡ column n d qs b
    → column n d qs a ≡ column n d qs b
placed n d ps qs a b e p = ap (λ xs. column n d xs a) (sym e) ∙ p

pub equal : (a b : List ℕ) (n : ℕ) → ((r : Region) → bytes_of r a ≡ bytes_of r b) → Follow b n → a ≡ b
equal a b n e f =
    let at_data : data_start a ≡ data_start b = same_number 4 0 0 a b (firsts (e region.DataOffset)) in
    let at_map : map_start a ≡ map_start b = same_number 4 4 4 a b (firsts (e region.MapOffset)) in
    let data_size : number 4 8 a ≡ number 4 8 b = same_number 4 8 8 a b (firsts (e region.DataLength)) in
    let map_size : number 4 12 a ≡ number 4 12 b = same_number 4 12 12 a b (firsts (e region.MapLength)) in
    let ends : map_end a ≡ map_end b = omega (arith, at_map, map_size) in
    let to_types : number 2 (map_start a + 24) a ≡ number 2 (map_start b + 24) b =
    same_number 2 (map_start a + 24) (map_start b + 24) a b (firsts (e region.TypeListOffset)) in
    let to_names : number 2 (map_start a + 26) a ≡ number 2 (map_start b + 26) b =
    same_number 2 (map_start a + 26) (map_start b + 26) a b (firsts (e region.NameListOffset)) in
    let at_types : type_list a ≡ type_list b = omega (arith, at_map, to_types) in
    let at_names : name_list a ≡ name_list b = omega (arith, at_map, to_names) in
    let counted : type_count a ≡ type_count b =
    ap (λ k. (k + 1) % 65536) (same_number 2 (type_list a) (type_list b) a b (firsts (e region.TypeCount))) in
    let t : ℕ = type_list b + 2 in
    let m : ℕ = type_count b in
    let entries : type_places a ≡ type_places b =
    ap (λ k. offsets (k + 2) 8 (type_count a)) at_types ∙ ap (λ k. offsets t 8 k) counted in
    let counts : column 2 4 (type_places b) a ≡ column 2 4 (type_places b) b =
    placed 2 4 (type_places a) (type_places b) a b entries (e region.Counts) in
    let lists : column 2 6 (type_places b) a ≡ column 2 6 (type_places b) b =
    placed 2 6 (type_places a) (type_places b) a b entries (e region.ListOffsets) in
    let places : all_places a ≡ all_places b =
    ap (flat_map (λ type. ref_places type a)) entries
    ∙ ap (λ l. flat_map (λ type. offsets (l + number 2 (type + 6) a) 12 (number 2 (type + 4) a + 1)) (type_places b)) at_types
    ∙ same_lists (type_list b) (type_places b) a b counts lists in
    let follow : all_places a ≡ offsets (t + 8 * m) 12 n = places ∙ f.references in
    let own : all_places b ≡ offsets (t + 8 * m) 12 n = f.references in
    let rest : drop (map_end b) a ≡ drop (map_end b) b =
    ap (λ k. drop k a) (sym ends) ∙ firsts (e region.Rest) in
    let names : drop (name_list b) a ≡ drop (name_list b) b =
    seam (map_end b - name_list b) (name_list b) a b
    (moved (map_end a - name_list a) (map_end b - name_list b) (name_list a) (name_list b) a b
    (ap (λ k. k - name_list a) ends ∙ ap (λ k. map_end b - k) at_names) at_names (firsts (e region.Names)))
    (beyond a b (let low = f.end in omega (arith, low)) rest) in
    let refs : drop (t + 8 * m) a ≡ drop (t + 8 * m) b =
    references_alike n (t + 8 * m) a b (listed 2 0 follow own (e region.Ids)) (listed 2 2 follow own (e region.NameOffsets))
    (listed 1 4 follow own (e region.Attributes)) (listed 3 5 follow own (e region.DatumOffsets))
    (listed 4 8 follow own (e region.Handles)) (beyond a b f.names names) in
    let types : drop t a ≡ drop t b =
    entries_alike m t a b (placed 4 0 (type_places a) (type_places b) a b entries (e region.Types)) counts lists refs in
    let count : drop (type_list b) a ≡ drop (type_list b) b =
    seam 2 (type_list b) a b (moved 2 2 (type_list a) (type_list b) a b refl at_types (firsts (e region.TypeCount))) types in
    let s : ℕ = map_start b in
    let e26 : drop (s + 26) a ≡ drop (s + 26) b =
    seam 2 (s + 26) a b (in_map 2 26 at_map (e region.NameListOffset)) (beyond a b (let g = f.at_types in omega (arith, g)) count) in
    let e24 : drop (s + 24) a ≡ drop (s + 24) b =
    seam 2 (s + 24) a b (in_map 2 24 at_map (e region.TypeListOffset)) (beyond a b (omega arith) e26) in
    let e22 : drop (s + 22) a ≡ drop (s + 22) b =
    seam 2 (s + 22) a b (in_map 2 22 at_map (e region.MapAttributes)) (beyond a b (omega arith) e24) in
    let e20 : drop (s + 20) a ≡ drop (s + 20) b =
    seam 2 (s + 20) a b (in_map 2 20 at_map (e region.FileNumber)) (beyond a b (omega arith) e22) in
    let e16 : drop (s + 16) a ≡ drop (s + 16) b =
    seam 4 (s + 16) a b (in_map 4 16 at_map (e region.NextMap)) (beyond a b (omega arith) e20) in
    let head : part 16 0 a ≡ part 16 0 b =
    longer 12 4 0 a b (longer 8 4 0 a b (longer 4 4 0 a b (firsts (e region.DataOffset)) (firsts (e region.MapOffset)))
    (firsts (e region.DataLength))) (firsts (e region.MapLength)) in
    let own_copy : part 16 (map_start a) a ≡ part 16 0 a =
    copied (bytes_eq (part 16 (map_start a) a) (part 16 0 a)) (bytes_eq (part 16 s b) (part 16 0 b)) _ _
    (e region.HeaderCopy) ((bytes_eq-Decides (part 16 s b) (part 16 0 b)).1 f.copy)
    (bytes_eq-Decides (part 16 (map_start a) a) (part 16 0 a)) in
    let copy : part 16 (map_start a) a ≡ part 16 s b = own_copy ∙ head ∙ sym f.copy in
    let e0 : drop s a ≡ drop s b = seam 16 s a b (moved 16 16 (map_start a) s a b refl at_map copy) e16 in
    let datas : drop (data_start b) a ≡ drop (data_start b) b =
    seam (number 4 8 b) (data_start b) a b (moved (number 4 8 a) (number 4 8 b) (data_start a) (data_start b) a b data_size at_data
    (firsts (e region.Data)))
    (beyond a b (let g = f.at_data in let h = f.at_map in omega (arith, g, h)) e0) in
    let area : drop 16 a ≡ drop 16 b = seam 240 16 a b (firsts (e region.Area)) (beyond a b f.at_data datas) in
    let h12 : drop 12 a ≡ drop 12 b = seam 4 12 a b (firsts (e region.MapLength)) area in
    let h8 : drop 8 a ≡ drop 8 b = seam 4 8 a b (firsts (e region.DataLength)) h12 in
    let h4 : drop 4 a ≡ drop 4 b = seam 4 4 a b (firsts (e region.MapOffset)) h8 in
    seam 4 0 a b (firsts (e region.DataOffset)) h4
  where
    listed : (k d : ℕ) {ps : List ℕ} → all_places a ≡ ps → all_places b ≡ ps
        → column k d (all_places a) a ≡ column k d (all_places b) b → column k d ps a ≡ column k d ps b
    listed k d p q c = ap (λ xs. column k d xs a) (sym p) ∙ c ∙ ap (λ xs. column k d xs b) q

    in_map : (k d : ℕ) → map_start a ≡ map_start b
        → part k (map_start a + d) a ∷ [] ≡ part k (map_start b + d) b ∷ []
        → part k (map_start b + d) a ≡ part k (map_start b + d) b
    in_map k d at_map c = moved k k (map_start a + d) (map_start b + d) a b refl (ap (λ x. x + d) at_map) (firsts c)

-- of items of which none passes, each does not pass
none_passes : (p : Region → Bool) (xs : List Region) → filter p xs ≡ [] → (k : ℕ) (x : Region) → k < length xs
    → p (get_or xs k x) ≡ false
none_passes p [] h k x low = absurd (omega arith)
none_passes p (y ∷ xs) h k x low = cases (p y) refl h (λ g. none_passes p xs g) k low
  where
    cases : (t : Bool) → p y ≡ t → cond t (y ∷ filter p xs) (filter p xs) ≡ []
        → (filter p xs ≡ [] → (k : ℕ) (x : Region) → k < length xs → p (get_or xs k x) ≡ false)
        → (k : ℕ) → k < length (y ∷ xs) → p (get_or (y ∷ xs) k x) ≡ false
    cases true e h again k low = cc
    cases false e h again zero low = e
    cases false e h again (suc k) low = again h k x (omega arith)

-- each region is among all
no_difference : (a b : List ℕ) → differences a b ≡ [] → (r : Region) → differs a b r ≡ false
no_difference a b h r = by_place r (λ k low. none_passes (differs a b) REGIONS h k region.DataOffset low)
  where
    by_place : (r : Region) → ((k : ℕ) → k < 23 → differs a b (get_or REGIONS k region.DataOffset) ≡ false)
        → differs a b r ≡ false
    by_place region.DataOffset at = at 0 (lit< tt)
    by_place region.MapOffset at = at 1 (lit< tt)
    by_place region.DataLength at = at 2 (lit< tt)
    by_place region.MapLength at = at 3 (lit< tt)
    by_place region.Area at = at 4 (lit< tt)
    by_place region.Data at = at 5 (lit< tt)
    by_place region.HeaderCopy at = at 6 (lit< tt)
    by_place region.NextMap at = at 7 (lit< tt)
    by_place region.FileNumber at = at 8 (lit< tt)
    by_place region.MapAttributes at = at 9 (lit< tt)
    by_place region.TypeListOffset at = at 10 (lit< tt)
    by_place region.NameListOffset at = at 11 (lit< tt)
    by_place region.TypeCount at = at 12 (lit< tt)
    by_place region.Types at = at 13 (lit< tt)
    by_place region.Counts at = at 14 (lit< tt)
    by_place region.ListOffsets at = at 15 (lit< tt)
    by_place region.Ids at = at 16 (lit< tt)
    by_place region.NameOffsets at = at 17 (lit< tt)
    by_place region.Attributes at = at 18 (lit< tt)
    by_place region.DatumOffsets at = at 19 (lit< tt)
    by_place region.Handles at = at 20 (lit< tt)
    by_place region.Names at = at 21 (lit< tt)
    by_place region.Rest at = at 22 (lit< tt)

-- where no region differs, each is alike
pub alike : (a b : List ℕ) → differences a b ≡ [] → (r : Region) → bytes_of r a ≡ bytes_of r b
alike a b h r = (slice_eq-Decides bytes_eq-Decides (bytes_of r a) (bytes_of r b) _ refl).0 (whole _ (no_difference a b h r))
  where
    whole : (t : Bool) → not t ≡ false → t ≡ true
    whole true h = refl
    whole false h = cc

-- a fork differs from itself in no region
pub none_of_itself : (a : List ℕ) → differences a a ≡ []
none_of_itself a = nothing REGIONS
  where
    itself : (r : Region) → differs a a r ≡ false
    itself r = ap not ((slice_eq-Decides bytes_eq-Decides (bytes_of r a) (bytes_of r a) _ refl).1 refl)

    nothing : (rs : List Region) → filter (differs a a) rs ≡ []
    nothing [] = refl
    nothing (r ∷ rs) = rw (itself r) (nothing rs)

-- so bytes differ from a fork whose regions follow one another in no region exactly where they are that fork
pub exactly : (bytes : List ℕ) (b : List ℕ) (n : ℕ) (found : List Region) → Follow b n → found ≡ differences bytes b
    → (found ≡ [] → bytes ≡ b) × (bytes ≡ b → found ≡ [])
exactly bytes b n found f is = (
  λ h. equal bytes b n (alike bytes b (sym is ∙ h)) f,
  λ e. is ∙ ap (λ a. differences a b) e ∙ none_of_itself b,
)
