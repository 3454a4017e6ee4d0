-- What bytes spell can be listed.
use Rattle.fork_edits.proofs.Cited.{◌≡◌, ℕ, ◌+◌, ◌<◌, ◌≤◌, ◌^◌, Bool, true, false, cond, List, [], ◌∷◌, ◌++◌, map, length, Option, Some}
use Rattle.fork_edits.proofs.Cited.{None, drop, replicate, refl, sym, ◌∙◌, ap, subst, arith, zero, suc, append_assoc, append-nil, lit<}
use Rattle.fork_edits.proofs.Cited.{IfSome, IsTrue, ◌==◌, ◌&&◌, nat_le, slice_index, bit_and, sum_by, AllByRecursion, list_all, sfits_to_z}
use Rattle.fork_edits.proofs.Cited.{leb-true, length-append, length-take, sum_by-cons, and_le_r, each-append, big_from-lt, Ref, Group}
use Rattle.fork_edits.proofs.Cited.{Content, refs_of, joined, IsRef, IsGroup, number, part, offsets, data_start, map_start, type_places}
use Rattle.fork_edits.proofs.Cited.{ref_count, ref_places, name_place, name_at, ref_at, group_at, area_of, content_of, parts_fit, types_fit}
use Rattle.fork_edits.proofs.Cited.{refs_fit, all_refs, all_data, is_fork, Spells, most_data, most_references, put, joined-push}
use Rattle.fork_edits.proofs.Cited.{spelled_types, spelled_references, area_whole, HasByteName, IsListable, row, group_rows, rows}
use Rattle.fork_edits.proofs.Filing.{first_bytes}
use Rattle.fork_edits.proofs.Quoting.{IsByte}

-- the name of a resource is bytes
abbrev HasBytes : Ref → Type 0
HasBytes r = IfSome r.name (AllByRecursion IsByte)

-- a group whose parts keep their limits, and the names of whose resources are bytes
record IsGood (g : Group) : Type 0 where
  limits : IsGroup g
  names : AllByRecursion HasBytes g.refs

-- numbers in bytes
byte_at : (bytes : List ℕ) (k : ℕ) → AllByRecursion IsByte bytes → slice_index bytes k < 256
byte_at [] k h = lit< tt
byte_at (b ∷ bytes) zero h = h.0
byte_at (b ∷ bytes) (suc k) h = byte_at bytes k h.1

dropped : (n : ℕ) (bytes : List ℕ) → AllByRecursion IsByte bytes → AllByRecursion IsByte (drop n bytes)
dropped zero bytes h = h
dropped (suc n) [] h = tt
dropped (suc n) (b ∷ bytes) h = dropped n bytes h.1

number_small : (n at : ℕ) (bytes : List ℕ) → AllByRecursion IsByte bytes → number n at bytes < 256 ^ n
number_small n at bytes h = big_from-lt 0 n (drop at bytes) (λ k. byte_at (drop at bytes) k (dropped at bytes h))

part_short : (n at : ℕ) (bytes : List ℕ) → n < 256 → length (part n at bytes) ≤ 255
part_short n at bytes h = omega (arith, length-take n (drop at bytes))

name_short : (place : Option ℕ) (bytes : List ℕ) → AllByRecursion IsByte bytes → IfSome (name_at place bytes) (λ text. length text ≤ 255)
name_short None bytes h = tt
name_short (Some at) bytes h = part_short (number 1 at bytes) (at + 1) bytes (number_small 1 at bytes h)

name_bytes : (place : Option ℕ) (bytes : List ℕ) → AllByRecursion IsByte bytes → IfSome (name_at place bytes) (AllByRecursion IsByte)
name_bytes None bytes h = tt
name_bytes (Some at) bytes h = first_bytes (number 1 at bytes) (drop (at + 1) bytes) (dropped (at + 1) bytes h)

below : (n most : ℕ) → most < 256 → bit_and n most < 256
below n most h = let le = and_le_r n most in omega arith

ref_is : (bytes : List ℕ) (at : ℕ) → AllByRecursion IsByte bytes → IsRef (ref_at bytes at)
ref_is bytes at h = record {
  id = sfits_to_z (record { fits = number_small 2 at bytes h });
  attrs = below (number 1 (at + 4) bytes) 253 (lit< tt);
  name = name_short (name_place at bytes) bytes h;
}

all_mapped : (P : Ref → Type 0) (f : ℕ → Ref) → ((at : ℕ) → P (f at)) → (places : List ℕ) → AllByRecursion P (map f places)
all_mapped P f each [] = tt
all_mapped P f each (at ∷ places) = (each at, all_mapped P f each places)

group_good : (bytes : List ℕ) (at : ℕ) → AllByRecursion IsByte bytes → IsGood (group_at bytes at)
group_good bytes at h = record {
  limits = record {
    kind = number_small 4 at bytes h;
    refs = all_mapped IsRef (ref_at bytes) (λ r. ref_is bytes r h) (ref_places at bytes);
  };
  names = all_mapped HasBytes (ref_at bytes) (λ r. name_bytes (name_place r bytes) bytes h) (ref_places at bytes);
}

groups_good : (bytes places : List ℕ) → AllByRecursion IsByte bytes → AllByRecursion IsGood (map (group_at bytes) places)
groups_good bytes [] h = tt
groups_good bytes (at ∷ places) h = (group_good bytes at h, groups_good bytes places h)

-- groups that are joined
put_good : (g : Group) (groups : List Group) → IsGood g → AllByRecursion IsGood groups → AllByRecursion IsGood (put g groups)
put_good g [] k h = (k, tt)
put_good g (x ∷ groups) k h = by_test (x.kind == g.kind) (put_good g groups k h.1)
  where
    by_test : (t : Bool) → AllByRecursion IsGood (put g groups)
        → AllByRecursion IsGood (cond t (record x { refs = x.refs ++ g.refs } ∷ groups) (x ∷ put g groups))
    by_test true more = (
      record {
        limits = record { kind = h.0.limits.kind; refs = each-append IsRef x.refs g.refs h.0.limits.refs k.limits.refs };
        names = each-append HasBytes x.refs g.refs h.0.names k.names;
      },
      h.1,
    )
    by_test false more = (h.0, more)

put_count : (g : Group) (groups : List Group) → length (refs_of (put g groups)) ≡ length (refs_of groups) + length g.refs
put_count g [] = ap length (append-nil g.refs) ∙ omega arith
put_count g (x ∷ groups) = by_test (x.kind == g.kind) (put_count g groups)
  where
    by_test : (t : Bool) → length (refs_of (put g groups)) ≡ length (refs_of groups) + length g.refs
        → length (refs_of (cond t (record x { refs = x.refs ++ g.refs } ∷ groups) (x ∷ put g groups)))
        ≡ length (x.refs ++ refs_of groups) + length g.refs
    by_test true more =
        omega (arith, length-append (x.refs ++ g.refs) (refs_of groups), length-append x.refs g.refs, length-append x.refs (refs_of groups))
    by_test false more =
        omega (arith, length-append x.refs (refs_of (put g groups)), length-append x.refs (refs_of groups))

joined_good : (front groups : List Group) → AllByRecursion IsGood (joined front) → AllByRecursion IsGood groups
    → AllByRecursion IsGood (joined (front ++ groups))
joined_good front [] k h = subst (λ l. AllByRecursion IsGood (joined l)) (sym (append-nil front)) k
joined_good front (g ∷ groups) k h =
    subst (λ l. AllByRecursion IsGood (joined l)) (append_assoc front (g ∷ []) groups) (joined_good (front ++ g ∷ []) groups
    (subst (AllByRecursion IsGood) (sym (joined-push front g)) (put_good g (joined front) h.0 k)) h.1)

joined_count : (front groups : List Group)
    → length (refs_of (joined (front ++ groups))) ≡ length (refs_of (joined front)) + length (refs_of groups)
joined_count front [] = ap (λ l. length (refs_of (joined l))) (append-nil front) ∙ omega arith
joined_count front (g ∷ groups) =
    let more : length (refs_of (joined (front ++ g ∷ []))) ≡ length (refs_of (joined front)) + length g.refs =
    ap (λ l. length (refs_of l)) (joined-push front g) ∙ put_count g (joined front) in
    let rest : length (refs_of (joined (front ++ g ∷ groups)))
    ≡ length (refs_of (joined (front ++ g ∷ []))) + length (refs_of groups) =
    ap (λ l. length (refs_of (joined l))) (sym (append_assoc front (g ∷ []) groups)) ∙ joined_count (front ++ g ∷ []) groups in
    omega (arith, more, rest, length-append g.refs (refs_of groups))

-- the number of references
offsets_count : (first step n : ℕ) → length (offsets first step n) ≡ n
offsets_count first step zero = refl
offsets_count first step (suc n) = ap (λ k. suc k) (offsets_count (first + step) step n)

mapped_count : (f : ℕ → Ref) (places : List ℕ) → length (map f places) ≡ length places
mapped_count f [] = refl
mapped_count f (at ∷ places) = ap (λ k. suc k) (mapped_count f places)

group_count : (bytes : List ℕ) (at : ℕ) → length (group_at bytes at).refs ≡ ref_count bytes at
group_count bytes at = mapped_count (ref_at bytes) (ref_places at bytes) ∙ offsets_count _ 12 (ref_count bytes at)

groups_count : (bytes places : List ℕ) → length (refs_of (map (group_at bytes) places)) ≡ sum_by (ref_count bytes) places
groups_count bytes [] = refl
groups_count bytes (at ∷ places) =
    length-append (group_at bytes at).refs (refs_of (map (group_at bytes) places))
    ∙ ap (λ n. n + length (refs_of (map (group_at bytes) places))) (group_count bytes at)
    ∙ ap (λ n. ref_count bytes at + n) (groups_count bytes places) ∙ sym (sum_by-cons (ref_count bytes) at places)

group_rows_count : (k : ℕ) (refs : List Ref) → length (map (row k) refs) ≡ length refs
group_rows_count k [] = refl
group_rows_count k (r ∷ refs) = ap (λ n. suc n) (group_rows_count k refs)

rows_count : (groups : List Group) → length (rows groups) ≡ length (refs_of groups)
rows_count [] = refl
rows_count (g ∷ groups) =
    let here = group_rows_count g.kind g.refs in
    let more = rows_count groups in
    omega (arith, here, more, length-append (group_rows g) (rows groups), length-append g.refs (refs_of groups))

third : (a b c d e : Bool) → (a && b && c && d && e) ≡ true → c ≡ true
third true true true d e h = refl
third true true false d e h = cc
third true false c d e h = cc
third false b c d e h = cc

few_refs : (bytes : List ℕ) → is_fork bytes ≡ true → all_refs bytes ≤ 65536
few_refs bytes h =
    leb-true (all_refs bytes) 65536 (third (parts_fit bytes) (types_fit bytes) (nat_le (all_refs bytes) most_references)
    (list_all (refs_fit bytes) (type_places bytes)) (nat_le (all_data bytes) most_data) h)

rows_few : (bytes : List ℕ) → is_fork bytes ≡ true → length (rows (content_of bytes).groups) < 2 ^ 32
rows_few bytes h =
    let few = few_refs bytes h in
    let here = rows_count (content_of bytes).groups in
    let whole : length (refs_of (content_of bytes).groups) ≡ 0 + length (refs_of (map (group_at bytes) (type_places bytes))) =
    joined_count [] (map (group_at bytes) (type_places bytes)) in
    let all = groups_count bytes (type_places bytes) in
    omega (arith, few, here, whole, all)

-- the bytes after the header
zero_bytes : (n : ℕ) → AllByRecursion IsByte (replicate n 0)
zero_bytes zero = tt
zero_bytes (suc n) = (lit< tt, zero_bytes n)

area_bytes : (bytes : List ℕ) → AllByRecursion IsByte bytes → AllByRecursion IsByte (area_of bytes)
area_bytes bytes h = by_test (nat_le 256 (length bytes) && nat_le 256 (data_start bytes) && nat_le 256 (map_start bytes))
  where
    by_test : (t : Bool) → AllByRecursion IsByte (cond t (part 240 16 bytes) (replicate 240 0))
    by_test true = first_bytes 240 (drop 16 bytes) (dropped 16 bytes h)
    by_test false = zero_bytes 240

-- all groups and names
groups_limits : (groups : List Group) → AllByRecursion IsGood groups → AllByRecursion IsGroup groups
groups_limits [] h = tt
groups_limits (g ∷ groups) h = (h.0.limits, groups_limits groups h.1)

refs_names : (k : ℕ) (refs : List Ref) → AllByRecursion HasBytes refs → AllByRecursion HasByteName (map (row k) refs)
refs_names k [] h = tt
refs_names k (r ∷ refs) h = (h.0, refs_names k refs h.1)

rows_names : (groups : List Group) → AllByRecursion IsGood groups → AllByRecursion HasByteName (rows groups)
rows_names [] h = tt
rows_names (g ∷ groups) h =
    each-append HasByteName (group_rows g) (rows groups) (refs_names g.kind g.refs h.0.names) (rows_names groups h.1)

map_attrs : (n : ℕ) → bit_and n 65439 < 65536
map_attrs n = let le = and_le_r n 65439 in omega arith

spelled_whole : (bytes : List ℕ) → AllByRecursion IsByte bytes → IsTrue (is_fork bytes) → IsListable (content_of bytes)
spelled_whole bytes h fork =
    let spells : Spells bytes (content_of bytes) = record { fork = fork; content = refl } in
    let good : AllByRecursion IsGood (content_of bytes).groups =
    joined_good [] (map (group_at bytes) (type_places bytes)) tt (groups_good bytes (type_places bytes) h) in
    record {
      limits = record {
        area = area_whole bytes;
        attrs = map_attrs (number 2 (map_start bytes + 22) bytes);
        groups = groups_limits (content_of bytes).groups good;
      };
      types = spelled_types bytes (content_of bytes) spells;
      resources = spelled_references bytes (content_of bytes) spells;
      area = area_bytes bytes h;
      names = rows_names (content_of bytes).groups good;
      few = rows_few bytes fork;
    }

-- what bytes spell can be listed
pub spelled_listable : (bytes : List ℕ) (c : Content) → AllByRecursion (λ b. b < 256) bytes → Spells bytes c → IsListable c
spelled_listable bytes c h spells = subst IsListable spells.content (spelled_whole bytes h spells.fork)
