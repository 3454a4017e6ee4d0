use Rattle.fork_commands.proofs.Cited.{◌≡◌, ℕ, zero, suc, ◌+◌, Bool, true, false, cond, List, [], ◌∷◌, map, drop, replicate, arith, Option}
use Rattle.fork_commands.proofs.Cited.{Some, None, Ok, Err, refl, ◌==◌, nat_le, ◌&&◌, filter, IfSome, flat_map, AllByRecursion, Ref, Group}
use Rattle.fork_commands.proofs.Cited.{Content, is_of, distinct, number, part, ref_at, ref_places, group_at, type_places, content_of}
use Rattle.fork_commands.proofs.Cited.{area_of, name_at, name_place, map_start, data_start, is_fork, Spells, AreBytes, HasBytes, IsOfBytes}
use Rattle.fork_commands.proofs.Cited.{END_OF_FILE, MAP_READ, Code, content_or_fault, content_of_fork, bytes-take, bytes-drop, each-append}
use Rattle.std.specs.Prelude.{length}

-- The content of a fork of bytes is of bytes.

pub zeros : (n : ℕ) → AreBytes (replicate n 0)
zeros zero = tt
zeros (suc n) = (omega arith, zeros n)

a_part : (n at : ℕ) (bytes : List ℕ) → AreBytes bytes → AreBytes (part n at bytes)
a_part n at bytes are = bytes-take n (drop at bytes) (bytes-drop at bytes are)

a_name : (place : Option ℕ) (bytes : List ℕ) → AreBytes bytes → IfSome (name_at place bytes) AreBytes
a_name None bytes are = tt
a_name (Some at) bytes are = a_part (number 1 at bytes) (at + 1) bytes are

a_ref : (bytes : List ℕ) (at : ℕ) → AreBytes bytes → HasBytes (ref_at bytes at)
a_ref bytes at are = record {
  name = a_name (name_place at bytes) bytes are;
  datum = a_part _ _ bytes are;
}

refs : (bytes places : List ℕ) → AreBytes bytes → AllByRecursion HasBytes (map (ref_at bytes) places)
refs bytes [] are = tt
refs bytes (at ∷ places) are = (a_ref bytes at are, refs bytes places are)

-- the resources of the groups of a type
abbrev of_kind : ℕ → List Group → List Ref
of_kind k groups = flat_map (λ (g : Group). g.refs) (filter (is_of k) groups)

of_type : (k : ℕ) (bytes places : List ℕ) → AreBytes bytes → AllByRecursion HasBytes (of_kind k (map (group_at bytes) places))
of_type k bytes [] are = tt
of_type k bytes (at ∷ places) are = cases (is_of k (group_at bytes at)) (of_type k bytes places are)
  where
    cases : (t : Bool) → AllByRecursion HasBytes (of_kind k (map (group_at bytes) places))
        → AllByRecursion HasBytes (flat_map (λ (g : Group). g.refs) (cond t (group_at bytes at ∷ filter (is_of k)
        (map (group_at bytes) places)) (filter (is_of k) (map (group_at bytes) places))))
    cases true rest = each-append HasBytes (map (ref_at bytes) (ref_places at bytes)) _ (refs bytes (ref_places at bytes) are) rest
    cases false rest = rest

abbrev group_of : List Group → ℕ → Group
group_of groups k = record { kind = k; refs = of_kind k groups }

by_type : (bytes places ks : List ℕ) → AreBytes bytes
    → AllByRecursion (λ (g : Group). AllByRecursion HasBytes g.refs) (map (group_of (map (group_at bytes) places)) ks)
by_type bytes places [] are = tt
by_type bytes places (k ∷ ks) are = (of_type k bytes places are, by_type bytes places ks are)

an_area : (bytes : List ℕ) → AreBytes bytes → AreBytes (area_of bytes)
an_area bytes are = cases (nat_le 256 (length bytes)) (nat_le 256 (data_start bytes)) (nat_le 256 (map_start bytes))
  where
    cases : (a b d : Bool) → AreBytes (cond (a && b && d) (part 240 16 bytes) (replicate 240 0))
    cases true true true = a_part 240 16 bytes are
    cases true true false = zeros 240
    cases true false d = zeros 240
    cases false b d = zeros 240

pub of_bytes : (bytes : List ℕ) → AreBytes bytes → IsOfBytes (content_of bytes)
of_bytes bytes are = record {
  area = an_area bytes are;
  refs = by_type bytes (type_places bytes) (distinct (map (λ (g : Group). g.kind) (map (group_at bytes) (type_places bytes)))) are;
}

-- a content that was read is spelled by the fork
pub spelled_by : (fork : List ℕ) (c : Content) → content_of_fork fork ≡ Ok c → Spells fork c
unfolding content_of_fork
spelled_by fork c = cases (length fork == 0) (is_fork fork) refl
  where
    cases : (none good : Bool) → is_fork fork ≡ good
        → content_or_fault (cond none (Err END_OF_FILE) (cond good (Ok (content_of fork)) (Err MAP_READ))) ≡ Ok c → Spells fork c
    cases true good e is = absurd (let no : Err (Code END_OF_FILE) ≡ Ok c = is in cc)
    cases false false e is = absurd (let no : Err (Code MAP_READ) ≡ Ok c = is in cc)
    cases false true e is = record { fork = e; content = let same : Ok (content_of fork) ≡ Ok c = is in cc }
