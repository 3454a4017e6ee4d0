use Rattle.fork_format.proofs.Cited.{◌≡◌, ℕ, ◌+◌, ◌*◌, ◌%◌, ◌<◌, ◌≤◌, ◌^◌, Bool, true, false, cond, not, ◌&&◌, List, [], ◌∷◌, ◌++◌, length}
use Rattle.fork_format.proofs.Cited.{map, replicate, refl, sym, ◌∙◌, ap, arith, lit<, length-append, filter, nat_le, ◌==◌, flat_map}
use Rattle.fork_format.proofs.Cited.{list_all, append-nil, le-leb, and_parts, big_bytes, Group, Content, refs_of, distinct, joined, is_of}
use Rattle.fork_format.proofs.Cited.{number, part, offsets, data_start, map_start, name_list, type_list, type_count, type_places, group_at}
use Rattle.fork_format.proofs.Cited.{area_of, content_of, map_kept, types, clear_group, clear, canon, header, data_of, names_of, map_of}
use Rattle.fork_format.proofs.Cited.{lists, refs_offset, names_offset, are_distinct, references, most_data}
use Rattle.fork_format.proofs.Standing.{StandsAt, stands_whole, stands_first, stands_second, stands_same, number-stands}
use Rattle.fork_format.proofs.Standing.{part-stands, stands_inside}
use Rattle.fork_format.proofs.Groups.{AreLowGroups, groups_again, length-references}
use Rattle.fork_format.proofs.Bools.{same_self, not_same}

pub filter-all : {A : Type 0} (p : A → Bool) (xs : List A) → list_all p xs ≡ true → filter p xs ≡ xs
filter-all p [] h = refl
filter-all p (x ∷ xs) h = let both : (p x ≡ true) × (list_all p xs ≡ true) = and_parts (p x) (list_all p xs) h in
    rw both.0 (ap (λ l. x ∷ l) (filter-all p xs both.1))

distinct-same : (ns : List ℕ) → are_distinct ns ≡ true → distinct ns ≡ ns
distinct-same [] h = refl
distinct-same (n ∷ ns) h =
    let both : (list_all (λ m. not (m == n)) ns ≡ true) × (are_distinct ns ≡ true) =
    and_parts (list_all (λ m. not (m == n)) ns) (are_distinct ns) h in
    ap (λ l. n ∷ filter (λ m. not (m == n)) l) (distinct-same ns both.1)
    ∙ ap (λ l. n ∷ l) (filter-all (λ m. not (m == n)) ns both.0)

-- the group of a type
abbrev group_of : List Group → ℕ → Group
group_of groups k = record { kind = k; refs = flat_map (λ g. g.refs) (filter (is_of k) groups) }

-- no other group is of the type
none_of : (k : ℕ) (groups : List Group) → list_all (λ m. not (m == k)) (map (λ g. g.kind) groups) ≡ true
    → filter (is_of k) groups ≡ []
none_of k [] h = refl
none_of k (g ∷ groups) h =
    let both : (not (g.kind == k) ≡ true) × (list_all (λ m. not (m == k)) (map (λ (x : Group). x.kind) groups)
    ≡ true) = and_parts (not (g.kind == k)) (list_all (λ m. not (m == k)) (map (λ (x : Group). x.kind) groups)) h
    in
    cases (g.kind == k) both.0 (none_of k groups both.1)
  where
    cases : (t : Bool) → not t ≡ true → filter (is_of k) groups ≡ []
        → cond t (g ∷ filter (is_of k) groups) (filter (is_of k) groups) ≡ []
    cases true n e = cc
    cases false n e = e

-- a first group of another type changes nothing
groups_behind : (g : Group) (groups : List Group) (ks : List ℕ) → list_all (λ m. not (m == g.kind)) ks ≡ true
    → map (group_of (g ∷ groups)) ks ≡ map (group_of groups) ks
groups_behind g groups [] h = refl
groups_behind g groups (k ∷ ks) h =
    let both : (not (k == g.kind) ≡ true) × (list_all (λ m. not (m == g.kind)) ks ≡ true) =
    and_parts (not (k == g.kind)) (list_all (λ m. not (m == g.kind)) ks) h in
    rw (not_same k g.kind both.0) (ap (λ l. group_of groups k ∷ l) (groups_behind g groups ks both.1))

-- groups of different types are what they are joined to
pub joined-same : (groups : List Group) → are_distinct (map (λ g. g.kind) groups) ≡ true → joined groups ≡ groups
joined-same groups h = ap (map (group_of groups)) (distinct-same (map (λ (g : Group). g.kind) groups) h) ∙ each groups h
  where
    each : (groups : List Group) → are_distinct (map (λ (g : Group). g.kind) groups) ≡ true
        → map (group_of groups) (map (λ (g : Group). g.kind) groups) ≡ groups
    each [] h = refl
    each (g ∷ groups) h =
        let ks : List ℕ = map (λ (x : Group). x.kind) groups in
        let both : (list_all (λ m. not (m == g.kind)) ks ≡ true) × (are_distinct ks ≡ true) =
        and_parts (list_all (λ m. not (m == g.kind)) ks) (are_distinct ks) h in
        let own : flat_map (λ (x : Group). x.refs) (filter (is_of g.kind) (g ∷ groups)) ≡ g.refs =
        rw (same_self g.kind, none_of g.kind groups both.0) (append-nil g.refs) in
        let first : group_of (g ∷ groups) g.kind ≡ g = ap (λ r. let x : Group = record { kind = g.kind; refs = r } in
        x) own in
        ap (λ x. x ∷ map (group_of (g ∷ groups)) ks) first
        ∙ ap (λ l. g ∷ l) (groups_behind g groups ks both.0 ∙ each groups both.1)

pub length-types : (at : ℕ) (groups : List Group) → length (types at groups) ≡ 8 * length groups
length-types at [] = refl
length-types at (g ∷ groups) = let e : length (types (at + 12 * length g.refs) groups) ≡ 8 * length groups =
    length-types (at + 12 * length g.refs) groups in omega arith

kinds-clear : (groups : List Group) → map (λ (g : Group). g.kind) (map clear_group groups)
    ≡ map (λ (g : Group). g.kind) groups
kinds-clear [] = refl
kinds-clear (g ∷ groups) = ap (λ l. g.kind ∷ l) (kinds-clear groups)

-- a content that has a spelling
pub record CanSpell (c : Content) : Type 0 where
  pub area : length c.area ≡ 240
  pub attrs : c.attrs < 65536
  pub low : AreLowGroups (refs_offset c.groups) 0 0 c.groups
  pub different : are_distinct (map (λ (g : Group). g.kind) c.groups) ≡ true
  pub few : length c.groups ≤ 65535
  pub names : names_offset c.groups ≤ 65535
  pub small : length (data_of c.groups) ≤ most_data
  pub short : 28 + length (lists c.groups) < 2 ^ 32

-- where the parts of the canonical fork stand
pub record CanonStands (c : Content) (bytes : List ℕ) : Type 0 where
  pub at_data : data_start bytes ≡ 256
  pub at_map : map_start bytes ≡ 256 + length (data_of c.groups)
  pub at_types : type_list bytes ≡ map_start bytes + 28
  pub at_names : name_list bytes ≡ map_start bytes + names_offset c.groups
  pub data_length : number 4 8 bytes ≡ length (data_of c.groups)
  pub map_length : number 4 12 bytes ≡ 28 + length (lists c.groups)
  pub whole : length bytes ≡ map_start bytes + (28 + length (lists c.groups))
  pub area : StandsAt c.area 16 bytes
  pub attrs : StandsAt (big_bytes 2 c.attrs) (map_start bytes + 22) bytes
  pub datas : StandsAt (data_of c.groups) 256 bytes
  pub in_lists : StandsAt (lists c.groups) (type_list bytes) bytes

pub canon_stands : (c : Content) → CanSpell c → CanonStands c (canon c)
canon_stands c can =
    let bytes : List ℕ = canon c in
    let h : List ℕ = header c.groups in
    let d : List ℕ = data_of c.groups in
    let m : List ℕ = map_of c.attrs c.groups in
    let s4 : StandsAt (h ++ c.area ++ d ++ m) 0 bytes = stands_whole bytes in
    let s3 : StandsAt (h ++ c.area ++ d) 0 bytes = stands_first (h ++ c.area ++ d) m 0 bytes s4 in
    let s2 : StandsAt (h ++ c.area) 0 bytes = stands_first (h ++ c.area) d 0 bytes s3 in
    let s1 : StandsAt h 0 bytes = stands_first h c.area 0 bytes s2 in
    let x1 : List ℕ = big_bytes 4 256 in
    let x2 : List ℕ = big_bytes 4 (256 + length d) in
    let x3 : List ℕ = big_bytes 4 (length d) in
    let x4 : List ℕ = big_bytes 4 (28 + length (lists c.groups)) in
    let h3 : StandsAt (x1 ++ x2 ++ x3) 0 bytes = stands_first (x1 ++ x2 ++ x3) x4 0 bytes s1 in
    let h2 : StandsAt (x1 ++ x2) 0 bytes = stands_first (x1 ++ x2) x3 0 bytes h3 in
    let start : data_start bytes ≡ 256 = number-stands 4 256 0 bytes (lit< tt) (stands_first x1 x2 0 bytes h2) in
    let small : length d ≤ most_data = can.small in
    let middle : map_start bytes ≡ 256 + length d = number-stands 4 (256 + length d) 4 bytes (omega arith)
    (stands_second x1 x2 0 bytes h2) in
    let area_size : length c.area ≡ 240 = can.area in
    let len : length (h ++ c.area ++ d) ≡ 256 + length d = length-append (h ++ c.area) d ∙ omega arith in
    let two : 0 + length (h ++ c.area) ≡ 256 = ap (λ n. 0 + n) (length-append h c.area) ∙ omega arith in
    let at : ℕ = map_start bytes in
    let s : StandsAt m at bytes = stands_same m _ _ bytes (omega arith)
    (stands_second (h ++ c.area ++ d) m 0 bytes s4) in
    let z : List ℕ = replicate 6 0 in
    let y1 : List ℕ = big_bytes 2 c.attrs in
    let y2 : List ℕ = big_bytes 2 28 in
    let y3 : List ℕ = big_bytes 2 (names_offset c.groups) in
    let l : List ℕ = lists c.groups in
    let m4 : StandsAt (h ++ z ++ y1 ++ y2 ++ y3) at bytes = stands_first (h ++ z ++ y1 ++ y2 ++ y3) l at bytes s in
    let m3 : StandsAt (h ++ z ++ y1 ++ y2) at bytes = stands_first (h ++ z ++ y1 ++ y2) y3 at bytes m4 in
    let m2 : StandsAt (h ++ z ++ y1) at bytes = stands_first (h ++ z ++ y1) y2 at bytes m3 in
    let types_at : number 2 (at + 24) bytes ≡ 28 = number-stands 2 28 (at + 24) bytes (lit< tt)
    (stands_second (h ++ z ++ y1) y2 at bytes m3) in
    let few : names_offset c.groups ≤ 65535 = can.names in
    let names_at : number 2 (at + 26) bytes ≡ names_offset c.groups =
    number-stands 2 (names_offset c.groups) (at + 26) bytes (omega arith)
    (stands_second (h ++ z ++ y1 ++ y2) y3 at bytes m4) in
    let list : type_list bytes ≡ at + 28 = ap (λ n. at + n) types_at in
    record {
      at_data = start;
      at_map = middle;
      at_types = list;
      at_names = ap (λ n. at + n) names_at;
      data_length = number-stands 4 (length d) 8 bytes (omega arith) (stands_second (x1 ++ x2) x3 0 bytes h3);
      map_length = number-stands 4 (28 + length (lists c.groups)) 12 bytes can.short
          (stands_second (x1 ++ x2 ++ x3) x4 0 bytes s1);
      whole = length-append (h ++ c.area ++ d) m ∙ ap (λ n. n + length m) len ∙ omega arith;
      area = stands_second h c.area 0 bytes s2;
      attrs = stands_second (h ++ z) y1 at bytes m2;
      datas = stands_same d _ _ bytes two (stands_second (h ++ c.area) d 0 bytes s3);
      in_lists = stands_same l _ _ bytes (sym list) (stands_second (h ++ z ++ y1 ++ y2 ++ y3) l at bytes s);
    }

-- where the lists of the canonical fork stand
pub record ListsStand (c : Content) (bytes : List ℕ) : Type 0 where
  pub counted : type_count bytes ≡ length c.groups
  pub places : type_places bytes ≡ offsets (type_list bytes + 2) 8 (length c.groups)
  pub in_types : StandsAt (types (refs_offset c.groups) c.groups) (type_list bytes + 2) bytes
  pub in_refs : StandsAt (references 0 0 (refs_of c.groups)) (type_list bytes + refs_offset c.groups) bytes
  pub in_data : StandsAt (data_of c.groups) (data_start bytes + 0) bytes
  pub in_names : StandsAt (names_of c.groups) (name_list bytes + 0) bytes
  pub long : length (lists c.groups)
      ≡ refs_offset c.groups + 12 * length (refs_of c.groups) + length (names_of c.groups)

pub lists_stand : (c : Content) (bytes : List ℕ) → CanSpell c → CanonStands c bytes → ListsStand c bytes
lists_stand c bytes can s =
    let gs : List Group = c.groups in
    let t : ℕ = type_list bytes in
    let l1 : List ℕ = big_bytes 2 ((length gs + 65535) % 65536) in
    let l2 : List ℕ = types (refs_offset gs) gs in
    let l3 : List ℕ = references 0 0 (refs_of gs) in
    let l4 : List ℕ = names_of gs in
    let s3 : StandsAt (l1 ++ l2 ++ l3) t bytes = stands_first (l1 ++ l2 ++ l3) l4 t bytes s.in_lists in
    let s2 : StandsAt (l1 ++ l2) t bytes = stands_first (l1 ++ l2) l3 t bytes s3 in
    let few : length gs ≤ 65535 = can.few in
    let count : number 2 t bytes ≡ (length gs + 65535) % 65536 =
    number-stands 2 ((length gs + 65535) % 65536) t bytes (omega arith) (stands_first l1 l2 t bytes s2) in
    let n2 : length l2 ≡ 8 * length gs = length-types (refs_offset gs) gs in
    let n3 : length l3 ≡ 12 * length (refs_of gs) = length-references 0 0 (refs_of gs) in
    let n12 : length (l1 ++ l2) ≡ refs_offset gs = length-append l1 l2 ∙ omega arith in
    let p4 : t + length (l1 ++ l2 ++ l3) ≡ name_list bytes + 0 =
    ap (λ n. t + n) (length-append (l1 ++ l2) l3 ∙ ap (λ n. n + length l3) (length-append l1 l2))
    ∙ omega (arith, s.at_types, s.at_names) in
    let counted : type_count bytes ≡ length gs = ap (λ n. (n + 1) % 65536) count ∙ omega arith in
    record {
      counted = counted;
      places = ap (λ n. offsets (t + 2) 8 n) counted;
      in_types = stands_second l1 l2 t bytes s2;
      in_refs = stands_same l3 _ _ bytes (ap (λ n. t + n) n12) (stands_second (l1 ++ l2) l3 t bytes s3);
      in_data = stands_same (data_of gs) _ _ bytes (omega (arith, s.at_data)) s.datas;
      in_names = stands_same l4 _ _ bytes p4 (stands_second (l1 ++ l2 ++ l3) l4 t bytes s.in_lists);
      long = length-append (l1 ++ l2 ++ l3) l4
          ∙ ap (λ n. n + length l4) (length-append (l1 ++ l2) l3 ∙ ap (λ n. n + length l3) n12) ∙ omega arith;
    }

chosen : (a b d : Bool) (xs ys : List ℕ) → a ≡ true → b ≡ true → d ≡ true → cond (a && b && d) xs ys ≡ xs
chosen true true true xs ys p q r = refl
chosen true true false xs ys p q r = cc
chosen true false d xs ys p q r = cc
chosen false b d xs ys p q r = cc

-- a canonical fork says its content again
pub content_again : (c : Content) → CanSpell c → content_of (canon c) ≡ clear c
content_again c can =
    let bytes : List ℕ = canon c in
    let gs : List Group = c.groups in
    let s : CanonStands c bytes = canon_stands c can in
    let l : ListsStand c bytes = lists_stand c bytes can s in
    let groups : map (group_at bytes) (type_places bytes) ≡ map clear_group gs =
    ap (map (group_at bytes)) l.places ∙ groups_again gs (type_list bytes + 2) (refs_offset gs) 0 0 bytes can.low
    l.in_types l.in_refs l.in_data l.in_names in
    let all : joined (map (group_at bytes) (type_places bytes)) ≡ map clear_group gs =
    ap joined groups ∙ joined-same (map clear_group gs) (ap are_distinct (kinds-clear gs) ∙ can.different) in
    let attrs : map_kept (number 2 (map_start bytes + 22) bytes) ≡ map_kept c.attrs =
    ap map_kept (number-stands 2 c.attrs (map_start bytes + 22) bytes can.attrs s.attrs) in
    let long : 256 + length (data_of gs) ≤ length bytes = stands_inside (data_of gs) 256 bytes s.datas in
    let part_is : part 240 16 bytes ≡ c.area = ap (λ n. part n 16 bytes) (sym can.area)
    ∙ part-stands c.area 16 bytes s.area in
    let area : area_of bytes ≡ c.area =
    chosen (nat_le 256 (length bytes)) (nat_le 256 (data_start bytes)) (nat_le 256 (map_start bytes))
    (part 240 16 bytes) (replicate 240 0)
    (le-leb 256 (length bytes) (omega arith)) (le-leb 256 (data_start bytes) (omega (arith, s.at_data)))
    (le-leb 256 (map_start bytes) (omega (arith, s.at_map))) ∙ part_is in
    same area attrs all
  where
    same : {a a' : List ℕ} {m m' : ℕ} {g g' : List Group} → a ≡ a' → m ≡ m' → g ≡ g'
        → (let x : Content = record { area = a; attrs = m; groups = g } in
        x) ≡ record { area = a'; attrs = m'; groups = g' }
    same p q r = cc
