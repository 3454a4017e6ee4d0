use Rattle.list_store.proofs.Cited.{◌≡◌, ℕ, ◌+◌, ◌-◌, ◌≤◌, ◌<◌, zero, suc, Bool, true, false, ◌||◌, List, [], ◌∷◌, ◌++◌, length, take, drop}
use Rattle.list_store.proofs.Cited.{map, get_or, refl, sym, ◌∙◌, ap, subst, arith, Option, Some, None, append_assoc, slice_set, drop-map}
use Rattle.list_store.proofs.Cited.{take-map, map-append, take-append-drop, length-map, length-take, length-drop, drop_all, drop-drop}
use Rattle.list_store.proofs.Cited.{take_at, none-some, same_Some, remove, insert, option_map, IfSome, IsSomeAnd, IsTrue, Block, Free}
use Rattle.list_store.proofs.Cited.{sizes, total, free, free_sum, size, tidy, has, movers, has_free, RunSpot, with_run, run_at, is_free}
use Rattle.list_store.proofs.Cited.{Spot, raised, StoredBlock, block_of, blocks_of, nth_spot, Loose, cleared, cleared_first, packed}
use Rattle.list_store.proofs.Cited.{run_between, run_at-parts, the_some, cleared-free, cleared-other, tidy-packed, take-last, drop-last}
use Rattle.list_store.proofs.Cited.{tidy-run, total-between, run-above, raised-fits, raised-run, free-enough, Raised}
use borrow.Rule.Slice.PartMut.{put_mid, post_of, same_len_mid}
use Rattle.list_store.specs.declared.entries.StoredBlock.TheVariants as entry
use Rattle.list_store.proofs.Zone.Listing.{drop-blocks, nth_spot-at, blocks-remove}
use Rattle.list_store.proofs.Zone.Spots.{blocks-set}

-- a test among the blocks from an entry on
pub has-drop : (t : Block → Bool) (es : List StoredBlock) (i : ℕ) (e : StoredBlock) → i < length es → e ≡ get_or es i e
    → t (block_of e) ≡ false → has t (drop (i + 1) (blocks_of es)) ≡ has t (drop i (blocks_of es))
has-drop t es i e within is fails = sym (ap (has t) (drop-blocks es i e within is)
    ∙ ap (λ u. u || has t (drop (i + 1) (blocks_of es))) fails)

pub nth-passes : (t : Block → Bool) (es : List StoredBlock) (i : ℕ) (e : StoredBlock) → i < length es
    → e ≡ get_or es i e → t (block_of e) ≡ true → IsSomeAnd (nth_spot i (blocks_of es)) (λ s. IsTrue (t s.here))
nth-passes t es i e within is passes =
    subst (λ o. IsSomeAnd o (λ (s : Spot). IsTrue (t s.here)))
    (sym (nth_spot-at i (blocks_of es) (block_of e) (drop (i + 1) (blocks_of es)) (drop-blocks es i e within is)))
    passes

pub cleared-set : (es : List StoredBlock) (i : ℕ) (e : StoredBlock) (after : List StoredBlock) → i < length es
    → e ≡ get_or es i e → is_free (block_of e) ≡ true → blocks_of after ≡ take i (blocks_of es)
    ++ Free 0 ∷ drop (i + 1) (blocks_of es)
    → blocks_of after ≡ take i (blocks_of es) ++ cleared_first (drop i (blocks_of es))
cleared-set es i e after within is free set =
    set ∙ ap (λ b. take i (blocks_of es) ++ b ∷ drop (i + 1) (blocks_of es)) (sym (cleared-free (block_of e) free))
    ∙ ap (λ l. take i (blocks_of es) ++ cleared_first l) (sym (drop-blocks es i e within is))

pub cleared-same : (es : List StoredBlock) (i : ℕ) (e : StoredBlock) → i < length es → e ≡ get_or es i e
    → is_free (block_of e) ≡ false → blocks_of es ≡ take i (blocks_of es) ++ cleared_first (drop i (blocks_of es))
cleared-same es i e within is other =
    sym (take-append-drop i (blocks_of es)) ∙ ap (λ l. take i (blocks_of es) ++ l)
    (drop-blocks es i e within is ∙ ap (λ b. b ∷ drop (i + 1) (blocks_of es))
    (sym (cleared-other (block_of e) other)) ∙ ap cleared_first (sym (drop-blocks es i e within is)))

-- the spot of an index is a way to see the zone
pub nth_spot-is : (i : ℕ) (bs : List Block) (s : Spot) → nth_spot i bs ≡ Some s → s.below ++ s.here ∷ s.above ≡ bs
nth_spot-is i [] s e = absurd (none-some _ e)
nth_spot-is zero (b ∷ bs) s e = ap (λ (s : Spot). s.below ++ s.here ∷ s.above) (sym (same_Some _ _ e))
nth_spot-is (suc i) (b ∷ bs) s e = cases (nth_spot i bs) (λ q f. nth_spot-is i bs q f) e
  where
    cases : (o : Option Spot) → ((q : Spot) → o ≡ Some q → q.below ++ q.here ∷ q.above ≡ bs)
        → option_map (raised b) o ≡ Some s → s.below ++ s.here ∷ s.above ≡ b ∷ bs
    cases None rest e = absurd (none-some _ e)
    cases (Some q) rest e = ap (λ (s : Spot). s.below ++ s.here ∷ s.above) (sym (same_Some _ _ e))
        ∙ ap (λ l. b ∷ l) (rest q refl)

pub blocks_of-take : (n : ℕ) (es : List StoredBlock) → blocks_of (take n es) ≡ take n (blocks_of es)
blocks_of-take n es = sym (take-map block_of n es)

pub blocks_of-drop : (n : ℕ) (es : List StoredBlock) → blocks_of (drop n es) ≡ drop n (blocks_of es)
blocks_of-drop n es = sym (drop-map block_of n es)

-- entries with one moved to the end
pub blocks-last : (es after : List StoredBlock) (i : ℕ) (e : StoredBlock) → i < length es
    → after ≡ remove es i ++ get_or es i e ∷ [] → IfSome (nth_spot i (blocks_of es))
    (λ s. blocks_of after ≡ s.below ++ s.above ++ s.here ∷ [])
blocks-last es after i e within is =
    subst (λ o. IfSome o (λ (s : Spot). blocks_of after ≡ s.below ++ s.above ++ s.here ∷ []))
    (sym (nth_spot-at i (blocks_of es) (block_of (get_or es i e)) (drop (i + 1) (blocks_of es))
    (drop-blocks es i (get_or es i e) within (get_or-default es i e (get_or es i e) within))))
    (ap blocks_of is ∙ map-append block_of (remove es i) (get_or es i e ∷ [])
    ∙ ap (λ l. l ++ block_of (get_or es i e) ∷ []) (blocks-remove es i))
  where
    get_or-default : (es : List StoredBlock) (i : ℕ) (d d' : StoredBlock) → i < length es
        → get_or es i d ≡ get_or es i d'
    get_or-default [] i d d' within = absurd (let z : i < 0 = within in omega arith)
    get_or-default (x ∷ es) zero d d' within = refl
    get_or-default (x ∷ es) (suc i) d d' within = get_or-default es i d d' (let z : suc i < suc (length es) = within in
        omega arith)

-- the last entry is set
pub set-last : (es : List StoredBlock) (n : ℕ) (w : StoredBlock) (bs : List Block) (b : Block)
    → blocks_of es ≡ bs ++ b ∷ [] → n + 1 ≡ length es → blocks_of (slice_set es n w) ≡ bs ++ block_of w ∷ []
set-last es n w bs b is last =
    let size : n + 1 ≡ length (bs ++ b ∷ []) = last ∙ sym (length-map es block_of) ∙ ap length is in
    blocks-set es n w (omega arith)
    ∙ ap (λ l. l ++ block_of w ∷ drop (n + 1) (blocks_of es)) (ap (take n) is ∙ take-last bs b n size)
    ∙ ap (λ l. bs ++ block_of w ∷ l) (drop_all (n + 1) (blocks_of es) (let z = length-map es block_of in omega arith))

-- a run whose Free bytes are at its end
pub pack-done : (run moved after : List Block) (es : List StoredBlock) (i n left : ℕ) (s : Spot)
    → nth_spot i run ≡ Some s → is_free s.here ≡ true → Loose run → moved ≡ s.below ++ s.above ++ s.here ∷ []
    → blocks_of es ≡ map cleared moved → n + 1 ≡ length es
    → after ≡ blocks_of (slice_set es n (entry.Free left)) → (top : List Block)
    → tidy (after ++ top) ≡ tidy (movers run ++ free left ++ top)
pack-done run moved after es i n left s at free-here loose moving clearing last is top =
    let whole = nth_spot-is i run s at in
    let blocks : blocks_of es ≡ map cleared (s.below ++ s.above) ++ cleared s.here ∷ [] = clearing
    ∙ ap (map cleared) moving ∙ map-append cleared (s.below ++ s.above) (s.here ∷ []) in
    ap (λ l. tidy (l ++ top)) (is ∙ set-last es n (entry.Free left) (map cleared (s.below ++ s.above)) (cleared s.here)
    blocks last)
    ∙ ap tidy (append_assoc (map cleared (s.below ++ s.above)) (Free left ∷ []) top)
    ∙ tidy-packed run s.below s.above s.here left whole free-here loose top

-- the top entry, and those below it
pub top-taken : (es : List StoredBlock) (n : ℕ) (bs : List Block) (b : Block) → blocks_of es ≡ bs ++ b ∷ []
    → n + 1 ≡ length es → blocks_of (take n es) ≡ bs
top-taken es n bs b is last = blocks_of-take n es ∙ ap (take n) is
    ∙ take-last bs b n (last ∙ sym (length-map es block_of) ∙ ap length is)

pub top-dropped : (es : List StoredBlock) (n : ℕ) (bs : List Block) (b : Block) → blocks_of es ≡ bs ++ b ∷ []
    → n + 1 ≡ length es → blocks_of (drop n es) ≡ b ∷ []
top-dropped es n bs b is last = blocks_of-drop n es ∙ ap (drop n) is
    ∙ drop-last bs b n (last ∙ sym (length-map es block_of) ∙ ap length is)

-- a part of a vector's entries is written
pub blocks-between : (items now part : List StoredBlock) (start end len : ℕ) → now ≡ items → start ≤ end
    → end ≤ length items → len ≡ length items → length part ≡ end - start
    → blocks_of (take len (put_mid start (end - start) now part
    ++ drop (length (put_mid start (end - start) now part)) items)) ≡ take start (blocks_of items) ++ blocks_of part
    ++ drop end (blocks_of items)
blocks-between items now part start end len same order within all size =
    let n : length (put_mid start (end - start) items part) ≡ length items =
    same_len_mid start (end - start) items part (size ∙ (let a = length-take (end - start) (drop start items) in
    let d = length-drop start items in omega arith)) in
    ap (λ l. blocks_of (take len (put_mid start (end - start) l part
    ++ drop (length (put_mid start (end - start) l part)) items))) same
    ∙ ap blocks_of (take_at (put_mid start (end - start) items part) _ len (omega arith))
    ∙ map-append block_of (take start items) (part ++ post_of start (end - start) items)
    ∙ ap (λ l. l ++ map block_of (part ++ post_of start (end - start) items)) (blocks_of-take start items)
    ∙ ap (λ l. take start (blocks_of items) ++ l) (map-append block_of part (post_of start (end - start) items)
    ∙ ap (λ l. blocks_of part ++ l) (ap blocks_of (post start end) ∙ blocks_of-drop end items))
    ∙ sym (append_assoc (take start (blocks_of items)) (blocks_of part) (drop end (blocks_of items)))
  where
    post : (s e : ℕ) → post_of start (end - start) items ≡ drop end items
    post s e = drop-drop (end - start) start items ∙ ap (λ k. drop k items)
        (let z : start + (end - start) ≡ end = omega arith in z)

-- the part that is written
pub blocks-part : (items now : List StoredBlock) (start n : ℕ) → now ≡ items
    → blocks_of (take n (drop start now)) ≡ take n (drop start (blocks_of items))
blocks-part items now start n same = ap (λ l. blocks_of (take n (drop start l))) same
    ∙ blocks_of-take n (drop start items) ∙ ap (take n) (blocks_of-drop start items)

-- the entries of a run between two indexes
pub part-loose : (items now : List StoredBlock) (start end : ℕ) → now ≡ items
    → Loose (run_between start end (blocks_of items)).run → Loose (blocks_of (take (end - start) (drop start now)))
part-loose items now start end same loose = subst Loose (sym (blocks-part items now start (end - start) same)) loose

pub part-fits : (items now : List StoredBlock) (start end n : ℕ) → now ≡ items → start ≤ end
    → sizes (blocks_of items) < n → sizes (blocks_of (take (end - start) (drop start now))) < n
part-fits items now start end n same order fits =
    let part = ap sizes (blocks-part items now start (end - start) same) in
    let all = total-between size start end (blocks_of items) order in
    omega arith

-- a vector's entries with others between two indexes
abbrev pub put_between : ℕ → ℕ → ℕ → List StoredBlock → List StoredBlock → List StoredBlock → List StoredBlock
put_between start end len now part items = take len (put_mid start (end - start) now part
    ++ drop (length (put_mid start (end - start) now part)) items)

-- a part of a vector's entries is changed as a run, and all is made tidy
pub changed-between : (change : List Block → List Block) (items now part : List StoredBlock) (start end len : ℕ)
    → now ≡ items → start ≤ end → end ≤ length items → len ≡ length items
    → length part ≡ length (take (end - start) (drop start now))
    → ((top : List Block) → tidy (blocks_of part ++ top) ≡ tidy
    (change (blocks_of (take (end - start) (drop start now))) ++ top))
    → tidy (blocks_of (put_between start end len now part items))
    ≡ tidy (with_run change (run_between start end (blocks_of items)))
changed-between change items now part start end len same order within all long done =
    let zone = blocks_of items in
    let taken = length-take (end - start) (drop start now) in
    let dropped = length-drop start now in
    let whole = ap length same in
    ap tidy (blocks-between items now part start end len same order within all (omega arith))
    ∙ tidy-run (take start zone) (drop end zone) (blocks_of part) change
    (blocks_of (take (end - start) (drop start now))) done
    ∙ ap (λ l. tidy (take start zone ++ change l ++ drop end zone)) (blocks-part items now start (end - start) same)

-- an entry of a run that was moved to the top of it
pub record Topped (test : Block → Bool) (run : List Block) (es : List StoredBlock) : Type 0 where
  pub s : Spot
  pub passes : test s.here ≡ true
  pub whole : s.below ++ s.here ∷ s.above ≡ run
  pub rest : blocks_of (take (length es - 1) es) ≡ s.below ++ s.above
  pub top : blocks_of (drop (length es - 1) es) ≡ s.here ∷ []

pub topped : (test : Block → Bool) (run : List Block) (es : List StoredBlock) (i : ℕ) → 0 < length es
    → IsSomeAnd (nth_spot i run) (λ s. IsTrue (test s.here))
    → IfSome (nth_spot i run) (λ s. blocks_of es ≡ s.below ++ s.above ++ s.here ∷ []) → Topped test run es
topped test run es i some passes moved =
    let at = the_some (nth_spot i run) (λ s. test s.here ≡ true) (λ s. blocks_of es ≡ s.below ++ s.above ++ s.here ∷ [])
    passes moved in
    let s = at.0 in
    let last : length es - 1 + 1 ≡ length es = omega arith in
    record {
      s = s;
      passes = at.2;
      whole = nth_spot-is i run s at.1;
      rest = top-taken es (length es - 1) (s.below ++ s.above) s.here at.3 last;
      top = top-dropped es (length es - 1) (s.below ++ s.above) s.here at.3 last;
    }

pub blocks-insert : (es : List StoredBlock) (i : ℕ) (x : StoredBlock)
    → blocks_of (insert es i x) ≡ take i (blocks_of es) ++ block_of x ∷ drop i (blocks_of es)
blocks-insert es i x = map-append block_of (take i es) (x ∷ drop i es)
    ∙ ap (λ l. l ++ block_of x ∷ map block_of (drop i es)) (blocks_of-take i es)
    ∙ ap (λ l. take i (blocks_of es) ++ block_of x ∷ l) (blocks_of-drop i es)

-- a run that was found in a vector's entries
pub found-between : (es now : List StoredBlock) (place start end : ℕ) → now ≡ es
    → run_at place (blocks_of now) ≡ Some (run_between start end (blocks_of now))
    → run_at place (blocks_of es) ≡ Some (run_between start end (blocks_of es))
found-between es now place start end same found = let P : List StoredBlock
    → Type 0 = λ l. run_at place (blocks_of l) ≡ Some (run_between start end (blocks_of l)) in subst P same found

pub raised-above : (es now after : List StoredBlock) (place bytes start end : ℕ) → now ≡ es → start ≤ end
    → end ≤ length now → run_at place (blocks_of now) ≡ Some (run_between start end (blocks_of now))
    → after ≡ insert es start (entry.Free bytes)
    → sizes (blocks_of es) < 2147483648 → IsSomeAnd (run_at place (blocks_of es)) (λ r. IsTrue (has_free bytes r.run))
    → Raised (blocks_of es) (blocks_of after) place bytes start end
raised-above es now after place bytes start end same order short bounds is fits enough =
    let zone = blocks_of es in
    let found = found-between es now place start end same bounds in
    let within : end ≤ length zone = (let a = ap length same in let b = length-map es block_of in omega arith) in
    let whole = ap blocks_of is ∙ blocks-insert es start (entry.Free bytes) in
    let has = free-enough bytes zone place (run_between start end zone) found enough in
    let run = ap (run_between (start + 1) (end + 1)) whole ∙ run-above start end (Free bytes) zone order within in
    let P : List Block → Type 0 = λ l. sizes l < 4294967296 in
    let Q : RunSpot → Type 0 = λ r. Loose r.run in
    let R : RunSpot → Type 0 = λ r. bytes ≤ free_sum r.run in
    record {
      found = found;
      fits = subst P (sym whole) (raised-fits bytes start end zone order has fits);
      loose = subst Q (sym run) (run_at-parts place zone (run_between start end zone) found).loose;
      less = subst R (sym run) has;
      done = ap (λ l. with_run (packed bytes) (run_between (start + 1) (end + 1) l)) whole
          ∙ raised-run bytes start end zone order within;
    }
