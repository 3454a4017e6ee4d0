use Rattle.heap_calls.proofs.Cited.{◌≡◌, ℕ, ◌≤◌, ◌<◌, Bool, true, false, not, List, length, replicate, Some, refl, sym, ◌∙◌, ap, subst}
use Rattle.heap_calls.proofs.Cited.{arith, and_parts, Decides-eqb, Flags, Block, Free, Nonrelocatable, Masters, Relocatable, total, count}
use Rattle.heap_calls.proofs.Cited.{is_mover, is_purgeable, is_relocatable, is_nonrelocatable, with_content, resized, no_flags, spot}
use Rattle.heap_calls.proofs.Cited.{spot-passes, is_same, did, Weighs, PutsNone, keeps, only-purgeable, Alone, size-weighs, size-puts}
use Rattle.heap_calls.proofs.Cited.{State, Memory, Held, nothing, Asked, Row, answer_of}
use Rattle.heap_calls.specs.Table as asked
use Rattle.heap_calls.proofs.Same.Growing.{same-handle, same-pointer}
use Rattle.heap_calls.proofs.Rows.Kinds.{has_path, of-path}
use Rattle.heap_calls.proofs.Rows.Found.{pointer-still}
use Rattle.heap_calls.proofs.Rows.Along.{Keeps, Allows, IsNext, Spared}

-- What a measure must know of the path of each row: blocks keep what they come to where they get another size, or where
-- bytes are written into them, and a block that is freed comes to nothing.

-- a call that frees the block of a handle for another one lets only blocks go that come to nothing
abbrev pub Renews : (Block → ℕ) → Asked → Type 0
Renews of (asked.ReallocateHandle (Some k) n) = (b : Block) → is_relocatable k b ≡ true → of b ≡ 0
Renews of asked = Unit {0}

-- where a named block stands, by the name of the block that it becomes
pub named-there : (n : ℕ) (sp : Block → Bool) (s : State) (held : Held) → Spared sp s held
    → spot (is_same (resized n held.at.here)) s.zone ≡ Some held.at
named-there n sp s held at =
    let test = is_relocatable held.number in
    ap (λ (t : Block → Bool). spot t s.zone)
    (same-handle held.number n held.at.here (spot-passes test s.zone held.at at.there)) ∙ at.there

pub alone : (n : ℕ) (sp : Block → Bool) (s : State) (held : Held) → Spared sp s held
    → count (is_relocatable held.number) s.zone ≤ 1 → Alone (resized n held.at.here) sp s.zone held.at
alone n sp s held at once mover =
    let test = is_relocatable held.number in
    let named = same-handle held.number n held.at.here (spot-passes test s.zone held.at at.there) in (
      subst (λ (t : Block → Bool). count t s.zone ≤ 1) (sym named) once,
      (λ b may. ap (λ (t : Block → Bool). t b) named ∙ at.kept b may),
    )

pub pointer-there : (n : ℕ) (s : State) (held : Held) → spot (is_nonrelocatable held.number) s.zone ≡ Some held.at
    → spot (is_same (resized n held.at.here)) s.zone ≡ Some held.at
pointer-there n s held at = ap (λ (t : Block → Bool). spot t s.zone) (same-pointer held.number n held.at.here
    (spot-passes (is_nonrelocatable held.number) s.zone held.at at)) ∙ at

pub never-moves : {R : Type 0} (s : State) (held : Held) → spot (is_nonrelocatable held.number) s.zone ≡ Some held.at
    → is_mover held.at.here ≡ true → R
never-moves s held at mover =
    let f : true ≡ false = sym mover ∙ pointer-still held.number held.at.here
    (spot-passes (is_nonrelocatable held.number) s.zone held.at at) in
    cc

pub allows-weighs : (of : Block → ℕ) → ((n : ℕ) (b : Block) → of b ≡ of (resized n b))
    → ((x : List ℕ) (b : Block) → of b ≡ of (with_content x b)) → (a : Asked) (s : State)
    → ((h : ℕ) → h < length s.names → count (is_relocatable h) s.zone ≤ 1) → Renews of a
    → Allows (λ sp. Weighs of) s a
allows-weighs of sized filled a s once own = record {
  searches = λ sp n z. tt;
  purges = λ sp k z. tt;
  puts = λ sp new next z. tt;
  bases = λ sp new next z. tt;
  sizes = λ sp n held at. size-weighs of sp n s.zone held.at (sized n held.at.here) (named-there n sp s held at)
      (alone n sp s held at (once held.number at.within));
  pointers = λ n held at. size-weighs of nothing n s.zone held.at (sized n held.at.here) (pointer-there n s held at)
      (λ mover. never-moves s held at mover);
  writes = λ sp held n i x at within found b y e. sym (filled y b);
  renews = λ h n is loose. (subst (Renews of) is own, λ z. tt);
}

pub allows-puts : (of : Block → ℕ) → ((k : ℕ) → of (Free k) ≡ 0) → of Masters ≡ 0
    → ((id : ℕ) (content : List ℕ) → of (Nonrelocatable id content) ≡ 0) → (a : Asked) (s : State)
    → ((flags : Flags) (content : List ℕ) → of (Relocatable (length s.names) flags content) ≡ 0) → Renews of a
    → Allows (λ sp. PutsNone of) s a
allows-puts of none masters pointers a s fresh own = record {
  searches = λ sp n z. refl;
  purges = λ sp k z. refl;
  puts = λ sp new next z. light new next;
  bases = λ sp new next z. light new next;
  sizes = λ sp n held at. size-puts of sp n s.zone held.at;
  pointers = λ n held at. size-puts of nothing n s.zone held.at;
  writes = λ sp held n i x at within found. refl;
  renews = λ h n is loose. (
    refl,
    λ z. subst (Renews of) is own (Relocatable h no_flags (replicate n 0)) ((Decides-eqb h h).1 refl),
  );
}
  where
    light : (new : Block) → IsNext (length s.names) new → of new ≡ 0
    light (Free p) next = none p
    light (Nonrelocatable id content) next = pointers id content
    light Masters next = masters
    light (Relocatable id flags content) next =
        ap (λ (i : ℕ). of (Relocatable i flags content)) next.0 ∙ fresh flags content

-- by a measure that sees no block that may be purged, a row that is a path loses nothing
pub none-lost : (of : Block → ℕ) (none : (n : ℕ) → of (Free n) ≡ 0)
    (goes : (b : Block) → is_purgeable b ≡ true → of b ≡ 0) (r : Row) (m : Memory) → has_path r ≡ true
    → Keeps (λ sp. Weighs of) r m.heap → total of m.heap.zone ≤ total of (answer_of r m).1.heap.zone
none-lost of none goes r m = of-path (λ r. Keeps (λ sp. Weighs of) r m.heap
    → total of m.heap.zone ≤ total of (answer_of r m).1.heap.zone)
    (λ T bar tell does weighs. let d = does m.heap in
    let le : total of m.heap.zone ≤ total of (did d.spared d.path m.heap.zone).zone = omega (
      arith,
      keeps of none d.spared d.path m.heap.zone weighs,
      only-purgeable of none d.spared (λ b may. goes b (and_parts (is_purgeable b) (not (d.spared b)) may).0) d.path
          m.heap.zone,
    ) in
    le)
    (λ left r kept. kept) r
