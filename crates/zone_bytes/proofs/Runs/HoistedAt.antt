-- The block of a slot is moved to the top of its run, of a zone in bytes.
use Rattle.zone_bytes.proofs.Cited.{◌≡◌, ℕ, true, cond, ◌+◌, ◌%◌, ◌≤◌, Some, List, [], ◌∷◌, ◌++◌, length, drop, refl, sym, ap, ◌∙◌, subst}
use Rattle.zone_bytes.proofs.Cited.{arith, append_assoc, drop-append_seam, word_at, read_back, Block, sizes, count, is_relocatable, tidy}
use Rattle.zone_bytes.proofs.Cited.{RunSpot, has, movers, high, segments, with_run, spot_at, is_resource, apart-tidied, three, first-run}
use Rattle.zone_bytes.proofs.Cited.{run_at-ended, high-total, apart-high, tidy-change, run_at-is, Hoist, MayHoist, Hoisted, zone_in, Lays}
use Rattle.zone_bytes.proofs.Cited.{slot_in, hoist_from, hoist_at, sizes-settle, RunOf, run-of, settle-parts, high-parts, loose-block}
use Rattle.zone_bytes.proofs.Cited.{loose-over, spot_at-parted}
use Rattle.zone_bytes.proofs.Tiles.Tiling.{span-append}
use Rattle.zone_bytes.proofs.Tiles.Leading.{each-names, leads-from}
use Rattle.zone_bytes.proofs.SlotTable.Tables.{slot-in}
use Rattle.zone_bytes.proofs.Runs.Hoists.{hoisted-instead}
use Rattle.zone_bytes.proofs.Laws.Lawful.{sizes-length}
use Rattle.block_store.proofs.Regroup.Lifted as lifted
use Rattle.zone_bytes.proofs.Runs.Changed.{ChangedRun, relaid-run}
use Rattle.zone_bytes.proofs.Runs.PackedAt.{IsPacked, packed-zone, bottom, loose}

module _ {xs : List ℕ} {first unused place top stop : ℕ} {old : List Block}
    (k : IsPacked xs first unused place top stop old) (number : ℕ)
    (had : has (is_relocatable number) k.spot.run ≡ true) where
  abbrev r : RunSpot
  r = k.spot

  cut : RunOf number r.run
  cut = run-of number r.run had

  abbrev block : Block
  block = lifted.block number r.run cut

  abbrev over : List Block
  over = lifted.over number r.run cut

  abbrev beneath : List Block
  beneath = r.below ++ movers cut.low

  abbrev here : ℕ
  here = sizes beneath

  packed-parts : zone_in xs ≡ beneath ++ block ∷ (over ++ r.above)
  packed-parts = packed-zone k ∙ rw (settle-parts _ r.run cut (loose k)) (simp append_assoc)

  laid-was : Lays xs (beneath ++ block ∷ (over ++ r.above)) (slot_in xs) k.sound.unused
  laid-was = subst (λ l. Lays xs l (slot_in xs) k.sound.unused) packed-parts k.sound.lays

  -- the slot's word may be read
  pub slot-inside : (number % 4 ≡ 0) × (number + 4 ≤ length xs)
  slot-inside = slot-in xs (beneath ++ block ∷ (over ++ r.above)) (slot_in xs) k.sound.unused laid-was number (grind
      (arith, each-names, laid-was))

  -- and tells where the block is
  slot-tells : word_at number xs ≡ here
  slot-tells = read_back number here xs (omega (arith, sizes-length, laid-was, span-append))
      (leads-from xs beneath (block ∷ (over ++ r.above)) here refl laid-was.lies.leads).0

  abbrev raw : Hoist
  raw = record {
    resource = λ s. is_resource (slot_in xs s);
    below = beneath;
    block = block;
    over = over;
    above = r.above;
    bytes = xs;
  }

  module _ (at : ℕ) (w : at ≡ word_at number xs) where
    hoist-at : hoist_at xs at ≡ raw
    hoist-at = ap (hoist_at xs) (w ∙ slot-tells) ∙ (let s : spot_at here (zone_in xs) ≡ Some _ = ap (spot_at here)
        packed-parts ∙ spot_at-parted _ _ _
        (apart-tidied _ (sym (ap tidy packed-parts) ∙ k.sound.tidied ∙ packed-parts)) in
        let f = first-run over r.above (loose-over number r.run cut (loose k)) (run_at-ended place old r k.is).stops in
        let g : drop (length (segments (over ++ r.above)).first) (over ++ r.above) ≡ r.above =
        ap (λ l. drop (length l) (over ++ r.above)) f ∙ drop-append_seam over r.above in
        ap (hoist_from xs) s ∙ (λ j. record raw { over = f j; above = g j }))

    pub hoist-bytes : xs ≡ (hoist_at xs at).bytes
    hoist-bytes = sym (ap (λ z. z.bytes) hoist-at)

    may-move : MayHoist raw here stop
    may-move = record {
      run = record {
        lies = laid-was.lies;
        slots = laid-was.has_slots;
        bottom = refl;
        top = (let c = ap sizes (settle-parts number r.run cut (loose k)) in
            omega (arith, span-append, c, sizes-settle r.run (loose k), bottom k));
        in_run = (
          loose-block number r.run cut (loose k),
          loose-over number r.run cut (loose k),
        );
        small = laid-was.small;
      };
    }

    pub may-hoist : MayHoist (hoist_at xs at) at stop
    may-hoist = grind (arith, hoist-at, slot-tells, may-move)

    pub hoist-changed : ((name : ℕ) → count (is_relocatable name) old ≤ 1) → (new : List ℕ)
        → Hoisted (hoist_at xs at) new → ChangedRun (high (is_relocatable number)) old r new first unused (slot_in xs)
    hoist-changed once new d =
        let test = is_relocatable number in
        let ones : Block → ℕ = λ b. cond {A = ℕ} (test b) 1 0 in
        let all : count test (r.below ++ (r.run ++ r.above)) ≡ count test old =
        ap (count test) (run_at-is place old r k.is) in
        let a = three ones (λ n. refl) r.below r.run r.above in
        let shape : beneath ++ ((over ++ block ∷ []) ++ r.above) ≡ with_run (high test) r =
        rw (high-parts number r.run cut (omega arith)) (simp append_assoc) in
        relaid-run (high test) place old r k.is (λ of adds l. high-total of adds number r.run l)
        (tidy-change place old r k.is k.tidied (high test r.run) (apart-high test (λ n. refl) r.run)) xs first unused
        k.sound (hoisted-instead raw here stop may-move) packed-parts shape new (subst (λ z. Hoisted z new) hoist-at d)
