-- A block that is moved to the top of its run.
use Rattle.zone_bytes.proofs.Cited.{◌≡◌, ℕ, ◌+◌, ◌-◌, ◌%◌, ◌≤◌, List, ◌∷◌, ◌++◌, length, take, drop, sym, ◌∙◌, rules, arith, length-append}
use Rattle.zone_bytes.proofs.Cited.{length-take-le, length-drop, written, piece, piece-written, Header, Block, size, head_of, Tiles}
use Rattle.zone_bytes.proofs.Cited.{SameOutside, IsMoved, Pointed, Hoist, unhoisted, hoisted_run, MayHoist, Hoisted, loose-append}
use Rattle.zone_bytes.proofs.Tiles.Heads.{Next, IsRead, read-tells, first-reads}
use Rattle.zone_bytes.proofs.Tiles.Tiling.{span-append, span-whole, tile-take, tiles-append, tiles-one}
use Rattle.zone_bytes.proofs.Tiles.Leading.{names-append}
use Rattle.zone_bytes.proofs.Tiles.Splices.{tiles-parts, outside-written}
use Rattle.zone_bytes.proofs.Tiles.Keeping.{Instead, others-now}
use Rattle.zone_bytes.proofs.Tiles.Permuted.{turned}
use Rattle.zone_bytes.proofs.Runs.Packed.{run-bounds, run-moved, others-moved}
use Rattle.zone_bytes.proofs.Runs.Packed as packed

module _ (z : Hoist) (place stop : ℕ) (h : MayHoist z place stop) where
  abbrev was : List Block
  was = z.block ∷ z.over

  abbrev head : Block → List ℕ
  head = head_of z.resource

  run : IsMoved (unhoisted z) place stop
  run = run-moved (unhoisted z) place stop h.run

  -- the run's bytes from the block on, and the same with the block behind the others
  abbrev run-bytes : List ℕ
  run-bytes = piece place (stop - place) z.bytes

  abbrev pub turned-bytes : List ℕ
  turned-bytes = drop (size z.block) run-bytes ++ take (size z.block) run-bytes

  pub hoisted-instead : Instead z.below was (hoisted_run z) z.above
  hoisted-instead = search (rules, loose-append, span-append, names-append, turned)

  parts : Tiles head (take place z.bytes) z.below × Tiles head (drop place z.bytes) (was ++ z.above)
      × Tiles head run-bytes was × Tiles head (drop stop z.bytes) z.above
  parts = tiles-parts head z.bytes z.below was z.above place stop run.bottom run.top run.tiles

  pub wide : (place + size z.block ≤ stop) × (stop ≤ length z.bytes) × (place % 16 ≡ 0)
  wide = omega (arith, span-whole, parts, run, run-bounds)

  -- the block's header may be read
  pub next : Next z.bytes place
  next = grind (arith, first-reads, length-drop, parts, wide)

  -- and tells its size
  pub size-read : (r : Header) → IsRead place z.bytes r → r.size ≡ size z.block
  size-read r e = (read-tells z.resource z.bytes place h.run.small r e z.block parts.1.0).0

  length-turned : length turned-bytes ≡ stop - place
  length-turned = grind (arith, length-append, length-take-le, wide, length-drop)

  -- the bytes before the slots are rewritten
  abbrev mid : List ℕ
  mid = written place turned-bytes z.bytes

  outside : SameOutside place stop z.bytes mid
  outside =
      let v = wide in
      let l = length-turned in
      outside-written place stop _ _ place turned-bytes (omega arith) (omega arith) (grind arith)

  new-tiles : Tiles head (piece place (stop - place) mid) (hoisted_run z)
  new-tiles = rw (piece-written place turned-bytes z.bytes _ (sym length-turned) (omega (arith, wide)))
      (grind (arith, parts, tiles-append, tiles-one, length-take-le, tile-take))

  pub is-moved : IsMoved (record (unhoisted z) { run = hoisted_run z; bytes = mid }) place stop
  is-moved = packed.is-moved (unhoisted z) place stop run (hoisted_run z) hoisted-instead mid outside new-tiles

  pub is-hoisted : (new : List ℕ) → Pointed (record (unhoisted z) { run = hoisted_run z; bytes = mid }) new → Hoisted
      z new
  is-hoisted new p = record {
    lies = p.lies;
    others = others-now hoisted-instead z.bytes mid new
        (others-moved (unhoisted z) place stop run (hoisted_run z) hoisted-instead mid outside new-tiles) p.others;
    kept = p.kept ∙ outside.kept;
  }
