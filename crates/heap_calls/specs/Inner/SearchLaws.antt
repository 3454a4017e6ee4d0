use Rattle.std.specs.Prelude.{◌≡◌, ◌≤◌, ℕ, true, Option, Some, None, List}
use Rattle.std.proofs.Common.{refl, sym, ◌∙◌, ap, subst}
use Rattle.block_store.specs.Block.{Block}
use Rattle.block_store.specs.Run.{segments, has_free}
use Rattle.block_store.specs.Room.{Spot, purge}
use Rattle.block_store.specs.Compact.{has_room}
use Rattle.block_store.specs.Sparing.{spared, purged, most_purges}
use Rattle.block_store.specs.declared.sparing.Sparing.{Sparing}
use Rattle.block_store.proofs.Purged.Rising.{purge-all, purged-all, enough-rises}
use Rattle.heap_calls.specs.Inner.Least.{IsMost, enough_above}

-- The laws of searches: what is there after some purges is there after more, and once every block is purged that may
-- be, a further purge changes nothing.

pub room-ends : (p : Option ℕ) (n : Sparing) (zone : List Block) (k : ℕ) → most_purges n zone ≤ k
    → has_room p (purged k n zone) ≡ has_room p (purged (most_purges n zone) n zone)
room-ends p n zone k le = ap (has_room p) (purged-all n zone k le)

pub above-rises : (d : ℕ) (n : Sparing) (o : Option Spot) (k m : ℕ) → k ≤ m → enough_above d k n o ≡ true
    → enough_above d m n o ≡ true
above-rises d n None k m le there = there
above-rises d n (Some s) k m le there = enough-rises d (spared n) (segments s.above).first k m le there

pub above-ends : (d most : ℕ) (n : Sparing) (o : Option Spot) (k : ℕ) → IsMost most n o → most ≤ k
    → enough_above d k n o ≡ enough_above d most n o
above-ends d most n None k is le = refl
above-ends d most n (Some s) k is le =
    ap (has_free d) (purge-all (spared n) (segments s.above).first k (subst (λ j. j ≤ k) is le)
    ∙ sym (ap (λ j. purge j (spared n) (segments s.above).first) is))
