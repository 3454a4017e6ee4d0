-- A `Vec` of bytes without elements is its room and the frame that waits for it. Assumes `Logic`.
use Rattle.raw_region.proofs.Cited.{◌≡◌, ℕ, ◌<◌, [], ◌∷◌, refl, sym, ◌∙◌, nil_from_length, Vec, vec_owns, Extent, room_owns, run_owns}
use Rattle.std.proofs.alloc.Global.TheLaws as global
use Rattle.std.specs.contracts.alloc.Global as Global
use Rattle.std.specs.contracts.impls.GlobalAllocator.TheImpl.{ghosts}
use Rattle.std.specs.declared.alloc.Global as declared
use Rattle.std_alloc.proofs.vec.Vec.TheLaws as vec
use Rattle.std_alloc.specs.contracts.vec.Vec as V
use base.Fml.{fsep, feq, fwand}
use base.Logic.{ent, sep}
use denote.Builtin.{u8}
use denote.Param.Laws.{Laws, of_field}
use denote.Param.Shared.{copy_shared}
use denote.RattleType.{RattleType}
use denote.Struct.Field.{u8-field}
use denote.Struct.Laws.{u8-laws, u8-copy}
use mir.Val.{Val}
use seplogic.Ra.Ura.{Ura}
use types.Kit.{‵, ◌⊛◌, ◌$◌, ◌∵◌, !, qed, move, split, frame, assume, show, fsplit, fjoin, feq_i, rewrite}
use types.Kit.{use1, use2, done}
use types.Logic.{Logic, sem}
use Rattle.raw_region.specs.contracts.raw.Frame as Frame
use Rattle.raw_region.proofs.Blocks.{kept, emptied, refilled}
use Rattle.raw_region.proofs.Runs.{roomed}
use Rattle.raw_region.proofs.Steps.{alone, fields_of, alone_made}

abbrev pub byte_laws : Laws u8
byte_laws = of_field u8-field u8-laws refl (copy_shared u8-field u8-copy)

-- a `Vec` of bytes on the heap
abbrev pub Owned : RattleType
Owned = V.the_row u8 Global.the_row ghosts

abbrev pub owned-laws : Laws Owned
owned-laws = vec.the_row_laws u8 Global.the_row ghosts byte_laws global.the_row_laws

abbrev pub extent_of : Vec ℕ declared.Global → Extent
extent_of v = record { ptr = v.ptr; len = v.cap }

module _ {M : Type 1} {𝓤 : Ura M} (𝓛 : Logic 𝓤) (v : Vec ℕ declared.Global) (u : Val) where
  pub framed : v.len ≡ 0 → 0 < v.cap
      → ent 𝓤 (sem 𝓛 (Owned.own_val v (u ∷ [])))
      (sep 𝓤 (sem 𝓛 (run_owns v.ptr [] v.cap)) (sem 𝓛 (Frame.the_own (extent_of v) (alone u ∷ []))))
  framed empty some =
      let nil : v.items ≡ [] = nil_from_length v.items (sym v.ok.0 ∙ empty) in
      let t = ghosts.dealloc_token v.alloc in
      qed 𝓛 (‵ (Owned.own_val v (u ∷ [])) ∷ []) ∵ fsplit ! $ move ! (1 ∷ []) $
      rewrite ! 0 (λ n. ‵ (vec_owns t u8 v.ptr n v.cap v.items)) empty refl $
      rewrite ! 0 (λ xs. ‵ (vec_owns t u8 v.ptr 0 v.cap xs)) nil refl $
      use1 𝓛 (‵ (room_owns v.ptr v.cap) ⊛ ‵ (kept t v.cap v.ptr)) (emptied t v.cap 𝓛 some v.ptr) $ split ! $
      use1 𝓛 (‵ (run_owns v.ptr [] v.cap)) (roomed 𝓛 v.ptr v.cap) $ frame ! $
      -- [what the block has besides; the fields]
      show ! (λ i.
      sem 𝓛 (fsep (feq ℕ i.vec.len 0)
      (fwand (room_owns v.ptr v.cap) ((fields_of (Owned ∷ [])).own_val (i.vec, tt) (alone u ∷ [])))))
      (record { vec = v }) $
      feq_i ! ℕ v.len 0 empty $ frame ! $ assume ! (‵ (room_owns v.ptr v.cap)) $
      use2 𝓛 (‵ (vec_owns t u8 v.ptr 0 v.cap [])) (refilled t v.cap 𝓛 some v.ptr) $
      rewrite ! 0 (λ xs. ‵ (vec_owns t u8 v.ptr 0 v.cap xs)) (sym nil) refl $
      rewrite ! 0 (λ n. ‵ (vec_owns t u8 v.ptr n v.cap v.items)) (sym empty) refl $
      move ! (1 ∷ 0 ∷ []) $ fjoin ! $ alone_made ! Owned v u $ done !
