-- Steps of the walks of `src/raw.rt`: a run is told by the bytes that it owns, and takes no memory of its own. Assumes
-- `Logic`.
use Rattle.raw_region.proofs.Cited.{◌≡◌, List, [], ◌∷◌, refl, OwnBytes, run_owns}
use seplogic.Ra.Ura.{Ura}
use lib.Dec.{T}
use mir.Syntax.{Ty}
use mir.Val.{Val, vstruct, vcons, vnil, has_ty, WT}
use types.Logic.{Logic}
use types.Kit.{Goal, Seq, Step, step, Item, ‵, ◌$◌, move, drop, fsplit, fjoin, fpick, fpack, feq_l, feq_i, rewrite}
use denote.RattleType.{RattleType, Valss}
use denote.RawPtr.{◌+ₚ◌}
use denote.Laws.{Is, Typed, shows}
use denote.Param.{layout, param}
use denote.Param.Laws.{Laws, param_laws}
use denote.Steps.{nothing, peeks}
use denote.Struct.Struct.{Struct, within}
use Rattle.raw_region.specs.contracts.raw.OwnBytes as R

-- what the machine holds of a run, and of two things side by side
abbrev pub bare : Val
bare = vstruct vnil

abbrev pub beside : Val → Val → Val
beside u v = vstruct (vcons u (vcons v vnil))

abbrev pub alone : Val → Val
alone u = vstruct (vcons u vnil)

-- a machine value fits its type
abbrev pub Fits : RattleType → Val → Type 0
Fits R v = T (has_ty (layout R) v) × WT v

single : (τ : Ty) (vs : List Val) → Typed (τ ∷ []) vs → (v : Val) × ((vs ≡ v ∷ []) × (T (has_ty τ v) × WT v))
single τ [] ok = absurd ok
single τ (v ∷ []) ok = (v, (refl, ok.0))
single τ (v ∷ w ∷ vs) ok = absurd ok.1

-- the fields alone, under no name
abbrev pub fields_of : List RattleType → RattleType
fields_of Rs = Struct (record { name = []; args = []; types = []; fields = Rs })

module _ {M : Type 1} {𝓤 : Ura M} {𝓛 : Logic 𝓤} {K : Type 0} {Γ : List (Item 𝓤)} {G : Goal 𝓤 𝓛.H} where
  -- the bytes become the run's
  pub run_made : K → (r : OwnBytes)
      → Step K 𝓛 (‵ (R.the_row.own_val r (bare ∷ [])) ∷ Γ) G (‵ (run_owns (r.home +ₚ r.at) r.items r.room) ∷ Γ) G
  run_made t r = step (λ s.
      nothing t $ feq_i t (List Val) (bare ∷ []) (bare ∷ []) refl $ fjoin t $
      fpack t (Valss []) (within (record { name = []; args = []; types = []; fields = [] }) tt (bare ∷ [])) tt $
      fjoin t $ s)

  -- the run's bytes are taken out
  pub run_had : K → (r : OwnBytes) (vs : List Val)
      → (vs ≡ bare ∷ [] → Seq K 𝓛 (‵ (run_owns (r.home +ₚ r.at) r.items r.room) ∷ Γ) G)
      → Seq K 𝓛 (‵ (R.the_row.own_val r vs) ∷ Γ) G
  run_had t r vs k = fsplit t $ fpick t (λ none. fsplit t $ feq_l t (λ is. drop t $ k is))

  -- two values are a pair
  pub pair_made : K → (R S : RattleType) (x : R.Denot) (y : S.Denot) (u v : Val)
      → Step K 𝓛 (‵ ((fields_of (R ∷ S ∷ [])).own_val (x, (y, tt)) (beside u v ∷ [])) ∷ Γ) G
      (‵ (R.own_val x (u ∷ [])) ∷ ‵ (S.own_val y (v ∷ [])) ∷ Γ) G
  pair_made t R S x y u v = step (λ s.
      move t (1 ∷ []) $ nothing t $ move t (1 ∷ 0 ∷ []) $ fjoin t $ move t (1 ∷ 0 ∷ []) $ fjoin t $
      feq_i t (List Val) (beside u v ∷ []) (beside u v ∷ []) refl $ fjoin t $
      fpack t (Valss (R ∷ S ∷ [])) (within (record { name = []; args = []; types = []; fields = R ∷ S ∷ [] }) (
        x,
        (y, tt),
      ) (beside u v ∷ [])) (u ∷ [], (v ∷ [], tt)) $ s)

  -- what is owned has one machine value, which fits
  pub seen : K → (R : RattleType) → Laws R → (x : R.Denot) (vs : List Val)
      → ((v : Val) → vs ≡ v ∷ [] → Fits R v → Seq K 𝓛 (‵ (R.own_val x (v ∷ [])) ∷ Γ) G)
      → Seq K 𝓛 (‵ (R.own_val x vs) ∷ Γ) G
  seen t R L x vs k = peeks t (param 0 R) (Is (param 0 R)) (shows 𝓛 (param 0 R)) x vs (λ is.
      let one = single (layout R) vs (((param_laws 0 R L).lawful 𝓛).typed x vs is) in
      rewrite t 0 (λ us. ‵ (R.own_val x us)) one.1.0 refl $ k one.0 one.1.0 one.1.1)

  -- a value is a struct's one field, and is taken out again
  pub alone_made : K → (R : RattleType) (x : R.Denot) (u : Val)
      → Step K 𝓛 (‵ ((fields_of (R ∷ [])).own_val (x, tt) (alone u ∷ [])) ∷ Γ) G (‵ (R.own_val x (u ∷ [])) ∷ Γ) G
  alone_made t R x u = step (λ s.
      nothing t $ move t (1 ∷ 0 ∷ []) $ fjoin t $ feq_i t (List Val) (alone u ∷ []) (alone u ∷ []) refl $ fjoin t $
      fpack t (Valss (R ∷ [])) (within (record { name = []; args = []; types = []; fields = R ∷ [] }) (
        x,
        tt,
      ) (alone u ∷ [])) (u ∷ [], tt) $ s)

  pub alone_had : K → (R : RattleType) → Laws R → (x : R.Denot) (vs : List Val)
      → ((u : Val) → vs ≡ alone u ∷ [] → Fits R u → Seq K 𝓛 (‵ (R.own_val x (u ∷ [])) ∷ Γ) G)
      → Seq K 𝓛 (‵ ((fields_of (R ∷ [])).own_val (x, tt) vs) ∷ Γ) G
  alone_had t R L x vs k =
      fpick t (λ vss. fsplit t $ feq_l t (λ of_field. fsplit t $ move t (1 ∷ []) $ drop t $
      seen t R L x vss.0 (λ u is fits. k u (rw is at of_field) fits)))
