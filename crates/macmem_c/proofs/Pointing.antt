-- A struct of a pointer and an allocator in the machine: its value, and what its two fields own.
use Rattle.macmem_c.proofs.Cited.{◌≡◌, List, [], ◌∷◌, ◌++◌, refl, subst, Ghosts, Al, handle_tells, Good, and_tt}
use lib.Dec.{lit<}
use seplogic.Ra.Ura.{Ura}
use mir.Syntax.{Sym, Lifetime, ty_struct, ty_ptr, impl, tcons, tnil, dnil}
use mir.Val.{Val, vstruct, vcons, vnil, of_list, has_ty}
use types.Logic.{Logic}
use types.Kit.{Item, Goal, Seq, Step, step, ‵, ◌$◌, move, drop, fsplit, fjoin, fpick, fpack, feq_i, feq_l}
use denote.RattleType.{RattleType, Valss}
use denote.Builtin.{RawPtr}
use denote.RawPtr.{Ptr, block_ptr, null_ptr, ptr_val}
use denote.Steps.{nothing}
use denote.Param.{layout}
use denote.Param.Laws.{Laws}
use denote.Struct.Struct.{Shape, Struct, within}

-- the machine value of the struct
abbrev pub pointing : Ptr → Val → Val
pointing p h = vstruct (vcons (ptr_val p) (vcons h vnil))

-- it has the type of such a struct, where the allocator's value has its own
pub pointing-good : (name : Sym) (Z : RattleType) (p : Ptr) (h : Val) → Good (layout Z) h
    → Good (ty_struct name (tcons ty_ptr (tcons (layout Z) tnil))) (pointing p h)
pointing-good name Z (block_ptr b o) h good = (and_tt (has_ty (layout Z) h) good.0, (tt, (good.1, tt)))
pointing-good name Z null_ptr h good = (and_tt (has_ty (layout Z) h) good.0, (record { fits = lit< tt }, (good.1, tt)))

-- the pointer alone has its type
pub pointer-good : (p : Ptr) → Good ty_ptr (ptr_val p)
pointer-good (block_ptr b o) = (tt, tt)
pointer-good null_ptr = (tt, record { fits = lit< tt })

module _ (name : Sym) (args : List Lifetime) (types : List RattleType) (Z : RattleType) (laws : Laws Z) (g : Ghosts Z.Denot) where
  abbrev shape : Shape
  shape = record { name = name; args = args; types = types; fields = RawPtr ∷ Z ∷ [] }

  abbrev al : Al
  al = record { row = Z; laws = laws; g = g; d = impl [] tnil dnil; drops = impl [] tnil dnil }

  module _ {M : Type 1} {𝓤 : Ura M} {𝓛 : Logic 𝓤} {K : Type 0} {Γ : List (Item 𝓤)} {G : Goal 𝓤 𝓛.H} where
    -- the fields are taken apart: what is left is what the allocator owns
    pub parts_out : K → (p : Ptr) (a : Z.Denot) (vs : List Val)
        → ((h : Val) → vs ≡ pointing p h ∷ [] → Good (layout Z) h → Seq K 𝓛 (‵ (Z.own_val a (h ∷ [])) ∷ Γ) G)
        → Seq K 𝓛 (‵ ((Struct shape).own_val (p, (a, tt)) vs) ∷ Γ) G
    parts_out t p a vs next =
        fpick t (λ vss. fsplit t $ feq_l t (λ all. fsplit t $ feq_l t (λ at. fsplit t $
        handle_tells al t a vss.1.0 (λ h is good. move t (1 ∷ []) $ drop t $
        next h (subst (λ (ws : List Val). vs ≡ vstruct (of_list (ptr_val p ∷ (ws ++ []))) ∷ []) is
        (subst (λ (ps : List Val). vs ≡ vstruct (of_list (ps ++ (vss.1.0 ++ []))) ∷ []) at all)) good))))

    -- they are put together
    pub parts_in : K → (p : Ptr) (a : Z.Denot) (h : Val)
        → Step K 𝓛 (‵ ((Struct shape).own_val (p, (a, tt)) (pointing p h ∷ [])) ∷ Γ) G (‵ (Z.own_val a (h ∷ [])) ∷ Γ) G
    parts_in t p a h = step (λ next.
        nothing t $ move t (1 ∷ 0 ∷ []) $ fjoin t $
        feq_i t (List Val) (ptr_val p ∷ []) (ptr_val p ∷ []) refl $ fjoin t $
        feq_i t (List Val) (pointing p h ∷ []) (pointing p h ∷ []) refl $ fjoin t $
        fpack t (Valss (RawPtr ∷ Z ∷ [])) (within shape (p, (a, tt)) (pointing p h ∷ [])) (ptr_val p ∷ [], (h ∷ [], tt)) $
        next)
