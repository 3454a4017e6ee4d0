-- A spot that is there, or that is not.
use Rattle.zone_bytes.proofs.Cited.{arith, ◌≡◌, Option, Some, None, ◌∙◌, sym, same_Some, IfSome, IsSome, IsSomeAnd}

module _ {A : Type 0} where
  pub if-spot : (o : Option A) (P : A → Type 0) → ((s : A) → o ≡ Some s → P s) → IfSome o P
  if-spot o P f = grind arith

  pub the-spot : (o : Option A) (P : A → Type 0) → IsSomeAnd o P → (s : A) × (o ≡ Some s) × P s
  the-spot o P h = grind arith

  pub a-spot : (o : Option A) → IsSome o → (s : A) × (o ≡ Some s)
  a-spot o h = grind arith

  pub one-spot : (o : Option A) (s t : A) → o ≡ Some s → o ≡ Some t → s ≡ t
  one-spot o s t e f = same_Some s t (sym e ∙ f)

  pub the-if : (o : Option A) (P : A → Type 0) (s : A) → o ≡ Some s → IfSome o P → P s
  the-if o P s e h = grind arith

  pub no-spot : (o : Option A) → ((s : A) → o ≡ Some s → ⊥) → o ≡ None
  no-spot o f = grind arith
