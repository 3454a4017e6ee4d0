use Rattle.heap_calls.proofs.Cited.{◌≡◌, ◌++◌, ◌⊎◌, ◌∙◌, Bool, true, List, Option, Some, [], Result, Ok, Err, OnOk, false, inl, inr, refl}
use Rattle.heap_calls.proofs.Cited.{sym, ap, subst, Memory, CountedMemory, Gone, Tells, TellsNothing, IsIdle, Rests, Hears, Block, Rest}
use Rattle.heap_calls.proofs.Cited.{IsRest, Halts, Stops}
use Rattle.std.proofs.Common.{IsTrue, IsOk}
use Rattle.std.proofs.lemmas.List.{append-nil, append_assoc}
use Rattle.heap_calls.specs.Left.{Step}

-- What a sink hears, step by step.

-- A sink to which nothing was said rests.
pub rests-still : {A : Type 0} (told waits : A → List Gone → Type 0) (listens : A → Bool) (sink : A)
    → IsIdle told waits sink → Rests told waits listens sink sink
rests-still told waits listens sink idle = record { idle = idle; same = refl }

-- A sink that is told of no block is as it was.
pub tells-none : {A : Type 0} (told : A → List Gone → Type 0) (more : List Gone) (old : A) → more ≡ []
    → Tells told more old old
tells-none told more old none before was = subst (told old) (sym (ap (λ l. before ++ l) none ∙ append-nil before)) was

-- A sink hears nothing of a call that purges nothing and says nothing to it.
pub hears-none : {A : Type 0} (told waits : A → List Gone → Type 0) (listens : A → Bool) (done : Type 0)
    (blocks : List Gone) (sink : A) → IsIdle told waits sink → blocks ≡ [] → Hears told waits listens done blocks sink sink
hears-none told waits listens done blocks sink idle none = record {
  tells = λ is on. tells-none told blocks sink none;
  rests = rests-still told waits listens sink idle;
}

-- The same blocks, of a call that is done where the first one is.
pub hears-as : {A : Type 0} (told waits : A → List Gone → Type 0) (listens : A → Bool) (done done' : Type 0)
    (blocks blocks' : List Gone) (sink heard : A) → (done' → done) → blocks ≡ blocks'
    → Hears told waits listens done blocks sink heard → Hears told waits listens done' blocks' sink heard
hears-as told waits listens done done' blocks blocks' sink heard also same hears = record {
  tells = λ is on. subst (λ (l : List Gone). Tells told l sink heard) same (hears.tells (also is) on);
  rests = hears.rests;
}

-- The blocks of one step, and then those of another.
pub hears-both : {A : Type 0} (told waits : A → List Gone → Type 0) (listens : A → Bool) (one two done : Type 0)
    (blocks more : List Gone) (sink mid heard : A) → (done → one) → (done → two) → Hears told waits listens one blocks sink mid
    → Hears told waits listens two more mid heard → Hears told waits listens done (blocks ++ more) sink heard
hears-both told waits listens one two done blocks more sink mid heard first second a b = record {
  tells = λ is on before was. subst (told heard) (append_assoc before blocks more)
      (b.tells (second is) (a.rests.same ∙ on) (before ++ blocks) (a.tells (first is) on before was));
  rests = record { idle = b.rests.idle; same = b.rests.same ∙ a.rests.same };
}

-- The same, where a sink is told only if it listens.
pub hears-if-on-ok : {A T E : Type 0} (told waits : A → List Gone → Type 0) (listens : A → Bool) (result : Result T E)
    (blocks blocks' : List Gone) (sink heard : A) → blocks ≡ blocks'
    → OnOk result (listens sink ≡ true → Tells told blocks sink heard)
    → Rests told waits listens sink heard → Hears told waits listens (IsOk result) blocks' sink heard
hears-if-on-ok told waits listens (Ok value) blocks blocks' sink heard same was rests =
    record { tells = λ ok on. subst (λ (l : List Gone). Tells told l sink heard) same (was on); rests = rests }
hears-if-on-ok told waits listens (Err fault) blocks blocks' sink heard same was rests =
    record { tells = λ ok on. let not : false ≡ true = ok in cc; rests = rests }

-- What a call leaves that the host stops.
module _ {A : Type 0} (takes : Bool) (told : A → List Gone → Type 0) (listens : A → Bool)
    (keeps : Memory → Memory → Type 0) (another : Type 0) (first : Option Step) (old new : CountedMemory) (sink : A)
  where
    -- the host had no memory before anything was said to the sink
    pub stops-at-once : ((m : Memory) → keeps m m) → new ≡ old → another
        → Stops takes told listens keeps another first old new sink sink
    stops-at-once still same why = record {
      kept = subst (λ (m : CountedMemory). keeps old.memory m.memory) (sym same) (still old.memory);
      left = inr (inl (record { same = same; silent = λ before was. was; why = inr why }));
    }

-- The same of a call that may have done its first step.
pub stops-on-the-way : {A : Type 0} (takes : Bool) (told : A → List Gone → Type 0) (listens : A → Bool)
    (keeps : Memory → Memory → Type 0) (another : Type 0) (first : Step) (old new : CountedMemory) (sink heard : A)
    → keeps old.memory new.memory
    → (IsTrue takes ⊎ (((new ≡ old) × TellsNothing told sink heard)
    ⊎ ((new.memory ≡ record old.memory { heap = record old.memory.heap { zone = first.zone } })
    × Tells told first.gone sink heard)))
    → (IsTrue takes ⊎ (listens sink ≡ true))
    → Stops takes told listens keeps another (Some first) old new sink heard
stops-on-the-way takes told listens keeps another first old new sink heard kept left on = record {
  kept = kept;
  left = elim on [
    | inl store ↦ inl store
    | inr hears ↦ elim left [
      | inl store ↦ inl store
      | inr all ↦ inr (elim all [
        | inl none ↦ inl (record { same = none.0; silent = none.1; why = inl hears })
        | inr one ↦ inr (record { same = one.0; tells = one.1; why = hears })
      ])
    ]
  ];
}

-- A step of the call over a store, which the host stopped.
pub stops-halted : {A : Type 0} (takes : Bool) (told : A → List Gone → Type 0) (listens : A → Bool)
    (keeps : Memory → Memory → Type 0) (another : Type 0) (first : Option Step) (old new : CountedMemory) (sink heard : A)
    {zone zone' : List Block} {rest rest' : Rest} → keeps old.memory new.memory
    → (zone' ≡ zone → IsRest rest rest' → new ≡ old) → Halts takes told listens zone rest zone' rest' sink heard
    → Stops takes told listens keeps another first old new sink heard
stops-halted takes told listens keeps another first old new sink heard kept back halts = record {
  kept = kept;
  left = elim halts [
    | inl store ↦ inl store
    | inr all ↦ inr (inl (record { same = back all.same all.kept; silent = all.silent; why = inl all.why }))
  ];
}
