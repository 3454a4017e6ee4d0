use Rattle.heap_calls.proofs.Cited.{◌≡◌, ◌⊎◌, inl, inr, ℕ, ◌+◌, ◌≤◌, Bool, true, false, List, [], ◌∷◌, ◌++◌, length, refl, ◌∙◌, ap, cond}
use Rattle.heap_calls.proofs.Cited.{◌==◌, arith, cond-true, Decides-eqb, is_some, phys, Flags, Block, Free, Masters, Relocatable, total}
use Rattle.heap_calls.proofs.Cited.{is_relocatable, has, count-none, Put, Did, did, did-append, Sought, no_room, seek, if_fits, seek_slot}
use Rattle.heap_calls.proofs.Cited.{length-append, fits-refused, seek-refused, if-more, put-there, State, Role, Handle, nothing, is_unused}
use Rattle.heap_calls.proofs.Cited.{slotted_zone, Done, heap_after, reply_of, new_filled, has_block, read_new}
use Rattle.heap_calls.specs.Rows.{given}
use Rattle.heap_calls.proofs.Rows.Most.{slot-even}

-- What a new handle with a block makes of a heap.

-- a measure that sees neither Free blocks nor master pointers
abbrev pub Sees : (Block → ℕ) → Type 0
Sees of = ((n : ℕ) → of (Free n) ≡ 0) × (of Masters ≡ 0)

-- no handle was made; or the next number is a handle's, with the bytes in its block
pub record Unmade (s : State) (x : List ℕ) (d : Done ℕ) : Type 0 where
  pub names : length d.names ≡ length s.names
  pub read : read_new x d.reply ≡ []
  pub most : (of : Block → ℕ) → Sees of → total of (heap_after d s).zone ≤ total of s.zone

pub record Made (flags : Flags) (s : State) (x : List ℕ) (d : Done ℕ) : Type 0 where
  pub names : length d.names ≡ length s.names + 1
  pub read : read_new x d.reply ≡ (length s.names, x) ∷ []
  pub most : (of : Block → ℕ) → Sees of
      → total of (heap_after d s).zone ≤ of (Relocatable (length s.names) flags x) + total of s.zone
  pub there : has_block (length s.names) (heap_after d s) ≡ true

abbrev pub Way : Flags → State → List ℕ → Done ℕ → Type 0
Way flags s x d = Unmade s x d ⊎ Made flags s x d

-- by whether room was found for its master pointer, and for its block
pub way : (role : Role) (flags : Flags) (x : List ℕ) (s : State) → Way flags s x (new_filled role flags x s)
way role flags x s = by_slot slot.found refl
  where
    new : Block
    new = Relocatable (length s.names) flags x

    slot : Sought
    slot = seek_slot (is_unused s) nothing s.zone

    ready : List Block
    ready = slotted_zone nothing s

    more : Sought
    more = if_fits (length x) (seek (Put new) nothing ready)

    so : Bool → Sought
    so t = cond t (record { found = more.found; path = slot.path ++ more.path }) slot

    done : Sought → Done ℕ
    done r = given (Handle role) nothing r s

    slot-most : (of : Block → ℕ) → Sees of → total of ready ≤ total of s.zone
    slot-most of sees = omega (arith, slot-even of sees.0 sees.1 s nothing)

    after : (did nothing (so true).path s.zone).zone ≡ (did nothing more.path ready).zone
    after = ap (λ (d : Did). d.zone) (did-append nothing slot.path more.path s.zone)

    unmade : (r : Sought) → r.found ≡ false
        → ((of : Block → ℕ) → Sees of → total of (did nothing r.path s.zone).zone ≤ total of s.zone) → Unmade s x (done r)
    unmade r none most = record {
      names = ap (λ t. length (cond t (s.names ++ Handle role ∷ []) s.names)) none;
      read = ap (λ t. read_new x (reply_of t (length s.names))) none;
      most = most;
    }

    there : (of : Block → ℕ) → Sees of → more.found ≡ true → of new ≤ total of (did nothing more.path ready).zone
    there of sees = cases (is_some (phys (length x)))
      where
        cases : (t : Bool) → (cond t (seek (Put new) nothing ready) no_room).found ≡ true
            → of new ≤ total of (did nothing (cond t (seek (Put new) nothing ready) no_room).path ready).zone
        cases true found = put-there of nothing sees.0 new ready found
        cases false found = let f : false ≡ true = found in cc

    one : Block → ℕ
    one b = cond (is_relocatable (length s.names) b) 1 0

    has-new : more.found ≡ true → (t : Bool) → has (is_relocatable (length s.names)) (did nothing (so true).path s.zone).zone ≡ t
        → t ≡ true
    has-new found true e = refl
    has-new found false e = absurd (omega (
      arith,
      there one ((λ k. refl), refl) found,
      ap (total one) after,
      count-none (is_relocatable (length s.names)) (did nothing (so true).path s.zone).zone e,
      cond-true {A = ℕ} (length s.names == length s.names) 1 0 ((Decides-eqb (length s.names) (length s.names)).1 refl),
    ))

    made : more.found ≡ true → Made flags s x (done (so true))
    made found = record {
      names = ap (λ t. length (cond t (s.names ++ Handle role ∷ []) s.names)) found ∙ length-append s.names (Handle role ∷ []);
      read = ap (λ t. read_new x (reply_of t (length s.names))) found;
      most = λ of sees. omega (
        arith,
        ap (total of) after,
        if-more of nothing sees.0 (is_some (phys (length x))) (Put new) (λ y. tt) ready,
        slot-most of sees,
      );
      there = has-new found _ refl;
    }

    by_more : (t : Bool) → more.found ≡ t → Way flags s x (done (so true))
    by_more true e = inr (made e)
    by_more false e = inl (unmade (so true) e (λ of sees. omega (
      arith,
      ap (total of) (after ∙ ap (λ (d : Did). d.zone) ((fits-refused nothing (length x) (seek (Put new) nothing ready)
          (seek-refused nothing (Put new) ready) e).1 ready)),
      slot-most of sees,
    )))

    by_slot : (t : Bool) → slot.found ≡ t → Way flags s x (done (so t))
    by_slot true e = by_more more.found refl
    by_slot false e = inl (unmade slot e slot-most)
