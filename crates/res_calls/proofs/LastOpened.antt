use Rattle.res_calls.proofs.Cited.{◌≡◌, ◌<◌, ℕ, suc, ℤ, pos, Bool, true, false, true≢false, not, Option, Some, None, List, [], ◌∷◌, length}
use Rattle.res_calls.proofs.Cited.{refl, sym, ◌∙◌, ap, subst, cond, arith, not-true, Decides-int_eq, int_eq, OsErr, NO_ERR, DISK_FULL}
use Rattle.res_calls.proofs.Cited.{State, Memory, Split, OpenFile, Resources, Managers, is_system, managers, FilesClosed, update_code}
use Rattle.res_calls.proofs.Cited.{updated_or, left_file, last_opened, first_code, leave, leave_files, has_own, left_one_of, left_one}
use Rattle.res_calls.proofs.Cited.{left_after, at_index, left_last, left_last_of, IsLastUpdated, IsLastClosed, StopsAmid, handles_of}
use Rattle.res_calls.proofs.Cited.{closed, closed_file, Sound, update, updated_map, rewritten}
use Rattle.res_calls.proofs.Keeping.{update-comes}
use Rattle.res_calls.proofs.LettingGo.{updated-handles, lies-released}
use Rattle.res_calls.proofs.Soundness.Changes.{sound-closed, sound-closed-written}

-- The last opened file is updated and closed, and so are those before it, as an application leaves.

-- an update of it: done, or refused and nothing changed
pub last_updated : (m : Memory) (chain : List OpenFile) (before after : Resources)
    → ((s : Split OpenFile) → at_index 0 chain ≡ Some s → update m.heap s before ≡ Some after)
    → IsLastUpdated m chain NO_ERR before after
last_updated m [] before after each = tt
last_updated m (f ∷ older) before after each = let is = each (last_opened f older) refl in
    (sym (ap update_code is), sym (ap (λ (o : Option Resources). updated_or o before) is))

pub last_refused : (m : Memory) (chain : List OpenFile) (code : OsErr) (before after : Resources)
    → ((s : Split OpenFile) → at_index 0 chain ≡ Some s → (code ≡ DISK_FULL) × (update m.heap s before ≡ None))
    → after ≡ before → IsLastUpdated m chain code before after
last_refused m [] code before after each same = tt
last_refused m (f ∷ older) code before after each same = let is = each (last_opened f older) refl in (
  is.0 ∙ sym (ap update_code is.1),
  same ∙ sym (ap (λ (o : Option Resources). updated_or o before) is.1),
)

-- it stands in its place afterwards, with its number and its handles
record Stays (f : OpenFile) (older : List OpenFile) (r : Resources) : Type 0 where
  file : OpenFile
  chain : r.chain ≡ file ∷ older
  number : file.number ≡ f.number
  handles : handles_of file.map.references ≡ handles_of f.map.references

stays : (heap : State) (f : OpenFile) (older : List OpenFile) (r : Resources) → r.chain ≡ f ∷ older
    → Stays f older (updated_or (update heap (last_opened f older) r) r)
stays heap f older r is = by_update (update heap (last_opened f older) r)
    (λ q. update-comes (Stays f older) heap (last_opened f older) r q same written_so)
  where
    same : Stays f older r
    same = record { file = f; chain = is; number = refl; handles = refl }

    written_so : Stays f older (rewritten heap (last_opened f older) r)
    written_so = record {
      file = record f { map = updated_map heap f.map; touched = false };
      chain = refl;
      number = refl;
      handles = updated-handles heap f.map.references;
    }

    by_update : (o : Option Resources) → ((q : Resources) → o ≡ Some q → Stays f older q)
        → Stays f older (updated_or o r)
    by_update None each = same
    by_update (Some q) each = each q refl

-- then it is closed
closed-stays : (f : OpenFile) (older : List OpenFile) (m : Memory) (r : Resources) (t : Stays f older r)
    (s : Managers) → s.memory ≡ m
    → closed_file (last_opened t.file older) r (managers r m) ≡ closed_file (last_opened f older) r s
closed-stays f older m r t s same = rw (t.number, t.handles, same) refl

last_of : (chain : List OpenFile) (before after : Resources) (m : Memory) (code : OsErr) (left : Managers)
    → before.chain ≡ chain → has_own chain ≡ true → IsLastUpdated m chain code before after
    → IsLastClosed after.chain (managers after m) left
    → (code ≡ (left_last_of chain (managers before m)).code) × (left ≡ (left_last_of chain (managers before m)).after)
last_of [] before after m code left is own updated let_go = cc
last_of (f ∷ older) before after m code left is own updated let_go =
    let there : Stays f older after = subst (Stays f older) (sym updated.1) (stays m.heap f older before is) in
    let gone : closed_file (last_opened there.file older) after (managers after m) ≡ left =
    subst (λ (chain : List OpenFile). IsLastClosed chain (managers after m) left) there.chain let_go in (
      updated.0,
      sym gone ∙ closed-stays f older m after there (managers before m) refl
          ∙ ap (λ (r : Resources). closed_file (last_opened f older) r (managers before m)) updated.1,
    )

pub last_left : (before now after : Resources) (m : Memory) (code : OsErr) (left : Managers)
    → before ≡ now → has_own now.chain ≡ true → IsLastUpdated m before.chain code before after
    → IsLastClosed after.chain (managers after m) left
    → (code ≡ (left_last (managers now m)).code) × (left ≡ (left_last (managers now m)).after)
last_left before now after m code left is own updated let_go =
    subst (λ (r : Resources). (code ≡ (left_last (managers r m)).code) × (left ≡ (left_last (managers r m)).after)) is
    (last_of before.chain before after m code left refl
    (ap (λ (r : Resources). has_own r.chain) is ∙ own) updated let_go)

-- what holds of the open files holds after it
pub sound_left_file : (f : OpenFile) (older : List OpenFile) (s : Managers) → s.resources.chain ≡ f ∷ older
    → is_system f ≡ false → Sound s.resources → Sound (left_file (last_opened f older) s).resources
sound_left_file f older s is own sound = by_update (update s.memory.heap (last_opened f older) s.resources)
    (λ q. update-comes (λ r. Sound (closed (last_opened f older) r)) s.memory.heap (last_opened f older) s.resources q
    closes (sound-closed-written s.memory.heap s.resources (last_opened f older) closes))
  where
    closes : Sound (closed (last_opened f older) s.resources)
    closes = sound-closed s.resources (last_opened f older) (sym is) own sound

    by_update : (o : Option Resources)
        → ((q : Resources) → o ≡ Some q → Sound (closed (last_opened f older) q))
        → Sound (closed (last_opened f older) (updated_or o s.resources))
    by_update None each = closes
    by_update (Some q) each = each q refl

sound_last_of : (chain : List OpenFile) (s : Managers) → s.resources.chain ≡ chain → has_own chain ≡ true
    → Sound s.resources → Sound (left_last_of chain s).after.resources
sound_last_of [] s is own sound = sound
sound_last_of (f ∷ older) s is own sound = sound_left_file f older s is (not-true (is_system f) own) sound

pub sound_left_last : (before now after : Resources) (m : Memory) (code : OsErr) (left : Managers)
    → before ≡ now → has_own now.chain ≡ true → IsLastUpdated m before.chain code before after
    → IsLastClosed after.chain (managers after m) left → Sound before → Sound left.resources
sound_left_last before now after m code left is own updated let_go sound =
    let parts = last_left before now after m code left is own updated let_go in
    subst (λ (s : Managers). Sound s.resources) (sym parts.1)
    (sound_last_of now.chain (managers now m) refl own (subst Sound is sound))

-- files are left one after the other
pub next_code : (chain : List OpenFile) (s : Managers) → has_own chain ≡ true → (leave_files chain s).code
    ≡ first_code (left_last_of chain s).code (leave (left_last_of chain s).after).code
next_code [] s own = cc
next_code (f ∷ older) s own = rw (not-true (is_system f) own) refl

pub next_after : (chain : List OpenFile) (s : Managers) → has_own chain ≡ true
    → (leave_files chain s).after ≡ (leave (left_last_of chain s).after).after
next_after [] s own = cc
next_after (f ∷ older) s own = rw (not-true (is_system f) own) refl

pub no_more : (chain : List OpenFile) (s : Managers) → has_own chain ≡ false
    → leave_files chain s ≡ (let left : FilesClosed = record { code = NO_ERR; after = s } in left)
no_more [] s none = refl
no_more (f ∷ older) s none = rw (by_number (is_system f) none) refl
  where
    by_number : (t : Bool) → not t ≡ false → t ≡ true
    by_number true e = refl
    by_number false e = absurd (true≢false e)

-- the first code of three
code-grouped : (a b c : OsErr) → first_code (first_code a b) c ≡ first_code a (first_code b c)
code-grouped a b c = by_first (int_eq a.0 (pos 0)) refl
  where
    by_first : (t : Bool) → int_eq a.0 (pos 0) ≡ t
        → first_code (cond t b a) c ≡ cond t (first_code b c) a
    by_first true e = refl
    by_first false e = rw e refl

-- the code so far and the code of the rest is the code of all, and the rest is left as all is
pub record Leaves (so_far : OsErr) (now start : Managers) : Type 0 where
  pub code : first_code so_far (leave now).code ≡ (leave start).code
  pub after : (leave now).after ≡ (leave start).after

pub leaves_next : (code next : OsErr) (now later start : Managers) → has_own now.resources.chain ≡ true
    → next ≡ (left_last now).code → later ≡ (left_last now).after → Leaves code now start
    → Leaves (first_code code next) later start
leaves_next code next now later start own told left so = record {
  code = code-grouped code next (leave later).code
      ∙ ap (first_code code) (sym (next_code now.resources.chain now own
      ∙ ap (λ (c : OsErr). first_code c (leave (left_last now).after).code) (sym told)
      ∙ ap (λ (s : Managers). first_code next (leave s).code) (sym left)))
      ∙ so.code;
  after = ap (λ (s : Managers). (leave s).after) left ∙ sym (next_after now.resources.chain now own) ∙ so.after;
}

-- as an application leaves, its heap lies where it lay
leave-lies : (chain : List OpenFile) (s : Managers) → (leave_files chain s).after.memory.window ≡ s.memory.window
leave-lies [] s = refl
leave-lies (f ∷ older) s = by_system
    (leave-lies older (left_file (last_opened f older) s) ∙ lies-released (handles_of f.map.references) s.memory)
    (is_system f)
  where
    at : Split OpenFile
    at = last_opened f older

    left : FilesClosed
    left = leave_files older (left_file at s)

    first : FilesClosed
    first = record {
      code = first_code (update_code (update s.memory.heap at s.resources)) left.code;
      after = left.after;
    }

    by_system : left.after.memory.window ≡ s.memory.window → (t : Bool)
        → (cond t (let l : FilesClosed = record { code = NO_ERR; after = s } in l) first).after.memory.window
        ≡ s.memory.window
    by_system behind true = refl
    by_system behind false = behind

pub leaves-lies : (code : OsErr) (now start : Managers) → Leaves code now start
    → now.memory.window ≡ start.memory.window
leaves-lies code now start so =
    sym (leave-lies now.resources.chain now) ∙ ap (λ (s : Managers). s.memory.window) so.after
    ∙ leave-lies start.resources.chain start

-- the first files were left
pub record LeftSome (now start : Managers) : Type 0 where
  pub k : ℕ
  pub left : now ≡ left_after k start

one-of : (chain : List OpenFile) (s : Managers) → (left_last_of chain s).after ≡ left_one_of chain s
one-of [] s = refl
one-of (f ∷ older) s = refl

pub one_more : (now later start : Managers) → later ≡ (left_last now).after → LeftSome now start → LeftSome later start
one_more now later start is so = record {
  k = suc so.k;
  left = is ∙ one-of now.resources.chain now ∙ ap left_one so.left;
}

pub stops_there : (now later start : Managers) → has_own now.resources.chain ≡ true → later ≡ now → LeftSome now start
    → StopsAmid start later
stops_there now later start own same so = record {
  k = so.k;
  more = ap (λ (s : Managers). has_own s.resources.chain) (sym so.left) ∙ own;
  left = same ∙ so.left;
}
