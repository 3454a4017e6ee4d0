-- The same text one line further down.
use Rattle.rez_text.proofs.Cited.{◌≡◌, ◌==◌, ◌&&◌, ◌||◌, ◌+◌, ◌-◌, ℕ, Bool, true, false, cond, Result, Ok, Err, List, [], ◌∷◌, ◌++◌, not}
use Rattle.rez_text.proofs.Cited.{refl, sym, ap, ◌∙◌, arith, min, StatementFault, FaultKind, Lines, Mode, State, line_of, step, finish}
use Rattle.rez_text.proofs.Cited.{begun_on, lines_at, is_whole, fault_line, at_line, read_from}
use Rattle.rez_text.specs.declared.fault.FaultKind.TheVariants as faults
use Rattle.rez_text.specs.declared.mode.Mode.TheVariants as mode

-- lines one further down
abbrev pub further : Lines → Lines
further l = record { line = l.line + 1; last = l.last; begun = l.begun + 1 }

abbrev pub moved : {A : Type 0} → Result A (ℕ × FaultKind) → Result A (ℕ × FaultKind)
moved (Ok x) = Ok x
moved (Err e) = Err (e.0 + 1, e.1)

line_further : (n before b : ℕ) → line_of (n + 1) before b ≡ line_of n before b + 1
line_further n before b = cases (before == 10 || (before == 13 && not (b == 10)))
  where
    cases : (t : Bool) → cond t (n + 1 + 1) (n + 1) ≡ cond t (n + 1) n + 1
    cases true = refl
    cases false = refl

begun_further : (m : Mode) (line begun : ℕ) → begun_on m (line + 1) (begun + 1) ≡ begun_on m line begun + 1
begun_further mode.Between line begun = refl
begun_further m line begun = refl

lines_further : (m : Mode) (b : ℕ) (l : Lines) → lines_at m b (further l) ≡ further (lines_at m b l)
lines_further m b l =
    let line = line_further l.line l.last b in
    ap (λ n. record { line = n; last = b; begun = begun_on m n (l.begun + 1) }) line
    ∙ ap (λ n. record { line = line_of l.line l.last b + 1; last = b; begun = n })
    (begun_further m (line_of l.line l.last b) l.begun)

whole_further : (t : Bool) (line begun : ℕ) → cond t (begun + 1) (line + 1) ≡ cond t begun line + 1
whole_further true line begun = refl
whole_further false line begun = refl

within_further : (n line begun : ℕ) → min (begun + 1 + (n - 1)) (line + 1) ≡ min (begun + (n - 1)) line + 1
within_further n line begun = omega arith

fault_further : (kind : FaultKind) (l : Lines) → fault_line kind (further l) ≡ fault_line kind l + 1
fault_further (faults.Within line fault) l = within_further line l.line l.begun
fault_further kind l = whole_further (is_whole kind) l.line l.begun

-- a text of which the rest is read one line further down
pub read_further : (text : List ℕ) (l : Lines) (s : State) → read_from (further l) s text ≡ moved (read_from l s text)
read_further [] l s = cases (finish s)
  where
    cases : (r : Result State FaultKind) → at_line (further l) r (λ t. Ok t) ≡ moved (at_line l r (λ t. Ok t))
    cases (Ok t) = refl
    cases (Err kind) = ap (λ n. Err (n, kind)) (fault_further kind l)
read_further (b ∷ rest) l s =
    ap (λ k. at_line k (step b s) (λ t. read_from k t rest)) (lines_further s.mode b l)
    ∙ cases (step b s) (λ t. read_further rest (lines_at s.mode b l) t)
  where
    cases : (r : Result State FaultKind)
        → ((t : State) → read_from (further (lines_at s.mode b l)) t rest ≡ moved (read_from (lines_at s.mode b l) t rest))
        → at_line (further (lines_at s.mode b l)) r (λ t. read_from (further (lines_at s.mode b l)) t rest)
        ≡ moved (at_line (lines_at s.mode b l) r (λ t. read_from (lines_at s.mode b l) t rest))
    cases (Ok t) go = go t
    cases (Err kind) go = ap (λ n. Err (n, kind)) (fault_further kind (lines_at s.mode b l))
