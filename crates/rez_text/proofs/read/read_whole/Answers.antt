use Rattle.rez_text.proofs.Cited.{◌≡◌, ℕ, ◌+◌, Ok, Err, List, [], ◌∷◌, get_or, drop, ap, ◌∙◌, sym, arith, at_drop_more, at_drop_all}
use Rattle.rez_text.proofs.Cited.{StepFault, Lines, State, state_of, LeadsTo, step, finish, at_line, lines_at, read_from, fault_at, FailsAt}
use Rattle.rez_text.specs.declared.fault.StepFault.TheVariants as step_faults
use Rattle.rez_text.proofs.read.read_whole.Goals as goal

-- after a step, what is still to be read gives what it gave before
goes_on : (lines : Lines) (b : ℕ) (s t : State) (rest : List ℕ) → step b s ≡ Ok t
    → read_from lines s (b ∷ rest) ≡ read_from (lines_at s.mode b lines) t rest
goes_on lines b s t rest e = ap (λ r. at_line (lines_at s.mode b lines) r (λ u. read_from (lines_at s.mode b lines) u rest)) e

-- a step that fails is what is wrong with the text
step_fails : (f : StepFault) (lines : Lines) (b : ℕ) (s new : State) (rest : List ℕ) → LeadsTo {A = Unit {0}} (Err f) new (step b s)
    → FailsAt (fault_at (lines_at s.mode b lines) f) (read_from lines s (b ∷ rest))
step_fails (step_faults.Wrong kind) lines b s new rest e =
    ap (λ r. at_line (lines_at s.mode b lines) r (λ u. read_from (lines_at s.mode b lines) u rest)) e
step_fails step_faults.Memory lines b s new rest e = tt

-- so is an end that fails
finish_fails : (f : StepFault) (lines : Lines) (s new : State) → LeadsTo {A = Unit {0}} (Err f) new (finish s)
    → FailsAt (fault_at lines f) (read_from lines s [])
finish_fails (step_faults.Wrong kind) lines s new e = ap (λ r. at_line lines r (λ t. Ok t)) e
finish_fails step_faults.Memory lines s new e = tt

pub loop-byte-preserved : goal.loop-byte-preserved
loop-byte-preserved c =
    let lines = c.loop-byte.lines in
    let s = state_of c.loop-byte.reader in
    let i = c.loop-byte.byte-index in
    let text = c.args.text.now in
    let on = goes_on lines (get_or text i 0) s (state_of c.step.new.self) (drop (i + 1) text) c.in-Ok.ensures in
    record {
      counted = omega (arith, c.at-lines.ensures.small, c.loop-byte.invariant.counted);
      rest = rw c.at-lines.ensures.lines
          (sym on ∙ sym (at_drop_more (read_from lines s) text i 0 c.loop-byte-test.true) ∙ c.loop-byte.invariant.rest);
    }

pub returns-in-Err : goal.returns-in-Err
returns-in-Err c =
    let lines = c.loop-byte.lines in
    let s = state_of c.loop-byte.reader in
    let i = c.loop-byte.byte-index in
    let text = c.args.text.now in
    let fails = step_fails c.in-Err.fault lines (get_or text i 0) s (state_of c.step.new.self) (drop (i + 1) text) c.in-Err.ensures in
    rw (
      c.at.ensures,
      c.at-lines.ensures.lines,
      ← c.loop-byte.invariant.rest,
      at_drop_more (read_from lines s) text i 0 c.loop-byte-test.true,
    ) fails

pub returns-in-Ok-finish : goal.returns-in-Ok-finish
returns-in-Ok-finish c =
    let lines = c.loop-byte.lines in
    let s = state_of c.loop-byte.reader in
    sym c.loop-byte.invariant.rest ∙ at_drop_all (read_from lines s) c.args.text.now c.loop-byte.byte-index c.loop-byte-test.false
    ∙ ap (λ r. at_line lines r (λ t. Ok t)) c.in-Ok-finish.ensures

pub returns-in-Err-finish : goal.returns-in-Err-finish
returns-in-Err-finish c =
    let lines = c.loop-byte.lines in
    let s = state_of c.loop-byte.reader in
    let fails = finish_fails c.in-Err-finish.fault lines s (state_of c.finish.new.self) c.in-Err-finish.ensures in
    rw (
      c.at-in-Err-finish.ensures,
      ← c.loop-byte.invariant.rest,
      at_drop_all (read_from lines s) c.args.text.now c.loop-byte.byte-index c.loop-byte-test.false,
    ) fails
