-- A line that can't be read ends the reading of a list.
use Rattle.fork_edits.proofs.Cited.{◌≡◌, ℕ, ◌+◌, ◌<◌, List, ◌∷◌, Result, map, length, drop, get_or, sym, ap, subst, ◌∙◌, Bor, drop_more}
use Rattle.fork_edits.proofs.Cited.{LineFault, LineStop, Listed, Draft, at_line, line_read, lines_read, without_return, stopped_at}
use Rattle.fork_edits.proofs.Cited.{StopsLine, StopsList}
use Rattle.fork_edits.specs.declared.entries.LineStop.TheVariants as stop

line_stops : (why : LineStop) (n : ℕ) (line : List ℕ) (d : Draft) (lines : List (List ℕ)) (total : Result Listed (ℕ × LineFault))
    → StopsLine why (line_read (without_return line) d) → lines_read n d (line ∷ lines) ≡ total
    → StopsList (stopped_at n why) total
line_stops stop.HostMemory n line d lines total stops told = tt
line_stops (stop.Wrong fault) n line d lines total stops told =
    sym told ∙ ap (λ r. at_line n r (λ e. lines_read (n + 1) e lines)) stops

-- the next line can't be read
pub next_stops : (why : LineStop) (i : ℕ) (lines : List (Bor (List ℕ))) (other : Bor (List ℕ)) (bare : List ℕ) (d : Draft)
    (total : Result Listed (ℕ × LineFault)) → i < length lines → bare ≡ without_return (get_or lines i other).now
    → StopsLine why (line_read bare d)
    → lines_read (i + 1) d (map {A = Bor (List ℕ)} {B = List ℕ} (λ line. line.now) (drop i lines)) ≡ total
    → StopsList (stopped_at (i + 1) why) total
next_stops why i lines other bare d total inside is stops told =
    let now : Bor (List ℕ) → List ℕ = λ line. line.now in
    line_stops why (i + 1) (get_or lines i other).now d (map now (drop (i + 1) lines)) total
    (subst (λ l. StopsLine why (line_read l d)) is stops)
    (ap (λ l. lines_read (i + 1) d (map now l)) (sym (drop_more lines i other inside)) ∙ told)
