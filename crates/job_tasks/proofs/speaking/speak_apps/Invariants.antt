use Rattle.job_tasks.proofs.Cited.{◌≡◌, map, told_seen, apps_in_words}
use Rattle.job_tasks.proofs.Spoken.{from}
use Rattle.job_tasks.proofs.speaking.speak_apps.Given as goal

-- those so far are in words
abbrev pub invariant-loop-i : goal.invariant-loop-i
invariant-loop-i l = from l.job (map (λ t. t.items) l.scripts) l.i l.apps.items
    ≡ apps_in_words l.job (map (λ t. t.items) l.scripts) 0 (map told_seen l.initial.apps.items)
