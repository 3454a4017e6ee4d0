use Rattle.job_tasks.proofs.Cited.{◌≡◌, ◌∙◌, ◌<◌, ap, List, ℕ, length, map, slice_get, rules, option_map, told_seen, system_of}
use Rattle.job_tasks.proofs.Cited.{app_in_words}
use Rattle.job_tasks.proofs.Spoken.{one_more, text_at, got}
use Rattle.job_tasks.proofs.speaking.speak_apps.Goals as goal

pub loop-i-preserved : goal.loop-i-preserved
loop-i-preserved c =
    let scripts : List (List ℕ) = map (λ t. t.items) c.args.scripts.now in
    let within : c.loop-i.i < length c.loop-i.apps.items = search rules in
    let app : option_map (λ a. a.now) c.get.result ≡ slice_get c.args.job.now.apps.items c.loop-i.i =
    got c.deref.result.now c.loop-i.i c.get.result c.get.ensures.lookup
    ∙ ap (λ apps. slice_get apps c.loop-i.i) c.deref.ensures.value in
    let text : option_map (λ t. t.now) c.get-in-loop-i.result ≡ slice_get c.args.scripts.now c.loop-i.i =
    got c.args.scripts.now c.loop-i.i c.get-in-loop-i.result c.get-in-loop-i.ensures.lookup in
    let texts : option_map (λ t. t.now.items) c.get-in-loop-i.result ≡ slice_get scripts c.loop-i.i =
    text_at c.args.scripts.now c.loop-i.i c.get-in-loop-i.result text in
    let said : told_seen c.speak_app.new.left ≡ app_in_words (system_of c.args.job.now)
    (slice_get c.args.job.now.apps.items c.loop-i.i) (slice_get scripts c.loop-i.i) (told_seen c.index_mut.result.now) =
    c.in_ok-speak_app.ensures
    ∙ (λ i. app_in_words (system_of c.args.job.now) (app i) (texts i) (told_seen c.index_mut.result.now)) in
    one_more c.args.job.now scripts c.loop-i.i c.loop-i.apps.items c.index_mut.result.now _ within
    c.index_mut.ensures.value said ∙ c.loop-i.invariant
