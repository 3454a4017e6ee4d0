use Rattle.applications.proofs.Cited.{◌≡◌, ◌∙◌, ◌++◌, ap, sym, refl, false, Option, None, List, [], ℕ, nat_lt, OsErr, on_err, ease, Running}
use Rattle.applications.proofs.Cited.{Tried, once, names_given, kept_anew, bytes_told, exit_as, Resources, deed_of, writes_files}
use Rattle.applications.proofs.Arms.{by_both}
use Rattle.applications.proofs.Rounds.{ended_round, stood_round}
use Rattle.applications.proofs.Filing.{full_keeps, anew-keeps, unless_written, writes_no_number, writes_no_values}
use Rattle.applications.proofs.Filing.{extended}
use Rattle.applications.proofs.Saying.{own-said, shown-again, wants-shows-none}
use Rattle.applications.proofs.Seeing.{asked-try, quiet-try}
use Rattle.applications.proofs.application.Application.try_call.Goals as goal
use Rattle.applications.proofs.application.Application.try_call.Goals.{else-tried+in_ok-end_call}
use Rattle.applications.proofs.application.Application.try_call.Goals.{then-tried+in_ok-look+in_ok-made_room+else-made_room+in_ok-write_reply}

pub returns-clause-came : goal.returns-clause-came
returns-clause-came g c =
    let blocks = c.args.script.now.blocks in
    let l = c.args.line.now in
    let r : Running = c.args.self.now in
    let t : Tried = once blocks l.call r in
    let is = c.in_ok-tried.ensures.tried in
    let went = c.in_ok-tried.ensures.after in
    let ends = c.exit-exit.ensures ∙ by_both exit_as is.over is.reply.code in
    elim c.if-tried.branch [
      | else-tried+in_ok-end_call w ↦
          let shown = ap (λ (x : Running). bytes_told (once [] l.call x).told) went ∙ shown-again blocks l.call r in
          rw (w.self-is, w.text-is) (ended_round blocks l r w.end_call.new.self c.exit-exit.result c.args.text.now.items
          w.end_call.new.text.items (sym is.wants ∙ w.if-tried.false) ends
          (w.in_ok-end_call.ensures.text ∙ ap (λ (x : List ℕ). c.args.text.now.items ++ x)
          (own-said l _ c.in_ok-tried.tried.reply _ t.told refl is.reply shown))
          (w.in_ok-end_call.ensures.after
          ∙ ap (λ (x : Running). record x { names = names_given l.call c.in_ok-tried.tried.given x.names }) went
          ∙ ap (λ (x : Option ℕ). record t.after { names = names_given l.call x t.after.names }) is.given))
      | then-tried+in_ok-look+in_ok-made_room+else-made_room+in_ok-write_reply w ↦
          let wants = sym is.wants ∙ w.if-tried.true in
          let made : nat_lt (ease c.once.new.self.memory.heap.zone) (ease w.ask_for_room.new.self.memory.heap.zone)
          ≡ false = sym w.in_ok-made_room.ensures.room ∙ w.if-made_room.false in
          rw (w.self-is, w.text-is) (stood_round blocks l r c.once.new.self w.ask_for_room.new.self w.keep_anew.new.self
          c.in_ok-tried.tried.reading c.exit-exit.result c.args.text.now.items w.ask_for_room.new.text.items
          w.write_reply.new.text.items wants went (is.reading wants) w.in_ok-made_room.ensures.came
          (ap (λ (x : Running). nat_lt (ease x.memory.heap.zone) (ease w.ask_for_room.new.self.memory.heap.zone)) (sym went)
          ∙ made) ends
          (w.in_ok-write_reply.ensures.line ∙ ap (λ (x : List ℕ). w.ask_for_room.new.text.items ++ x)
          (own-said l _ c.in_ok-tried.tried.reply None t.told w.of.ensures is.reply
          (sym (wants-shows-none blocks l.call r wants))))
          (w.keep_anew.ensures ∙ ap (λ (code : OsErr). kept_anew l.call code w.ask_for_room.new.self) is.reply.code))
    ]

-- where there is no room
pub returns-in_err-write_reply-clause-files : goal.returns-in_err-write_reply-clause-files
returns-in_err-write_reply-clause-files g c =
    let l = c.args.line.now in
    let r : Running = c.args.self.now in
    let went = c.in_ok-tried.ensures.after in
    on_err c.from_residual-in_err-write_reply.result _
    (ap (λ (x : Running). x.resources.files) c.keep_anew.ensures
    ∙ anew-keeps l.call c.in_ok-tried.tried.reply.code c.ask_for_room.new.self
    ∙ c.ask_for_room.ensures.files
    ∙ ap (λ (x : Running). x.resources.files) went
    ∙ full_keeps c.args.script.now.blocks l.call r (sym c.in_ok-tried.ensures.tried.wants ∙ c.if-tried.true))

pub returns-in_err-end_call-clause-files : goal.returns-in_err-end_call-clause-files
returns-in_err-end_call-clause-files g c =
    let blocks = c.args.script.now.blocks in
    let l = c.args.line.now in
    let r : Running = c.args.self.now in
    let is = c.in_ok-tried.ensures.tried in
    let went = c.in_ok-tried.ensures.after in
    let shown = ap (λ (x : Running). bytes_told (once [] l.call x).told) went ∙ shown-again blocks l.call r in
    on_err c.from_residual-in_err-end_call.result _
    (unless_written (writes_files (deed_of l.call r.names)) c.end_call.result _
    (λ quiet. ap (λ (x : Resources). x.files) c.end_call.ensures.resources ∙ c.in_ok-tried.ensures.files quiet)
    (λ writes. c.end_call.ensures.room c.requires.room (is.given ∙ writes_no_number blocks l.call r writes)
    (writes_no_values blocks l.call r c.in_ok-tried.tried.reply _ writes is.reply shown))
    c.in_err-end_call.was)

pub returns-clause-front : goal.returns-clause-front
returns-clause-front g c = elim c.if-tried.branch [
  | else-tried+in_ok-end_call w ↦ rw (w.text-is) w.end_call.ensures.front
  | then-tried+in_ok-look+in_ok-made_room+else-made_room+in_ok-write_reply w ↦
      rw (w.text-is) (extended c.args.text.now.items w.ask_for_room.new.text.items w.write_reply.new.text.items _
      w.ask_for_room.ensures.front w.in_ok-write_reply.ensures.line)
]

pub returns-clause-saw : goal.returns-clause-saw
returns-clause-saw g c before seen =
    let blocks = c.args.script.now.blocks in
    let l = c.args.line.now in
    let t : Tried = once blocks l.call c.args.self.now in
    let is = c.in_ok-tried.ensures.tried in
    elim c.if-tried.branch [
      | else-tried+in_ok-end_call w ↦ rw (w.onlooker-is) (quiet-try (g.O.Onlooker.saw c.args.onlooker.now) blocks l t
          (sym is.wants ∙ w.if-tried.false) before seen)
      | then-tried+in_ok-look+in_ok-made_room+else-made_room+in_ok-write_reply w ↦
          let wants = sym is.wants ∙ w.if-tried.true in
          rw (w.onlooker-is) (asked-try (g.O.Onlooker.saw c.args.onlooker.now) (g.O.Onlooker.saw w.look.new.self)
          (g.O.Onlooker.saw w.ask_for_room.new.onlooker) blocks l t c.once.new.self c.in_ok-tried.tried.reply.code
          c.in_ok-tried.tried.reading wants c.in_ok-tried.ensures.after is.reply.code (is.reading wants) w.in_ok-look.ensures.saw
          w.in_ok-made_room.ensures.saw before seen)
    ]

-- where the host has no memory for what is seen
pub returns-in_err-look-clause-files : goal.returns-in_err-look-clause-files
returns-in_err-look-clause-files g c =
    on_err c.from_residual-in_err-look.result _
    (ap (λ (x : Running). x.resources.files) c.in_ok-tried.ensures.after
    ∙ full_keeps c.args.script.now.blocks c.args.line.now.call c.args.self.now
    (sym c.in_ok-tried.ensures.tried.wants ∙ c.if-tried.true))
