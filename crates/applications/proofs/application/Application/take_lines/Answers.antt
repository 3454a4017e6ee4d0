use Rattle.applications.proofs.Cited.{◌∙◌, ◌+◌, ◌++◌, ap, drop, subst, List, [], ℕ, arith, drop_all, Line, glances_grown, Running, Tried}
use Rattle.applications.proofs.Cited.{once, bytes_told, rest-next}
use Rattle.applications.proofs.Filing.{allowed_keeps, line_allowed, extended, extends_same, extends_on}
use Rattle.applications.proofs.Rounds.{one_more}
use Rattle.applications.proofs.Saying.{grown-said, shown-again}
use Rattle.applications.proofs.Seeing.{Sees, all-seen, one-seen}
use Rattle.applications.proofs.Elsewhere.{grown-left}
use Rattle.applications.proofs.application.Application.take_lines.Goals as goal

pub loop-line-preserved : goal.loop-line-preserved
loop-line-preserved g c =
    let blocks = c.args.script.now.blocks in
    let i = c.loop-line.line-index in
    let l = c.line-item.result in
    let t : Tried = once blocks l.call c.loop-line.self in
    let shown = c.shown-shown.ensures ∙ ap (λ (r : Running). bytes_told (once [] l.call r).told) c.in_ok-tried.ensures.after
    ∙ shown-again blocks l.call c.loop-line.self in
    let both = one_more blocks (drop i c.args.lines.now) (drop (i + 1) c.args.lines.now) l c.loop-line.self c.once.new.self _
    c.loop-line.text.items c.write_grow_reply.new.text.items _ (rest-next c.args.lines.now i l (omega arith) c.line-item.is)
    c.in_ok-tried.ensures.after (c.in_ok-write_grow_reply.ensures.line ∙ ap (λ (x : List ℕ). c.loop-line.text.items ++ x)
    (grown-said l c.of.result c.in_ok-tried.tried.reply _ t.told c.of.ensures c.in_ok-tried.ensures.tried.reply shown))
    c.loop-line.invariant.0 c.loop-line.invariant.1 in (
      both.0,
      both.1,
      extended c.args.text.now.items c.loop-line.text.items c.write_grow_reply.new.text.items _ c.loop-line.invariant.2
          c.in_ok-write_grow_reply.ensures.line,
      c.in_ok-tried.ensures.files (allowed_keeps l.call c.loop-line.self.names
          (line_allowed c.args.lines.now i l (omega arith) c.line-item.is c.requires.allowed)) ∙ c.loop-line.invariant.3,
      λ before seen. one-seen (g.O.Onlooker.saw c.loop-line.onlooker) (g.O.Onlooker.saw c.look.new.self) blocks
          (drop i c.args.lines.now) (drop (i + 1) c.args.lines.now) l c.loop-line.self c.once.new.self
          c.in_ok-tried.tried.reply.code _ (rest-next c.args.lines.now i l (omega arith) c.line-item.is)
          c.in_ok-tried.ensures.after c.in_ok-tried.ensures.tried.reply.code c.in_ok-look.ensures.saw
          (c.loop-line.invariant.4 before seen),
    )

pub returns-in_err-tried-clause-lies : goal.returns-in_err-tried-clause-lies
returns-in_err-tried-clause-lies g c =
    c.in_err-tried.ensures.lies
    ∙ grown-left c.args.script.now.blocks (drop c.loop-line.line-index c.args.lines.now) c.args.lines.now
    c.loop-line.self c.args.self.now c.loop-line.invariant.1

pub returns-in_err-write_grow_reply-clause-lies : goal.returns-in_err-write_grow_reply-clause-lies
returns-in_err-write_grow_reply-clause-lies g c =
    c.in_ok-tried.ensures.lies
    ∙ grown-left c.args.script.now.blocks (drop c.loop-line.line-index c.args.lines.now) c.args.lines.now
    c.loop-line.self c.args.self.now c.loop-line.invariant.1

pub returns-clause-lies : goal.returns-clause-lies
returns-clause-lies g c =
    grown-left c.args.script.now.blocks (drop c.loop-line.line-index c.args.lines.now) c.args.lines.now
    c.loop-line.self c.args.self.now c.loop-line.invariant.1

pub returns-in_err-tried-clause-front : goal.returns-in_err-tried-clause-front
returns-in_err-tried-clause-front g c = c.loop-line.invariant.2

pub returns-in_err-tried-clause-files : goal.returns-in_err-tried-clause-files
returns-in_err-tried-clause-files g c = c.in_err-tried.ensures.wants ∙ c.loop-line.invariant.3

pub returns-in_err-write_grow_reply-clause-front : goal.returns-in_err-write_grow_reply-clause-front
returns-in_err-write_grow_reply-clause-front g c =
    extends_on c.args.text.now.items c.loop-line.text.items c.write_grow_reply.new.text.items c.loop-line.invariant.2
    (extends_same c.loop-line.text.items c.write_grow_reply.new.text.items c.in_err-write_grow_reply.ensures.unchanged)

pub returns-in_err-write_grow_reply-clause-files : goal.returns-in_err-write_grow_reply-clause-files
returns-in_err-write_grow_reply-clause-files g c =
    let l = c.line-item.result in
    c.in_ok-tried.ensures.files (allowed_keeps l.call c.loop-line.self.names
    (line_allowed c.args.lines.now c.loop-line.line-index l (omega arith) c.line-item.is c.requires.allowed))
    ∙ c.loop-line.invariant.3

pub returns-clause-files : goal.returns-clause-files
returns-clause-files g c = c.loop-line.invariant.3

pub returns-clause-saw : goal.returns-clause-saw
returns-clause-saw g c before seen =
    let blocks = c.args.script.now.blocks in
    let all = before ++ glances_grown blocks c.args.lines.now c.args.self.now in
    all-seen (g.O.Onlooker.saw c.loop-line.onlooker) all
    (subst (λ (ls : List Line). Sees (g.O.Onlooker.saw c.loop-line.onlooker) (glances_grown blocks ls c.loop-line.self) all)
    (drop_all c.loop-line.line-index c.args.lines.now (omega arith)) (c.loop-line.invariant.4 before seen))

-- where the host has no memory for what is seen
pub returns-in_err-look-clause-lies : goal.returns-in_err-look-clause-lies
returns-in_err-look-clause-lies g c =
    c.in_ok-tried.ensures.lies
    ∙ grown-left c.args.script.now.blocks (drop c.loop-line.line-index c.args.lines.now) c.args.lines.now
    c.loop-line.self c.args.self.now c.loop-line.invariant.1

pub returns-in_err-look-clause-front : goal.returns-in_err-look-clause-front
returns-in_err-look-clause-front g c = c.loop-line.invariant.2

pub returns-in_err-look-clause-files : goal.returns-in_err-look-clause-files
returns-in_err-look-clause-files g c =
    let l = c.line-item.result in
    c.in_ok-tried.ensures.files (allowed_keeps l.call c.loop-line.self.names
    (line_allowed c.args.lines.now c.loop-line.line-index l (omega arith) c.line-item.is c.requires.allowed))
    ∙ c.loop-line.invariant.3
