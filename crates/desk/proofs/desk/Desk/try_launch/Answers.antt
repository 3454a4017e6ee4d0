use Rattle.desk.proofs.Cited.{arith, rules, None, ◌≡◌, ◌∙◌, ◌++◌, List, ℕ, Option, Some, Err, IfSome, option_map, slice_get, true}
use Rattle.desk.proofs.Cited.{slice_set, refl, sym, ap, subst, length-map, on_ok_weaker, on_err_weaker, IfOk-weaker, MEM_FULL, on_err}
use Rattle.desk.proofs.Cited.{launch_of, refusal_of, Live, Running, begun, waits, live_seen, Place, State, ready, launched_at, launch_reply}
use Rattle.desk.proofs.Cited.{reply_at, IsFree, sizes_seen, DeskSeen, place_seen, seen, lots}
use Rattle.desk.proofs.Holding.{few_out, not-opened, is-opened}
use Rattle.desk.proofs.Halting.{failed_so, stays_so, no_error}
use Rattle.desk.proofs.Leaving.{housed_kept, housed_started}
use Rattle.desk.proofs.Changes.{launched-none, launched-refused, launched-full, launched-begins, seen-some, seen-none, refused-ready}
use Rattle.desk.proofs.Changes.{out_granted, waits_ready, at-some, through, replied-refused, replied-begun}
use Rattle.desk.proofs.desk.Desk.try_launch.Goals as goal

pub returns-in_default-clause-ok : goal.returns-in_default-clause-ok
returns-in_default-clause-ok g c =
    launched-none c.args.i c.args.self.now.state
    (ap (λ (d : DeskSeen _). slice_get d.state.places c.args.i) (sym c.self.view_is)
    ∙ seen-none place_seen c.self.inside.seats.items c.deref.result.now c.args.i c.get.result c.deref.ensures.value
    c.get.ensures.lookup c.in_default.is)

pub returns-in-Err-Code-clause-ok : goal.returns-in-Err-Code-clause-ok
returns-in-Err-Code-clause-ok g c =
    let p = place_seen c.in-Some.seat.now in
    let s : State = record {
      memory = c.self.inside.grants.memory;
      windows = c.self.inside.grants.windows;
      places = seen c.self.inside.seats.items;
      log = c.self.inside.log.items;
    } in
    let here : slice_get (seen c.self.inside.seats.items) c.args.i ≡ Some p = seen-some place_seen c.self.inside.seats.items
    c.deref.result.now c.args.i c.in-Some.seat.now c.deref.ensures.value c.in-Some.ensures.lookup.3.0
    c.in-Some.ensures.lookup.1 in
    let refused : ready p.phase ≡ Err c.in-Err-Code.code = refused-ready (ready p.phase)
    c.in-Err-Code.field-0 c.in-Err-Code.code c.in-Err-Code.field-0-is c.in-Err-Code.ensures.answer in
    through c.once_written.result c.write_app_refusal.result _ c.once_written.ensures.written (on_ok_weaker c.write_app_refusal.result
    (λ h. launched-refused c.args.i s p here c.in-Err-Code.code s.memory s.windows s.places
    c.write_app_refusal.new.text.items refused refl refl refl
    (h ∙ ap (λ (t : List ℕ). t ++ refusal_of c.in-Some.seat.now.app.now.name.0.items c.in-Err-Code.code.0) c.reserve.ensures.items)
    ∙ ap (λ (d : DeskSeen _). launched_at c.args.i d.state) c.self.view_is)
    c.write_app_refusal.ensures.line)

pub begin-requires-clause-few : goal.begin-requires-clause-few
begin-requires-clause-few g c =
    let p = place_seen c.in-Some.seat.now in
    let here : slice_get (seen c.self.inside.seats.items) c.args.i ≡ Some p = seen-some place_seen c.self.inside.seats.items
    c.deref.result.now c.args.i c.in-Some.seat.now c.deref.ensures.value c.in-Some.ensures.lookup.3.0
    c.in-Some.ensures.lookup.1 in
    few_out (seen c.self.inside.seats.items) c.args.i p c.self.inside.seats.len c.self.inside.grants.windows
    c.self.invariant.0.held here (waits_ready p.phase c.in-Ok.ready.resources c.in-Ok.ensures.answer)
    (length-map c.self.inside.seats.items place_seen ∙ (search rules)) c.self.invariant.4

pub invariant_of-self-in_err-begun : goal.invariant_of-self-in_err-begun
invariant_of-self-in_err-begun g c = (
  housed_kept (g.Z.ZoneMaker.made c.self.inside.zones) (g.Z.ZoneMaker.made c.begin.new.zones)
      (g.Z.ZoneMaker.windows c.self.inside.zones) c.self.inside.grants.windows (g.Z.ZoneMaker.windows c.begin.new.zones)
      c.begin.new.grants.windows (seen c.self.inside.seats.items) (lots c.self.inside.seats.items) c.begin.ensures.kept
      c.begin.ensures.same c.in_err-begun.ensures.err c.self.invariant.0,
  c.begin.ensures.memory ∙ c.self.invariant.1 ∙ sym c.begin.ensures.size,
  c.self.invariant.2,
  c.self.invariant.3,
  c.self.invariant.4,
)

pub invariant_of-self-in_default-begun : goal.invariant_of-self-in_default-begun
invariant_of-self-in_default-begun g c = (
  housed_kept (g.Z.ZoneMaker.made c.self.inside.zones) (g.Z.ZoneMaker.made c.begin.new.zones)
      (g.Z.ZoneMaker.windows c.self.inside.zones) c.self.inside.grants.windows (g.Z.ZoneMaker.windows c.begin.new.zones)
      c.begin.new.grants.windows (seen c.self.inside.seats.items) (lots c.self.inside.seats.items) c.begin.ensures.kept
      c.begin.ensures.same
      (not-opened (λ l. l.partition.window) c.in_ok-begun.begun c.self.inside.grants.windows c.begin.new.grants.windows
      c.in_default-begun.is c.in_ok-begun.ensures.windows)
      c.self.invariant.0,
  c.begin.ensures.memory ∙ c.self.invariant.1 ∙ sym c.begin.ensures.size,
  c.self.invariant.2,
  c.self.invariant.3,
  c.self.invariant.4,
)

pub returns-in_default-begun-clause-ok : goal.returns-in_default-begun-clause-ok
returns-in_default-begun-clause-ok g c =
    let p = place_seen c.in-Some.seat.now in
    let s : State = record {
      memory = c.self.inside.grants.memory;
      windows = c.self.inside.grants.windows;
      places = seen c.self.inside.seats.items;
      log = c.self.inside.log.items;
    } in
    let here : slice_get (seen c.self.inside.seats.items) c.args.i ≡ Some p = seen-some place_seen c.self.inside.seats.items
    c.deref.result.now c.args.i c.in-Some.seat.now c.deref.ensures.value c.in-Some.ensures.lookup.3.0
    c.in-Some.ensures.lookup.1 in
    through c.once_written-in_default-begun.result c.write_app_refusal-in_default-begun.result _
    c.once_written-in_default-begun.ensures.written (on_ok_weaker c.write_app_refusal-in_default-begun.result
    (λ h. launched-full c.args.i s p here c.in-Ok.ready.resources (sizes_seen c.in-Ok.ready.sizes) c.begin.new.grants.memory
    c.begin.new.grants.windows s.places c.write_app_refusal-in_default-begun.new.text.items c.in-Ok.ensures.answer c.in-Ok.ensures.sizes
    (sym (ap (option_map (λ l. l.partition.window)) c.in_default-begun.is) ∙ c.in_ok-begun.ensures.answer) c.begin.ensures.size
    (not-opened (λ l. l.partition.window) c.in_ok-begun.begun c.self.inside.grants.windows c.begin.new.grants.windows
    c.in_default-begun.is c.in_ok-begun.ensures.windows) refl MEM_FULL refl (h
    ∙ ap (λ (t : List ℕ). t ++ refusal_of c.in-Some.seat.now.app.now.name.0.items MEM_FULL.0) c.reserve.ensures.items)
    ∙ ap (λ (d : DeskSeen _). launched_at c.args.i d.state) c.self.view_is)
    c.write_app_refusal-in_default-begun.ensures.line)

pub start_at-requires-clause-waits : goal.start_at-requires-clause-waits
start_at-requires-clause-waits g c =
    let p = place_seen c.in-Some.seat.now in
    let here : slice_get (seen c.self.inside.seats.items) c.args.i ≡ Some p = seen-some place_seen c.self.inside.seats.items
    c.deref.result.now c.args.i c.in-Some.seat.now c.deref.ensures.value c.in-Some.ensures.lookup.3.0
    c.in-Some.ensures.lookup.1 in
    subst (λ (o : Option Place). IfSome o (λ q. waits q.phase ≡ true)) (sym here)
    (waits_ready p.phase c.in-Ok.ready.resources c.in-Ok.ensures.answer)

pub invariant_of-self-2 : goal.invariant_of-self-2
invariant_of-self-2 g c =
    let p = place_seen c.in-Some.seat.now in
    let live = c.in-Some-begun.live in
    let here : slice_get (seen c.self.inside.seats.items) c.args.i ≡ Some p = seen-some place_seen c.self.inside.seats.items
    c.deref.result.now c.args.i c.in-Some.seat.now c.deref.ensures.value c.in-Some.ensures.lookup.3.0
    c.in-Some.ensures.lookup.1 in (
      housed_started (g.Z.ZoneMaker.made c.self.inside.zones) (g.Z.ZoneMaker.made c.begin.new.zones) c.args.i (live_seen live)
          live.application.memory.window p
          (g.Z.ZoneMaker.windows c.self.inside.zones) c.self.inside.grants.windows
          (g.Z.ZoneMaker.windows c.begin.new.zones) c.begin.new.grants.windows
          (seen c.self.inside.seats.items) (seen c.start_at.new.seats.items) (lots c.self.inside.seats.items)
          (lots c.start_at.new.seats.items) c.begin.ensures.kept
          (at-some c.in_ok-begun.begun live _ c.in-Some-begun.is c.in_ok-begun.ensures.made) here
          (waits_ready p.phase c.in-Ok.ready.resources c.in-Ok.ensures.answer) c.begin.ensures.same
          (is-opened (λ l. l.partition.window) c.in_ok-begun.begun live c.self.inside.grants.windows c.begin.new.grants.windows
          c.in-Some-begun.is c.in_ok-begun.ensures.windows)
          (at-some (slice_get (seen c.self.inside.seats.items) c.args.i) p _ here c.start_at.ensures.places)
          c.start_at.ensures.lots c.self.invariant.0,
      c.begin.ensures.memory ∙ c.self.invariant.1 ∙ sym c.begin.ensures.size,
      c.self.invariant.2,
      search rules,
      search rules,
    )

pub returns-clause-ok : goal.returns-clause-ok
returns-clause-ok g c =
    let p = place_seen c.in-Some.seat.now in
    let live = c.in-Some-begun.live in
    let s : State = record {
      memory = c.self.inside.grants.memory;
      windows = c.self.inside.grants.windows;
      places = seen c.self.inside.seats.items;
      log = c.self.inside.log.items;
    } in
    let here : slice_get (seen c.self.inside.seats.items) c.args.i ≡ Some p = seen-some place_seen c.self.inside.seats.items
    c.deref.result.now c.args.i c.in-Some.seat.now c.deref.ensures.value c.in-Some.ensures.lookup.3.0
    c.in-Some.ensures.lookup.1 in
    let first : live_seen live ≡ begun c.in-Ok.ready.resources live.partition.window = at-some c.in_ok-begun.begun live
    (λ l. live_seen l ≡ begun c.in-Ok.ready.resources l.partition.window) c.in-Some-begun.is c.in_ok-begun.ensures.live in
    through c.once_written-2.result c.write_app_launch.result _ c.once_written-2.ensures.written (on_ok_weaker c.write_app_launch.result
    (λ h. launched-begins c.args.i s p here c.in-Ok.ready.resources (sizes_seen c.in-Ok.ready.sizes) live.partition.window
    c.begin.new.grants.memory c.begin.new.grants.windows (seen c.start_at.new.seats.items)
    c.write_app_launch.new.text.items c.in-Ok.ensures.answer c.in-Ok.ensures.sizes
    (sym (ap (option_map (λ l. l.partition.window)) c.in-Some-begun.is) ∙ c.in_ok-begun.ensures.answer)
    c.begin.ensures.size
    (is-opened (λ l. l.partition.window) c.in_ok-begun.begun live c.self.inside.grants.windows c.begin.new.grants.windows
    c.in-Some-begun.is c.in_ok-begun.ensures.windows)
    (at-some (slice_get (seen c.self.inside.seats.items) c.args.i) p _ here c.start_at.ensures.places
    ∙ ap (λ (l : Live). slice_set s.places c.args.i (record p { phase = Running l })) first)
    (h ∙ ap (λ (t : List ℕ). t ++ launch_of c.in-Some.seat.now.app.now.name.0.items live.partition.window.len) c.reserve.ensures.items)
    ∙ ap (λ (d : DeskSeen _). launched_at c.args.i d.state) c.self.view_is)
    c.write_app_launch.ensures.line)

pub returns-in_err-begun-clause-kept : goal.returns-in_err-begun-clause-kept
returns-in_err-begun-clause-kept g c =
    λ w site m. c.begin.ensures.kept w site
    (subst (λ (d : DeskSeen _). g.Z.ZoneMaker.made d.zones w site) (sym c.self.view_is) m)

pub returns-in_default-begun-clause-kept : goal.returns-in_default-begun-clause-kept
returns-in_default-begun-clause-kept g c =
    λ w site m. c.begin.ensures.kept w site
    (subst (λ (d : DeskSeen _). g.Z.ZoneMaker.made d.zones w site) (sym c.self.view_is) m)

pub returns-clause-kept : goal.returns-clause-kept
returns-clause-kept g c =
    λ w site m. c.begin.ensures.kept w site
    (subst (λ (d : DeskSeen _). g.Z.ZoneMaker.made d.zones w site) (sym c.self.view_is) m)

pub returns-in_default-clause-answer : goal.returns-in_default-clause-answer
returns-in_default-clause-answer g c =
    sym (ap (λ (o : Option Place). launch_reply o c.args.self.now.state)
    (ap (λ (d : DeskSeen _). slice_get d.state.places c.args.i) (sym c.self.view_is)
    ∙ seen-none place_seen c.self.inside.seats.items c.deref.result.now c.args.i c.get.result c.deref.ensures.value
    c.get.ensures.lookup c.in_default.is))

pub returns-in-Err-Code-clause-answer : goal.returns-in-Err-Code-clause-answer
returns-in-Err-Code-clause-answer g c =
    let p = place_seen c.in-Some.seat.now in
    let s : State = record {
      memory = c.self.inside.grants.memory;
      windows = c.self.inside.grants.windows;
      places = seen c.self.inside.seats.items;
      log = c.self.inside.log.items;
    } in
    let here : slice_get (seen c.self.inside.seats.items) c.args.i ≡ Some p = seen-some place_seen c.self.inside.seats.items
    c.deref.result.now c.args.i c.in-Some.seat.now c.deref.ensures.value c.in-Some.ensures.lookup.3.0
    c.in-Some.ensures.lookup.1 in
    let refused : ready p.phase ≡ Err c.in-Err-Code.code = refused-ready (ready p.phase)
    c.in-Err-Code.field-0 c.in-Err-Code.code c.in-Err-Code.field-0-is c.in-Err-Code.ensures.answer in
    IfOk-weaker c.once_written.result _ (λ told. told ≡ reply_at c.args.i c.args.self.now.state)
    (λ told h. h ∙ replied-refused c.args.i s p here c.in-Err-Code.code refused
    ∙ ap (λ (d : DeskSeen _). reply_at c.args.i d.state) c.self.view_is)
    c.once_written.ensures.reply

pub returns-in_default-begun-clause-answer : goal.returns-in_default-begun-clause-answer
returns-in_default-begun-clause-answer g c =
    let p = place_seen c.in-Some.seat.now in
    let s : State = record {
      memory = c.self.inside.grants.memory;
      windows = c.self.inside.grants.windows;
      places = seen c.self.inside.seats.items;
      log = c.self.inside.log.items;
    } in
    let here : slice_get (seen c.self.inside.seats.items) c.args.i ≡ Some p = seen-some place_seen c.self.inside.seats.items
    c.deref.result.now c.args.i c.in-Some.seat.now c.deref.ensures.value c.in-Some.ensures.lookup.3.0
    c.in-Some.ensures.lookup.1 in
    IfOk-weaker c.once_written-in_default-begun.result _ (λ told. told ≡ reply_at c.args.i c.args.self.now.state)
    (λ told h. h ∙ replied-begun c.args.i s p here c.in-Ok.ready.resources (sizes_seen c.in-Ok.ready.sizes) None
    c.in-Ok.ensures.answer c.in-Ok.ensures.sizes
    (sym (ap (option_map (λ l. l.partition.window)) c.in_default-begun.is) ∙ c.in_ok-begun.ensures.answer)
    ∙ ap (λ (d : DeskSeen _). reply_at c.args.i d.state) c.self.view_is)
    c.once_written-in_default-begun.ensures.reply

pub returns-clause-answer : goal.returns-clause-answer
returns-clause-answer g c =
    let p = place_seen c.in-Some.seat.now in
    let live = c.in-Some-begun.live in
    let s : State = record {
      memory = c.self.inside.grants.memory;
      windows = c.self.inside.grants.windows;
      places = seen c.self.inside.seats.items;
      log = c.self.inside.log.items;
    } in
    let here : slice_get (seen c.self.inside.seats.items) c.args.i ≡ Some p = seen-some place_seen c.self.inside.seats.items
    c.deref.result.now c.args.i c.in-Some.seat.now c.deref.ensures.value c.in-Some.ensures.lookup.3.0
    c.in-Some.ensures.lookup.1 in
    IfOk-weaker c.once_written-2.result _ (λ told. told ≡ reply_at c.args.i c.args.self.now.state)
    (λ told h. h ∙ replied-begun c.args.i s p here c.in-Ok.ready.resources (sizes_seen c.in-Ok.ready.sizes)
    (Some live.partition.window) c.in-Ok.ensures.answer c.in-Ok.ensures.sizes
    (sym (ap (option_map (λ l. l.partition.window)) c.in-Some-begun.is) ∙ c.in_ok-begun.ensures.answer)
    ∙ ap (λ (d : DeskSeen _). reply_at c.args.i d.state) c.self.view_is)
    c.once_written-2.ensures.reply

-- the host is out of memory for a line, or for the application
pub returns-in-Err-Code-clause-host : goal.returns-in-Err-Code-clause-host
returns-in-Err-Code-clause-host g c =
    let s : State = record {
      memory = c.self.inside.grants.memory;
      windows = c.self.inside.grants.windows;
      places = seen c.self.inside.seats.items;
      log = c.self.inside.log.items;
    } in
    rw (← c.self.view_is) (failed_so c.once_written.result c.write_app_refusal.result _ c.once_written.ensures.failed
    (on_err_weaker c.write_app_refusal.result
    (λ same. stays_so s s.memory s.windows c.write_app_refusal.new.text.items refl refl (same ∙ c.reserve.ensures.items))
    c.write_app_refusal.ensures.unchanged))

pub returns-in_err-begun-clause-host : goal.returns-in_err-begun-clause-host
returns-in_err-begun-clause-host g c =
    let s : State = record {
      memory = c.self.inside.grants.memory;
      windows = c.self.inside.grants.windows;
      places = seen c.self.inside.seats.items;
      log = c.self.inside.log.items;
    } in
    rw (← c.self.view_is) (on_err c.from_residual-in_err-begun.result _
    (stays_so s c.begin.new.grants.memory c.begin.new.grants.windows c.reserve.new.self.items c.begin.ensures.size
    c.in_err-begun.ensures.err c.reserve.ensures.items))

pub returns-in_default-begun-clause-host : goal.returns-in_default-begun-clause-host
returns-in_default-begun-clause-host g c =
    let s : State = record {
      memory = c.self.inside.grants.memory;
      windows = c.self.inside.grants.windows;
      places = seen c.self.inside.seats.items;
      log = c.self.inside.log.items;
    } in
    let windows = not-opened (λ l. l.partition.window) c.in_ok-begun.begun c.self.inside.grants.windows c.begin.new.grants.windows
    c.in_default-begun.is c.in_ok-begun.ensures.windows in
    rw (← c.self.view_is) (failed_so c.once_written-in_default-begun.result c.write_app_refusal-in_default-begun.result _
    c.once_written-in_default-begun.ensures.failed
    (on_err_weaker c.write_app_refusal-in_default-begun.result
    (λ same. stays_so s c.begin.new.grants.memory c.begin.new.grants.windows
    c.write_app_refusal-in_default-begun.new.text.items c.begin.ensures.size windows (same ∙ c.reserve.ensures.items))
    c.write_app_refusal-in_default-begun.ensures.unchanged))

pub returns-clause-host : goal.returns-clause-host
returns-clause-host g c =
    let room = c.in_ok-reserve.ensures.ok in
    let length = c.len.ensures.value in
    failed_so c.once_written-2.result c.write_app_launch.result _ c.once_written-2.ensures.failed
    (no_error c.write_app_launch.result _ (c.write_app_launch.ensures.room (omega (arith, room, length))))

-- a byte outside the window that is granted, if one is
pub returns-in_err-begun-clause-outside : goal.returns-in_err-begun-clause-outside
returns-in_err-begun-clause-outside g c =
    let p = place_seen c.in-Some.seat.now in
    let s : State = record {
      memory = c.self.inside.grants.memory;
      windows = c.self.inside.grants.windows;
      places = seen c.self.inside.seats.items;
      log = c.self.inside.log.items;
    } in
    let here : slice_get (seen c.self.inside.seats.items) c.args.i ≡ Some p = seen-some place_seen c.self.inside.seats.items
    c.deref.result.now c.args.i c.in-Some.seat.now c.deref.ensures.value c.in-Some.ensures.lookup.3.0
    c.in-Some.ensures.lookup.1 in
    λ place f. c.begin.ensures.outside place (out_granted c.args.i s p here place c.in-Ok.ready.resources
    (sizes_seen c.in-Ok.ready.sizes) c.in-Ok.ensures.answer c.in-Ok.ensures.sizes
    (subst (λ (d : DeskSeen _). IsFree place (launched_at c.args.i d.state)) (sym c.self.view_is) f))
    ∙ ap (λ (d : DeskSeen _). g.Z.ZoneMaker.byte d.zones place) c.self.view_is

pub returns-in_default-begun-clause-outside : goal.returns-in_default-begun-clause-outside
returns-in_default-begun-clause-outside g c =
    let p = place_seen c.in-Some.seat.now in
    let s : State = record {
      memory = c.self.inside.grants.memory;
      windows = c.self.inside.grants.windows;
      places = seen c.self.inside.seats.items;
      log = c.self.inside.log.items;
    } in
    let here : slice_get (seen c.self.inside.seats.items) c.args.i ≡ Some p = seen-some place_seen c.self.inside.seats.items
    c.deref.result.now c.args.i c.in-Some.seat.now c.deref.ensures.value c.in-Some.ensures.lookup.3.0
    c.in-Some.ensures.lookup.1 in
    λ place f. c.begin.ensures.outside place (out_granted c.args.i s p here place c.in-Ok.ready.resources
    (sizes_seen c.in-Ok.ready.sizes) c.in-Ok.ensures.answer c.in-Ok.ensures.sizes
    (subst (λ (d : DeskSeen _). IsFree place (launched_at c.args.i d.state)) (sym c.self.view_is) f))
    ∙ ap (λ (d : DeskSeen _). g.Z.ZoneMaker.byte d.zones place) c.self.view_is

pub returns-clause-outside : goal.returns-clause-outside
returns-clause-outside g c =
    let p = place_seen c.in-Some.seat.now in
    let s : State = record {
      memory = c.self.inside.grants.memory;
      windows = c.self.inside.grants.windows;
      places = seen c.self.inside.seats.items;
      log = c.self.inside.log.items;
    } in
    let here : slice_get (seen c.self.inside.seats.items) c.args.i ≡ Some p = seen-some place_seen c.self.inside.seats.items
    c.deref.result.now c.args.i c.in-Some.seat.now c.deref.ensures.value c.in-Some.ensures.lookup.3.0
    c.in-Some.ensures.lookup.1 in
    λ place f. c.begin.ensures.outside place (out_granted c.args.i s p here place c.in-Ok.ready.resources
    (sizes_seen c.in-Ok.ready.sizes) c.in-Ok.ensures.answer c.in-Ok.ensures.sizes
    (subst (λ (d : DeskSeen _). IsFree place (launched_at c.args.i d.state)) (sym c.self.view_is) f))
    ∙ ap (λ (d : DeskSeen _). g.Z.ZoneMaker.byte d.zones place) c.self.view_is
