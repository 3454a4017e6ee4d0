use Rattle.zone_drawing.proofs.Cited.{◌≡◌, ◌++◌, ◌∙◌, ℕ, List, ap, length, map, sym, take, length-map, take-map, block_count, greatest_size}
use Rattle.zone_drawing.proofs.Cited.{room, steps_by, window_of, view_moment}
use Rattle.zone_drawing.specs.declared.line.Moment.{Moment}
use Rattle.zone_drawing.proofs.steps.write_steps_svg.Goals as goal

pub returns : goal.returns
returns c =
    let ms = map view_moment c.args.moments.now in
    let size : c.greatest_size-size.result ≡ greatest_size ms = c.greatest_size-size.ensures.greatest in
    let window : c.window_of-window.result ≡ window_of (greatest_size ms) c.args.part =
    c.window_of-window.ensures.window ∙ ap (λ (s : ℕ). window_of s c.args.part) size in
    let count : length c.args.moments.now ≡ length ms = sym (length-map c.args.moments.now view_moment) in
    let n : c.room.result ≡ room (length ms) (block_count ms) =
    c.room.ensures ∙ (λ i. room (count i) (c.block_count.ensures i)) in
    let drawn : map view_moment c.drawn-drawn.result.now ≡ take (room (length ms) (block_count ms)) ms =
    ap (map view_moment) (c.drawn-drawn.ensures ∙ ap (λ (k : ℕ). take {A = Moment} k c.args.moments.now) n)
    ∙ sym (take-map view_moment (room (length ms) (block_count ms)) c.args.moments.now) in
    c.in_ok-write_by.ensures ∙ (λ i. c.args.text.now.items ++ steps_by (size i) (window i) (count i) (drawn i))
