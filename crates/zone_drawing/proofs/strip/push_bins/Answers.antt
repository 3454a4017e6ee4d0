use Rattle.zone_drawing.proofs.Cited.{rules, arith, ℕ, ◌+◌, ◌∙◌, [], ◌∷◌, ◌++◌, ap, drop, map, sym, map_push, rest-next, line_sizes}
use Rattle.zone_drawing.proofs.Cited.{view_line}
use Rattle.zone_drawing.proofs.Binned.{sizes_more, bin_ends, bin_grows}
use Rattle.zone_drawing.proofs.strip.push_bins.Goals as goal
use Rattle.zone_drawing.proofs.strip.push_bins.Goals.{then-is_full+in_ok-push_bin, else-is_full}

pub loop-line-preserved : goal.loop-line-preserved
loop-line-preserved c =
    let b = c.line-item.result in
    let rest = drop (c.loop-line.line-index + 1) c.args.lines.now in
    let left = drop c.loop-line.line-index c.args.lines.now in
    let next = rest-next c.args.lines.now c.loop-line.line-index b (omega arith) c.line-item.is in
    elim c.if-is_full.branch [
      | then-is_full+in_ok-push_bin w ↦ record {
        rest = rw (w.text-is) (bin_ends c.args.layer c.args.window c.args.least c.loop-line.size (map view_line c.loop-line.bin.items)
            (map view_line rest) (map view_line left) (map view_line c.push.new.self.items) (view_line b)
            c.loop-line.text.items w.push_bin.new.text.items _ (search rules) c.loop-line.invariant.size
            (ap (map view_line) next) c.loop-line.invariant.rest (search rules)
            (ap (map view_line) {x = c.push.new.self.items} {y = b ∷ []} (search rules)));
        size = rw (w.size-is) (search (rules, sizes_more));
        few = rw (w.size-is) (search rules);
      }
      | else-is_full w ↦ record {
        rest = rw (w.text-is) (bin_grows c.args.layer c.args.window c.args.least c.loop-line.size (map view_line c.loop-line.bin.items)
            (map view_line rest) (map view_line left) (map view_line c.push.new.self.items) (view_line b)
            c.loop-line.text.items _ (search rules) c.loop-line.invariant.size
            (ap (map view_line) next) c.loop-line.invariant.rest
            (ap (map view_line) {x = c.push.new.self.items} {y = c.loop-line.bin.items ++ (b ∷ [])} (search rules)
            ∙ map_push view_line c.loop-line.bin.items b));
        size = rw (w.size-is) (ap (λ (n : ℕ). n + b.size) c.loop-line.invariant.size
            ∙ sym (ap line_sizes (ap (map view_line) {x = c.push.new.self.items} {y = c.loop-line.bin.items ++ (b ∷ [])} (search rules)
            ∙ map_push view_line c.loop-line.bin.items b) ∙ sizes_more (map view_line c.loop-line.bin.items) (view_line b)));
        few = rw (w.size-is) (search rules);
      }
    ]
