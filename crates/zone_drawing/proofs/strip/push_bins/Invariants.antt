use Rattle.zone_drawing.proofs.Cited.{◌≡◌, ◌++◌, ◌*◌, ◌≤◌, [], map, drop, line_sizes, bins_text, view_line}
use Rattle.zone_drawing.proofs.strip.push_bins.Given as goal

-- what is written, before the bins that are still to be written; and the bytes of the bin that is begun
abbrev pub invariant-loop-line : goal.invariant-loop-line
invariant-loop-line l = record {
  rest : l.text.items ++ bins_text l.layer l.window l.least (map view_line l.bin.items) (map view_line (drop l.line-index l.lines))
      ≡ l.fn.text.items ++ bins_text l.layer l.window l.least [] (map view_line l.lines);
  size : l.size ≡ line_sizes (map view_line l.bin.items);
  few : l.size ≤ 4294967296 * l.line-index;
}
