use Rattle.rez_printing.proofs.Cited.{◌≡◌, ◌++◌, drop, map, fields_of, part_of, parts_text, counts_past}
use Rattle.rez_printing.proofs.type_text.push_parts.Given as goal

-- the parts so far, with those to come, are all
abbrev pub invariant-loop-part : goal.invariant-loop-part
invariant-loop-part l = record {
  text : l.out.items ++ parts_text (fields_of l.all) l.counts (map part_of (drop l.part-index l.parts))
      ≡ l.fn.out.items ++ parts_text (fields_of l.all) l.before (map part_of l.parts);
  past : counts_past (map part_of (drop l.part-index l.parts)) l.counts ≡ counts_past (map part_of l.parts) l.before;
}
