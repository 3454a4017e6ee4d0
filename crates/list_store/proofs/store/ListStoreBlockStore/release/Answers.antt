use Rattle.list_store.proofs.Cited.{◌≤◌, ◌*◌, ◌∙◌, subst, sym, ap, refl, arith, is_relocatable, is_masters, sizes, tidy, size, count, has}
use Rattle.list_store.proofs.Cited.{freed, blocks_of, Aligned, Placed, aligned-tidy, aligned-freed, placed-tidy, placed-freed, tidy-tidy}
use Rattle.list_store.proofs.Cited.{total-tidy, size-freed, released-none, released-once, masters-released}
use Rattle.list_store.proofs.store.ListStoreBlockStore.release.Goals as goal

pub tidy_entries-requires : goal.tidy_entries-requires
tidy_entries-requires c =
    let bs = blocks_of c.args.self.now.blocks.items in
    let whole = ap sizes c.free_slot.ensures ∙ size-freed (is_relocatable c.args.number) bs ∙ c.args.self.now.covered in
    let small = c.args.self.now.small in
    omega arith

pub invariant_of-self : goal.invariant_of-self
invariant_of-self c =
    let bs = blocks_of c.args.self.now.blocks.items in
    let t = is_relocatable c.args.number in
    let after = c.tidy_entries.ensures ∙ ap tidy c.free_slot.ensures in
    record {
      covered = ap sizes after ∙ total-tidy size (λ n m. refl) (freed t bs) ∙ size-freed t bs ∙ c.args.self.now.covered;
      small = c.args.self.now.small;
      masters = c.args.self.now.masters ∙ ap (λ n. 64 * n)
          (sym (ap (count is_masters) after ∙ masters-released c.args.number bs));
      no_block = λ k unused. ap (has (is_relocatable k)) after
          ∙ released-none k t bs (c.args.self.now.no_block k unused);
      once = λ k. subst (λ l. count (is_relocatable k) l ≤ 1) (sym after)
          (released-once k t bs (c.args.self.now.once k));
      tidied = ap tidy after ∙ tidy-tidy (freed t bs) ∙ sym after;
      aligned = subst Aligned (sym after) (aligned-tidy (freed t bs) (aligned-freed t bs c.args.self.now.aligned));
      placed = subst (Placed 0) (sym after) (placed-tidy 0 (freed t bs) (placed-freed 0 t bs c.args.self.now.placed));
    }
