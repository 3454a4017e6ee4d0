use Rattle.list_store.proofs.Cited.{◌≡◌, ◌≤◌, ◌-◌, ◌*◌, ◌%◌, refl, ◌∙◌, ◌++◌, ◌∷◌, [], sym, ap, subst, arith, length, length-replicate}
use Rattle.list_store.proofs.Cited.{Masters, Free, sizes, tidy, count, is_masters, is_relocatable, has, is_used, Aligned, Placed, blocks_of}
use Rattle.list_store.proofs.Cited.{slots_of, free-some, free-apart}
use Rattle.list_store.specs.declared.entries.StoredBlock.TheVariants as entry
use Rattle.list_store.specs.declared.slots.SlotEntry.TheVariants as slot_entry
use Rattle.list_store.proofs.SlotLists.{fresh-unused}
use Rattle.list_store.proofs.store.ListStore.new.Goals as goal

pub returns-clause-zone : goal.returns-clause-zone
returns-clause-zone c =
    ap blocks_of (c.in_ok-push-2.ensures.items ∙ ap (λ l. l ++ entry.Free (c.args.len - 272) ∷ [])
    (c.in_ok-push.ensures.items ∙ ap (λ l. l ++ entry.Masters ∷ []) c.new-blocks.ensures.items))
    ∙ ap (λ l. Masters ∷ l) (sym (free-some (c.args.len - 272) (omega arith)))

pub returns-clause-no_handle : goal.returns-clause-no_handle
returns-clause-no_handle c = λ number. ap (λ l. is_used (slots_of l number))
    (c.in_ok-slots.ensures.items_if_clones_equal (λ y same. same)) ∙ fresh-unused 64 number

pub invariant_of-result : goal.invariant_of-result
invariant_of-result c =
    let zone : blocks_of c.push-2.new.self.items ≡ Masters ∷ Free (c.args.len - 272) ∷ [] =
    ap blocks_of (c.in_ok-push-2.ensures.items ∙ ap (λ l. l ++ entry.Free (c.args.len - 272) ∷ [])
    (c.in_ok-push.ensures.items ∙ ap (λ l. l ++ entry.Masters ∷ []) c.new-blocks.ensures.items)) in
    record {
      covered = ap sizes zone ∙ omega arith;
      small = omega arith;
      masters = ap length (c.in_ok-slots.ensures.items_if_clones_equal (λ y same. same))
          ∙ length-replicate 64 slot_entry.Unused ∙ ap (λ l. 64 * count is_masters l) (sym zone);
      no_block = λ number unused. ap (has (is_relocatable number)) zone;
      once = λ number. subst (λ l. count (is_relocatable number) l ≤ 1) (sym zone) (omega arith);
      tidied = ap tidy zone ∙ ap (λ l. Masters ∷ l) (free-apart (c.args.len - 272) (omega arith)) ∙ sym zone;
      aligned = subst Aligned (sym zone) (
        refl,
        (
          let z : (c.args.len - 272) % 16 ≡ 0 = omega (arith, c.requires.even) in z,
          tt,
        ),
      );
      placed = subst (Placed 0) (sym zone) tt;
    }
