use Rattle.std.proofs.Common.{◌∙◌, length, sym, ap}
use Rattle.std.proofs.lemmas.Bool.{eqb-true}
use Rattle.heap_page.proofs.Counted.{none_cut, is_cut, all_items}
use Rattle.heap_page.proofs.blocks.pages_of.Goals as goal

pub returns-then-is_empty : goal.returns-then-is_empty
returns-then-is_empty c = λ blocks h.
    sym (ap length (is_cut c.args.items.now blocks (all_items c.args.items.now c.requires.items) h ∙ none_cut c.args.items.now (eqb-true _ _ (sym c.is_empty.ensures ∙ c.if-is_empty.true))))

pub returns-else-is_empty : goal.returns-else-is_empty
returns-else-is_empty c = λ blocks h. c.count_pages.ensures ∙ sym (ap length (is_cut c.args.items.now blocks (all_items c.args.items.now c.requires.items) h))
