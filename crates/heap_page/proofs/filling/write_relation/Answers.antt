use Rattle.std.proofs.Common.{◌≡◌, ◌∙◌, [], List, length, sym, ap, subst, arith}
use Rattle.std.specs.Prelude.{OnOk}
use Rattle.heap_page.specs.Stores.{Stand}
use Rattle.heap_page.proofs.Fillings.{some_get}
use Rattle.heap_page.specs.Blocks.{item_weight, blocks_of}
use Rattle.heap_page.proofs.Cut.{are_blocks}
use Rattle.std.proofs.lemmas.Bool.{eqb-true}
use Rattle.heap_page.proofs.Counted.{none_cut, is_cut, all_items, light}
use Rattle.heap_page.proofs.filling.write_relation.Goals as goal

pub write_pages-requires-clause-pages : goal.write_pages-requires-clause-pages
write_pages-requires-clause-pages g c =
    let items = c.args.items.now in
    c.requires.pages (blocks_of item_weight 8172 items) (are_blocks item_weight 8172 items (light items (all_items items c.requires.items)))

pub returns-then-is_empty-clause-ok : goal.returns-then-is_empty-clause-ok
returns-then-is_empty-clause-ok g c = λ blocks h page items drive at at_d.
    let empty : length c.args.items.now ≡ 0 = eqb-true _ _ (sym c.is_empty.ensures ∙ c.if-is_empty.true) in
    let none : blocks ≡ [] = is_cut c.args.items.now blocks (all_items c.args.items.now c.requires.items) h ∙ none_cut c.args.items.now empty in
    absurd (omega (arith, (some_get blocks page items [] at).0, ap length none))

pub returns-clause-ok : goal.returns-clause-ok
returns-clause-ok g c = λ blocks h.
    let cut = is_cut c.args.items.now blocks (all_items c.args.items.now c.requires.items) h in
    subst (λ (bs : List (List (List _))). OnOk c.write_pages.result (Stand g.D.Drive c.args.map.now c.args.file bs c.write_pages.new.drives)) (sym cut) c.write_pages.ensures.ok
