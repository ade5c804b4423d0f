use Rattle.std.proofs.Common.{arith, ◌∙◌, ◌++◌, sym, ap, refl, ℕ}
use Rattle.std.proofs.lemmas.List.{length-map}
use Rattle.key_index.specs.Bytes.{head_of}
use Rattle.key_index.specs.Nodes.{node_item, node_items}
use Rattle.key_index.proofs.PageBytes.{page_length, room, whole_page}
use Rattle.key_index.proofs.index_page.page_with.Goals as goal

pub overflow_sub-free : goal.overflow_sub-free
overflow_sub-free c =
    room c.args.file c.args.number c.args.level (node_items c.args.entries.now c.args.nodes.now) c.in_ok-out.out.items c.put_head.new.out.items c.put_nodes.new.out.items c.put_nodes.new.out.items c.len-free.result 0 c.in_ok-out.ensures.items
    (c.in_ok-put_head.ensures ∙ ap (λ (n : ℕ). c.in_ok-out.out.items ++ head_of c.args.file c.args.number c.args.level n) (sym (length-map c.args.nodes.now (node_item c.args.entries.now)))) c.in_ok-put_nodes.ensures c.requires.fits (omega (arith, c.len-free.ensures))

pub of_vec-requires : goal.of_vec-requires
of_vec-requires c =
    page_length c.args.file c.args.number c.args.level (node_items c.args.entries.now c.args.nodes.now) c.in_ok-out.out.items c.put_head.new.out.items c.put_nodes.new.out.items c.put_zeros.new.out.items c.len-free.result _ c.in_ok-out.ensures.items
    (c.in_ok-put_head.ensures ∙ ap (λ (n : ℕ). c.in_ok-out.out.items ++ head_of c.args.file c.args.number c.args.level n) (sym (length-map c.args.nodes.now (node_item c.args.entries.now)))) c.in_ok-put_nodes.ensures c.requires.fits (omega (arith, c.len-free.ensures)) refl c.in_ok-put_zeros.ensures

pub returns : goal.returns
returns c =
    c.of_vec.ensures ∙ whole_page c.args.file c.args.number c.args.level (node_items c.args.entries.now c.args.nodes.now) c.in_ok-out.out.items c.put_head.new.out.items c.put_nodes.new.out.items c.put_zeros.new.out.items c.len-free.result _ c.in_ok-out.ensures.items
    (c.in_ok-put_head.ensures ∙ ap (λ (n : ℕ). c.in_ok-out.out.items ++ head_of c.args.file c.args.number c.args.level n) (sym (length-map c.args.nodes.now (node_item c.args.entries.now)))) c.in_ok-put_nodes.ensures c.requires.fits (omega (arith, c.len-free.ensures)) refl c.in_ok-put_zeros.ensures
