use Rattle.std.proofs.Common.{rules, ◌≡◌, ◌∙◌, ap, sym, length, length-append}
use Rattle.std.proofs.lemmas.List.{length-map}
use Rattle.rel_meaning.specs.Expression.{question_of}
use Rattle.plan_tree.specs.Pieces.{piece_of, pieces_of}
use Rattle.plan_tree.specs.Views.{shape_of}
use Rattle.fragments.specs.Cuts.{cut_tree}
use Rattle.fragments.specs.Opened.{facts_in}
use Rattle.fragments.proofs.tree.cut_statement.Goals as goal

pub returns-clause-last : goal.returns-clause-last
returns-clause-last c =
    let old = pieces_of c.args.fragments.now.items in
    let at : c.len-number.result ≡ length c.cut_open.new.fragments.items = search rules in
    at
    ∙ sym (length-map c.cut_open.new.fragments.items piece_of)
    ∙ ap length c.in_ok-last.ensures.cut.pieces
    ∙ length-append old (cut_tree (facts_in c.args.statement.now) (length old) (shape_of c.args.tree.now)).before
