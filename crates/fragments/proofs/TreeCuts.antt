-- The cut of a join from the cuts of its sides.
use Rattle.std.proofs.Common.{◌≡◌, ℕ, ◌+◌, List, [], ◌∷◌, ◌++◌, length, map, refl, sym, ap, ◌∙◌, arith, append_assoc, length-append}
use Rattle.rel_meaning.specs.Expression.{Expression}
use Rattle.rows.specs.declared.plain.KeyPair.{KeyPair}
use Rattle.rows.specs.declared.plain.LayoutPart.{LayoutPart}
use Rattle.plan_tree.specs.declared.tree.Method.TheVariants.{Hash, Merge}
use Rattle.plan_tree.specs.Combining.{merged}
use Rattle.plan_tree.specs.Pieces.{Ending, Piece, building, sorting}
use Rattle.rows.specs.declared.plain.ColumnRef.{ColumnRef}
use Rattle.plan_tree.specs.Trees.{has}
use Rattle.plan_tree.specs.Trees.{Shape, join}
use Rattle.plan_tree.specs.WellFormed.{sort_key}
use Rattle.fragments.specs.declared.scans.Open.{Open}
use Rattle.fragments.specs.Cuts.{Cut, Facts, Opening, cut_tree, closed, ended, merge_of, tree_layout, with_probe}
use Rattle.fragments.specs.Opened.{GivesCut, IsOpen, IsSide, opening_of}

module _ (facts : Facts) (a b : Shape) (keys : List KeyPair) (tests : List Expression) (old first second third : List Piece) where
  -- what stands after the first side
  module _ (oa : Opening) (la : List LayoutPart) (ending : Ending) (number : ℕ) (side : List LayoutPart)
      (ga : GivesCut facts a old first oa la) (pushed : IsSide facts.statement la oa ending first second number side) where
    ca : Cut
    ca = cut_tree facts (length old) a

    pub number_is : number ≡ length old + length (cut_tree facts (length old) a).before
    number_is = pushed.at ∙ ap length ga.pieces ∙ length-append old (cut_tree facts (length old) a).before

    pub second_is : second ≡ old ++ (cut_tree facts (length old) a).before ++ closed facts a (cut_tree facts (length old) a).last ending ∷ []
    second_is = pushed.pieces ∙ (λ i. ga.pieces i ++ ended facts.statement (ga.laid i) (ga.last i) ending ∷ [])

    pub second_long : length second ≡ length old + length (cut_tree facts (length old) a).before + 1
    second_long = ap length pushed.pieces ∙ length-append first _ ∙ ap (λ k. k + 1) (ap length ga.pieces ∙ length-append old (cut_tree facts (length old) a).before)

    pub laid_is : side ≡ tree_layout facts a
    laid_is = pushed.laid ∙ ga.laid

  pub hash_cut_is : (oa ob : Opening) (la lb side layout : List LayoutPart) (number : ℕ) (o : Open) →
      GivesCut facts a old first oa la → IsSide facts.statement la oa (building (map (λ key. key.build) keys)) first second number side → GivesCut facts b second third ob lb →
      IsOpen o (with_probe ob (record { input = number; keys = keys; tests = tests; layout = merged side lb })) (merged side lb) →
      GivesCut facts (join Hash a b keys tests) old third (opening_of o) o.layout
  hash_cut_is oa ob la lb side layout number o ga pushed gb is =
      let ending = building (map (λ key. key.build) keys) in
      let ca = cut_tree facts (length old) a in
      let long = second_long oa la ending number side ga pushed in
      let here = second_is oa la ending number side ga pushed in
      let at = number_is oa la ending number side ga pushed in
      let laid = laid_is oa la ending number side ga pushed in
      record {
        pieces = gb.pieces
            ∙ (λ i. here i ++ (cut_tree facts (long i) b).before)
            ∙ append_assoc (old ++ ca.before) (closed facts a ca.last ending ∷ []) (cut_tree facts (length old + length ca.before + 1) b).before
            ∙ append_assoc old ca.before (closed facts a ca.last ending ∷ (cut_tree facts (length old + length ca.before + 1) b).before);
        last = is.is ∙ (λ i. with_probe ((gb.last ∙ ap (λ k. (cut_tree facts k b).last) long) i) (record { input = at i; keys = keys; tests = tests; layout = merged (laid i) (gb.laid i) }));
        laid = is.laid ∙ (λ i. merged (laid i) (gb.laid i));
      }

  pub merge_cut_is : (oa ob : Opening) (la lb side other : List LayoutPart) (number next rows : ℕ) (columns others : List ColumnRef) (fourth : List Piece) (o : Open) →
      GivesCut facts a old first oa la → IsSide facts.statement la oa (sorting (map (sort_key la) columns)) first second number side → columns ≡ map (λ key. key.build) keys →
      GivesCut facts b second third ob lb → IsSide facts.statement lb ob (sorting (map (sort_key lb) others)) third fourth next other → others ≡ map (λ key. key.probe) keys →
      rows ≡ facts.size (has a) + facts.size (has b) → IsOpen o (merge_of number next side other keys tests rows) (merged side other) →
      GivesCut facts (join Merge a b keys tests) old fourth (opening_of o) o.layout
  merge_cut_is oa ob la lb side other number next rows columns others fourth o ga pushed e gb ended_too f counted is =
      let ca = cut_tree facts (length old) a in
      let m = length old + length ca.before in
      let cb = cut_tree facts (m + 1) b in
      let left = sorting (map (sort_key (tree_layout facts a)) (map (λ key. key.build) keys)) in
      let right = sorting (map (sort_key (tree_layout facts b)) (map (λ key. key.probe) keys)) in
      let pa = closed facts a ca.last left in
      let pb = closed facts b cb.last right in
      let long = second_long oa la (sorting (map (sort_key la) columns)) number side ga pushed in
      let at = number_is oa la (sorting (map (sort_key la) columns)) number side ga pushed in
      let here : second ≡ old ++ ca.before ++ pa ∷ [] = pushed.pieces ∙ (λ i. ga.pieces i ++ ended facts.statement (ga.laid i) (ga.last i) (sorting (map (sort_key (ga.laid i)) (e i))) ∷ []) in
      let there : third ≡ (old ++ ca.before ++ pa ∷ []) ++ cb.before = gb.pieces ∙ (λ i. here i ++ (cut_tree facts (long i) b).before) in
      let then : next ≡ m + 1 + length cb.before = ended_too.at ∙ ap length gb.pieces ∙ length-append second (cut_tree facts (length second) b).before ∙ (λ i. long i + length (cut_tree facts (long i) b).before) in
      record {
        pieces = ended_too.pieces
            ∙ (λ i. there i ++ ended facts.statement (gb.laid i) ((gb.last ∙ ap (λ k. (cut_tree facts k b).last) long) i) (sorting (map (sort_key (gb.laid i)) (f i))) ∷ [])
            ∙ append_assoc (old ++ ca.before ++ pa ∷ []) cb.before (pb ∷ [])
            ∙ append_assoc (old ++ ca.before) (pa ∷ []) (cb.before ++ pb ∷ [])
            ∙ append_assoc old ca.before (pa ∷ (cb.before ++ pb ∷ []));
        last = is.is ∙ (λ i. merge_of (at i) (then i) ((pushed.laid ∙ ga.laid) i) ((ended_too.laid ∙ gb.laid) i) keys tests (counted i));
        laid = is.laid ∙ (λ i. merged ((pushed.laid ∙ ga.laid) i) ((ended_too.laid ∙ gb.laid) i));
      }
