-- The fragments of a tree of a typed query are well formed.
use Rattle.std.proofs.Common.{◌≡◌, ℕ, zero, suc, ◌+◌, ◌-◌, ◌*◌, ◌^◌, ◌<◌, ◌≤◌, Bool, true, false, cond, ◌==◌, List, [], ◌∷◌, ◌++◌, length, map, min, max, Option, Some, None, refl, sym, ap, ◌∙◌, subst, arith, lit≤, append_assoc, length-append, slice_get, inl, inr}
use Rattle.std.specs.Prelude.{⊤, IsTrue, IsSome, ◌⊎◌}
use Rattle.std.specs.List.{filter, AllByRecursion}
use Rattle.std.proofs.lemmas.List.{append-nil}
use Rattle.rows.specs.declared.plain.KeyIndex.{KeyIndex}
use Rattle.rows.specs.declared.plain.KeyPair.{KeyPair}
use Rattle.rows.specs.declared.plain.LayoutColumn.{LayoutColumn}
use Rattle.rows.specs.declared.plain.LayoutPart.{LayoutPart}
use Rattle.rows.specs.Layouts.{all_columns, one_part}
use Rattle.rel_meaning.specs.Expression.{Expression}
use Rattle.rel_meaning.specs.Typing.{type_of, is_truth}
use Rattle.plan_tree.specs.declared.tree.Method.{Method}
use Rattle.plan_tree.specs.declared.tree.Method.TheVariants.{Hash, Merge}
use Rattle.plan_tree.specs.declared.tree.Way.{Way}
use Rattle.plan_tree.specs.declared.tree.Way.TheVariants as way
use Rattle.plan_tree.specs.Combining.{IsOrdered, AreApart, merged}
use Rattle.plan_tree.specs.Fragments.{added, source_layout}
use Rattle.plan_tree.specs.Keys.{keys_of}
use Rattle.plan_tree.specs.Pieces.{Ending, Piece, Probing, building, sorting}
use Rattle.plan_tree.specs.Trees.{Shape, one, scan, join, has, is_join_test, IsPlaced}
use Rattle.plan_tree.specs.WellFormed.{AnswersColumns, AreProbes, AreTests, HasInput, IsAnswered, IsBuilt, IsEnd, IsIndexed, IsMerge, IsPair, IsPiece, IsProbe, IsSorted, IsSource, IsTimed}
use Rattle.plan_tree.proofs.Ascending.{added_merged}
use Rattle.plan_tree.proofs.Placement.{at_node, left_more, right_more}
use Rattle.plan_tree.proofs.TreeRows.{Once, once_left, once_right, not_both, laid, laid_apart, node_within, join_within}
use Rattle.plan_tree.proofs.Typing.{get_left, get_right}
use Rattle.fragments.specs.Homes.{Home, Store, columns_in, nowhere, stored, made}
use Rattle.fragments.specs.Cuts.{Cut, Facts, Opening, closed, columns_for, cut_tree, ended, indexed_opening, kept_opening, left_sort, right_sort, merge_opening, one_opening, scan_opening, stored_opening, time_of, tree_layout, with_probe}
use Rattle.fragments.specs.Premises.{HasInterval, MayRead, MayScan}
use Rattle.fragments.proofs.Typed.{Columned, build_columns, probe_columns, sorts_below, kept_typed, keys_typed, pairs_typed}

-- ---- lists of fragments

-- fragments behind earlier ones
abbrev pub AreFormed : List Piece → List Piece → Type 0
AreFormed before [] = ⊤
AreFormed before (p ∷ ps) = IsPiece before p × AreFormed (before ++ p ∷ []) ps

pub formed_append : (before xs ys : List Piece) → AreFormed before xs → AreFormed (before ++ xs) ys → AreFormed before (xs ++ ys)
formed_append before [] ys a b = subst (λ bs. AreFormed bs ys) (append-nil before) b
formed_append before (x ∷ xs) ys a b = (a.0, formed_append (before ++ x ∷ []) xs ys a.1 (subst (λ bs. AreFormed bs ys) (sym (append_assoc before (x ∷ []) xs)) b))

pub less_of : {X : Type 0} (xs : List X) (i : ℕ) (x : X) → slice_get xs i ≡ Some x → i < length xs
less_of [] i x h = cc
less_of (y ∷ ys) zero x h = omega arith
less_of (y ∷ ys) (suc i) x h = let k = less_of ys i x h in omega (arith, k)

pub has_more : (before more : List Piece) (number : ℕ) (P : Piece → Type 0) → HasInput before number P → HasInput (before ++ more) number P
has_more before more number P h = (h.0, get_left before more number (less_of before number h.0 h.1) ∙ h.1, h.2)

at_end : (before : List Piece) (p : Piece) (number : ℕ) (P : Piece → Type 0) → number ≡ length before → P p → HasInput (before ++ p ∷ []) number P
at_end before p number P e h = (p, ap (slice_get (before ++ p ∷ [])) (e ∙ (let z : length before ≡ length before + 0 = omega arith in z)) ∙ get_right before (p ∷ []) 0, h)

-- ---- one fragment

pub record IsFormed (before : List Piece) (o : Opening) (layout : List LayoutPart) : Type 0 where
  pub source : IsSource before o.pipe.source o.pipe.columns o.positions o.pages
  pub tests : AreTests (source_layout o.pipe.source o.pipe.columns) o.pipe.tests
  pub probes : AreProbes before (source_layout o.pipe.source o.pipe.columns) o.pipe.probes layout
  pub few : o.pages ≤ 2 ^ 40

timed : (pages rows joins : ℕ) → pages ≤ 2 ^ 40 → IsTimed pages (time_of pages rows joins)
timed pages rows joins few = within (8 * pages + rows * (1 + joins)) where
  within : (n : ℕ) → IsTimed pages (min (max 1 n) (2 ^ 40))
  within n = record { few_pages = few; some_time = grind arith; short = grind arith }

pub piece_formed : (before : List Piece) (statement : ℕ) (layout : List LayoutPart) (o : Opening) (ending : Ending) → IsFormed before o layout → IsEnd layout ending → IsPiece before (ended statement layout o ending)
piece_formed before statement layout o ending h end = record { source = h.source; tests = h.tests; probes = h.probes; end = end; timed = timed o.pages o.rows o.joins h.few }

probes_end : (before : List Piece) (layout : List LayoutPart) (ps : List Probing) (q : Probing) (last : List LayoutPart) → AreProbes before layout ps last → IsProbe before last q → AreProbes before layout (ps ++ q ∷ []) q.layout
probes_end before layout [] q last all h = (subst (λ l. IsProbe before l q) all h, refl)
probes_end before layout (p ∷ ps) q last all h = (all.0, probes_end before p.layout ps q last all.1 h)

probe_formed : (before : List Piece) (o : Opening) (q : Probing) (last : List LayoutPart) → IsFormed before o last → IsProbe before last q → IsFormed before (with_probe o q) q.layout
probe_formed before o q last h p = record { source = h.source; tests = h.tests; probes = probes_end before _ o.pipe.probes q last h.probes p; few = h.few }

-- ---- trees

module _ (facts : Facts) (f : ℕ → ℕ → Option LayoutColumn) (count : ℕ) (cs : List Expression) (typed : AllByRecursion (λ c. is_truth (type_of c f) ≡ true) cs) where
  abbrev L : Shape → List LayoutPart
  L t = tree_layout facts t

  -- heap files have few pages
  abbrev pub AreFew : Type 0
  AreFew = (v : ℕ) (store : Store) → facts.home v ≡ stored store → store.pages ≤ 2 ^ 40

  -- each kept relation is the answer of an earlier fragment
  abbrev pub AreMade : List Piece → Type 0
  AreMade before = (v number : ℕ) (columns : List LayoutColumn) → facts.home v ≡ made number columns → HasInput before number (λ piece. AnswersColumns columns piece.layout piece.end)

  made_more : (before more : List Piece) → AreMade before → AreMade (before ++ more)
  made_more before more h v number columns e = has_more before more number (λ piece. AnswersColumns columns piece.layout piece.end) (h v number columns e)

  pub record IsCut (before : List Piece) (n : ℕ) (t : Shape) : Type 0 where
    pub pieces : AreFormed before (cut_tree facts n t).before
    pub last : IsFormed (before ++ (cut_tree facts n t).before) (cut_tree facts n t).last (tree_layout facts t)

  join_added : (m : Method) (a b : Shape) (keys : List KeyPair) (tests : List Expression) → Once (join m a b keys tests) → added (tree_layout facts b) (merged (tree_layout facts a) (tree_layout facts b)) ≡ tree_layout facts a
  join_added m a b keys tests once =
      let la = laid (columns_for facts) a (once_left m a b keys tests once) in
      let lb = laid (columns_for facts) b (once_right m a b keys tests once) in
      added_merged (L a) (L b) (laid_apart (columns_for facts) a b (not_both m a b keys tests once) la lb) la.distinct la.ascends lb.ascends

  module _ (few : AreFew) where
    stored_formed : (before : List Piece) (v : ℕ) (how : Way) (rows : ℕ) (tests : List Expression) (store : Store) → facts.home v ≡ stored store → MayRead (stored store) how → AreTests (one_part v (columns_in (stored store))) tests →
        IsFormed before (stored_opening v store how rows tests) (one_part v (columns_in (stored store)))
    stored_formed before v way.Heap rows tests store e may all = record { source = refl; tests = all; probes = refl; few = few v store e }
    stored_formed before v (way.Index interval) rows tests store e may all = by store.index may where
      by : (o : Option KeyIndex) → HasInterval o interval → IsFormed before (indexed_opening v store o interval rows tests) (one_part v (columns_in (stored store)))
      by None h = elim h [ ]
      by (Some index) h = record { source = (h, refl); tests = all; probes = refl; few = small (interval.upto - interval.from + index.height) } where
        small : (n : ℕ) → min n (2 ^ 40) ≤ 2 ^ 40
        small n = grind arith

    kept_formed : (before : List Piece) (v number : ℕ) (columns : List LayoutColumn) (rows : ℕ) (tests : List Expression) → HasInput before number (λ piece. AnswersColumns columns piece.layout piece.end) → AreTests (one_part v columns) tests →
        IsFormed before (kept_opening v number columns rows tests) (one_part v columns)
    kept_formed before v number columns rows tests input all = record {
      source = (refl, refl);
      tests = tt;
      probes = (
        record {
          layouts = refl;
          ordered = (tt, tt);
          input = inr (refl, refl, subst (λ c. HasInput before number (λ piece. AnswersColumns c piece.layout piece.end)) (sym (append-nil columns)) input);
          keys = tt;
          tests = all;
        },
        refl,
      );
      few = lit≤ tt;
    }

    scan_formed : (root : Bool) (before : List Piece) (n v : ℕ) (how : Way) (tests : List Expression) → Once (scan v how tests) → Columned facts f (scan v how tests) → AreMade before → MayRead (facts.home v) how →
        tests ≡ filter (at_node root (λ x. v == x)) cs → IsCut before n (scan v how tests)
    scan_formed root before n v how tests once columned from may e = record {
      pieces = tt;
      last = subst (λ bs. IsFormed bs (scan_opening v (facts.home v) how (facts.rows v) tests) (one_part v (columns_in (facts.home v)))) (sym (append-nil before)) (by (facts.home v) refl may all);
    }
      where
        all : AreTests (tree_layout facts (scan v how tests)) tests
        all = subst (AreTests (tree_layout facts (scan v how tests))) (sym e)
            (kept_typed facts f (scan v how tests) once columned (at_node root (λ x. v == x)) (node_within root (λ x. v == x)) cs typed)

        by : (home : Home) → facts.home v ≡ home → MayRead home how → AreTests (one_part v (columns_in home)) tests → IsFormed before (scan_opening v home how (facts.rows v) tests) (one_part v (columns_in home))
        by nowhere k m t = elim m [ ]
        by (stored store) k m t = stored_formed before v how (facts.rows v) tests store k m t
        by (made number columns) k m t = kept_formed before v number columns (facts.rows v) tests (from v number columns k) t

    pairs : (m : Method) (a b : Shape) (keys : List KeyPair) (tests : List Expression) → Once (join m a b keys tests) → Columned facts f a → Columned facts f b → keys ≡ keys_of (has a) (has b) cs → AllByRecursion (IsPair (tree_layout facts a) (tree_layout facts b)) keys
    pairs m a b keys tests once ca cb e = pairs_typed facts f a b (once_left m a b keys tests once) (once_right m a b keys tests once) ca cb keys
        (subst (AllByRecursion _) (sym e) (keys_typed f (has a) (has b) cs typed))

    join_tests_typed : (root : Bool) (m : Method) (a b : Shape) (keys : List KeyPair) (tests : List Expression) → Once (join m a b keys tests) → Columned facts f (join m a b keys tests) → tests ≡ filter (is_join_test root (has a) (has b)) cs → AreTests (merged (tree_layout facts a) (tree_layout facts b)) tests
    join_tests_typed root m a b keys tests once columned e = subst (AreTests (merged (L a) (L b))) (sym e)
        (kept_typed facts f (join m a b keys tests) once columned (is_join_test root (has a) (has b)) (join_within root (has a) (has b)) cs typed)

    hash_formed : (before : List Piece) (n : ℕ) (a b : Shape) (keys : List KeyPair) (tests : List Expression) → length before ≡ n → Once (join Hash a b keys tests) →
        AllByRecursion (IsPair (tree_layout facts a) (tree_layout facts b)) keys → AreTests (merged (tree_layout facts a) (tree_layout facts b)) tests →
        IsCut before n a →
        IsCut ((before ++ (cut_tree facts n a).before) ++ closed facts a (cut_tree facts n a).last (building (map (λ key. key.build) keys)) ∷ []) (n + length (cut_tree facts n a).before + 1) b →
        IsCut before n (join Hash a b keys tests)
    hash_formed before n a b keys tests size once key_types test_types ia ib =
        let ca = cut_tree facts n a in
        let na = n + length ca.before in
        let cb = cut_tree facts (na + 1) b in
        let first = before ++ ca.before in
        let pa = closed facts a ca.last (building (map (λ key. key.build) keys)) in
        let q : Probing = record { input = na; keys = keys; tests = tests; layout = merged (L a) (L b) } in
        let second = first ++ pa ∷ [] in
        let is_added = join_added Hash a b keys tests once in
        let at : na ≡ length first = (let l = length-append before ca.before in omega (arith, l, size)) in
        let input : HasInput (second ++ cb.before) na (IsBuilt (added (L b) q.layout) keys) = has_more second cb.before na (IsBuilt (added (L b) q.layout) keys) (at_end first pa na (IsBuilt (added (L b) q.layout) keys) at (sym is_added, refl)) in
        let la = laid (columns_for facts) (join Hash a b keys tests) once in
        let is_probe : IsProbe (second ++ cb.before) (L b) q = record {
          layouts = ap (λ x. merged x (L b)) (sym is_added);
          ordered = la.ascends;
          input = inl input;
          keys = subst (λ x. AllByRecursion (IsPair x (L b)) keys) (sym is_added) key_types;
          tests = test_types;
        } in
        let whole : second ++ cb.before ≡ before ++ (ca.before ++ pa ∷ cb.before) = append_assoc first (pa ∷ []) cb.before ∙ append_assoc before ca.before (pa ∷ cb.before) in
        record {
          pieces = formed_append before ca.before (pa ∷ cb.before) ia.pieces
              (piece_formed first facts.statement (L a) ca.last (building (map (λ key. key.build) keys)) ia.last (build_columns (L a) (L b) keys key_types), ib.pieces);
          last = subst (λ bs. IsFormed bs (with_probe cb.last q) (merged (L a) (L b))) whole (probe_formed (second ++ cb.before) cb.last q (L b) ib.last is_probe);
        }

    merge_formed : (before : List Piece) (n : ℕ) (a b : Shape) (keys : List KeyPair) (tests : List Expression) → length before ≡ n → Once (join Merge a b keys tests) →
        AllByRecursion (IsPair (tree_layout facts a) (tree_layout facts b)) keys → AreTests (merged (tree_layout facts a) (tree_layout facts b)) tests →
        IsCut before n a →
        IsCut ((before ++ (cut_tree facts n a).before) ++ closed facts a (cut_tree facts n a).last (left_sort facts a keys) ∷ []) (n + length (cut_tree facts n a).before + 1) b →
        IsCut before n (join Merge a b keys tests)
    merge_formed before n a b keys tests size once key_types test_types ia ib =
        let ca = cut_tree facts n a in
        let na = n + length ca.before in
        let cb = cut_tree facts (na + 1) b in
        let nb = na + 1 + length cb.before in
        let first = before ++ ca.before in
        let pa = closed facts a ca.last (left_sort facts a keys) in
        let pb = closed facts b cb.last (right_sort facts b keys) in
        let second = first ++ pa ∷ [] in
        let third = second ++ cb.before in
        let fourth = third ++ pb ∷ [] in
        let at : na ≡ length first = (let l = length-append before ca.before in omega (arith, l, size)) in
        let then : nb ≡ length third = (let l = length-append second cb.before in let m = length-append first (pa ∷ []) in omega (arith, l, m, at)) in
        let left_columns = map (λ key. key.build) keys in
        let right_columns = map (λ key. key.probe) keys in
        let left : HasInput fourth na (IsSorted (L a) left_columns) = has_more third (pb ∷ []) na (IsSorted (L a) left_columns) (has_more second cb.before na (IsSorted (L a) left_columns) (at_end first pa na (IsSorted (L a) left_columns) at (refl, refl))) in
        let right : HasInput fourth nb (IsSorted (L b) right_columns) = at_end third pb nb (IsSorted (L b) right_columns) then (refl, refl) in
        let la = laid (columns_for facts) a (once_left Merge a b keys tests once) in
        let lb = laid (columns_for facts) b (once_right Merge a b keys tests once) in
        let is_merge : IsMerge fourth na nb keys (L a) (L b) = record {
          left_input = left;
          right_input = right;
          left_ordered = la.ascends;
          right_ordered = lb.ascends;
          apart = laid_apart (columns_for facts) a b (not_both Merge a b keys tests once) la lb;
          pairs = key_types;
        } in
        let whole : fourth ≡ before ++ (ca.before ++ pa ∷ (cb.before ++ pb ∷ [])) =
        append_assoc second cb.before (pb ∷ []) ∙ append_assoc first (pa ∷ []) (cb.before ++ pb ∷ []) ∙ append_assoc before ca.before (pa ∷ (cb.before ++ pb ∷ [])) in
        record {
          pieces = formed_append before ca.before (pa ∷ (cb.before ++ pb ∷ [])) ia.pieces (
            piece_formed first facts.statement (L a) ca.last (left_sort facts a keys) ia.last (sorts_below (L a) left_columns (build_columns (L a) (L b) keys key_types)),
            formed_append second cb.before (pb ∷ []) ib.pieces
                (piece_formed third facts.statement (L b) cb.last (right_sort facts b keys) ib.last (sorts_below (L b) right_columns (probe_columns (L a) (L b) keys key_types)), tt),
          );
          last = subst (λ bs. IsFormed bs (merge_opening facts na nb a b keys tests) (merged (L a) (L b))) whole
              (record { source = (is_merge, refl, refl); tests = test_types; probes = refl; few = lit≤ tt });
        }

    left_columned : (m : Method) (a b : Shape) (keys : List KeyPair) (tests : List Expression) → Columned facts f (join m a b keys tests) → Columned facts f a
    left_columned m a b keys tests h v k column = h v (left_more (has a v) (has b v) k) column

    right_columned : (m : Method) (a b : Shape) (keys : List KeyPair) (tests : List Expression) → Columned facts f (join m a b keys tests) → Columned facts f b
    right_columned m a b keys tests h v k column = h v (right_more (has a v) (has b v) k) column

    -- where both sides are cut well, so is their join
    join_formed : (root : Bool) (before : List Piece) (n : ℕ) (m : Method) (a b : Shape) (keys : List KeyPair) (tests : List Expression) → length before ≡ n → Once (join m a b keys tests) → Columned facts f (join m a b keys tests) → AreMade before →
        keys ≡ keys_of (has a) (has b) cs → tests ≡ filter (is_join_test root (has a) (has b)) cs →
        ((bs : List Piece) (k : ℕ) → length bs ≡ k → AreMade bs → IsCut bs k a) → ((bs : List Piece) (k : ℕ) → length bs ≡ k → AreMade bs → IsCut bs k b) → IsCut before n (join m a b keys tests)
    join_formed root before n m a b keys tests size once columned from ke te fa fb = by m keys_in tests_in where
      keys_in : AllByRecursion (IsPair (tree_layout facts a) (tree_layout facts b)) keys
      keys_in = pairs m a b keys tests once (left_columned m a b keys tests columned) (right_columned m a b keys tests columned) ke

      tests_in : AreTests (merged (tree_layout facts a) (tree_layout facts b)) tests
      tests_in = join_tests_typed root m a b keys tests once columned te

      na : ℕ
      na = n + length (cut_tree facts n a).before

      behind : (p : Piece) → length ((before ++ (cut_tree facts n a).before) ++ p ∷ []) ≡ n + length (cut_tree facts n a).before + 1
      behind p = (let l = length-append before (cut_tree facts n a).before in let k = length-append (before ++ (cut_tree facts n a).before) (p ∷ []) in omega (arith, l, k, size))

      from_behind : (p : Piece) → AreMade ((before ++ (cut_tree facts n a).before) ++ p ∷ [])
      from_behind p = made_more (before ++ (cut_tree facts n a).before) (p ∷ []) (made_more before (cut_tree facts n a).before from)

      by : (k : Method) → AllByRecursion (IsPair (tree_layout facts a) (tree_layout facts b)) keys → AreTests (merged (tree_layout facts a) (tree_layout facts b)) tests → IsCut before n (join k a b keys tests)
      by Hash kt tt2 = hash_formed before n a b keys tests size once kt tt2 (fa before n size from) (fb _ _ (behind (closed facts a (cut_tree facts n a).last (building (map (λ key. key.build) keys)))) (from_behind (closed facts a (cut_tree facts n a).last (building (map (λ key. key.build) keys)))))
      by Merge kt tt2 = merge_formed before n a b keys tests size once kt tt2 (fa before n size from) (fb _ _ (behind (closed facts a (cut_tree facts n a).last (left_sort facts a keys))) (from_behind (closed facts a (cut_tree facts n a).last (left_sort facts a keys))))

    node_formed : (before : List Piece) (n : ℕ) (t : Shape) → length before ≡ n → Once t → Columned facts f t → AreMade before → MayScan facts.home count t → IsPlaced cs false t → IsCut before n t
    node_formed before n (one tests) size once columned from may placed = elim placed [ ]
    node_formed before n (scan v how tests) size once columned from may placed = scan_formed false before n v how tests once columned from may.1 placed
    node_formed before n (join m a b keys tests) size once columned from may placed = join_formed false before n m a b keys tests size once columned from placed.2 placed.3
        (λ bs k e made_before. node_formed bs k a e (once_left m a b keys tests once) (left_columned m a b keys tests columned) made_before may.0 placed.0)
        (λ bs k e made_before. node_formed bs k b e (once_right m a b keys tests once) (right_columned m a b keys tests columned) made_before may.1 placed.1)

    -- the fragments of a query's tree; where the query has no variables, its tests are typed without any
    pub tree_formed : (before : List Piece) (n : ℕ) (t : Shape) → length before ≡ n → Once t → Columned facts f t → AreMade before → MayScan facts.home count t → IsPlaced cs true t →
        ((tests : List Expression) → t ≡ one tests → AreTests [] cs) → IsCut before n t
    tree_formed before n (one tests) size once columned from may placed alone = record {
      pieces = tt;
      last = subst (λ bs. IsFormed bs (one_opening tests) []) (sym (append-nil before)) (record { source = (refl, refl); tests = subst (AreTests []) (sym placed) (alone tests refl); probes = refl; few = lit≤ tt });
    }
    tree_formed before n (scan v how tests) size once columned from may placed alone = scan_formed true before n v how tests once columned from may.1 placed
    tree_formed before n (join m a b keys tests) size once columned from may placed alone = join_formed true before n m a b keys tests size once columned from placed.2 placed.3
        (λ bs k e made_before. node_formed bs k a e (once_left m a b keys tests once) (left_columned m a b keys tests columned) made_before may.0 placed.0)
        (λ bs k e made_before. node_formed bs k b e (once_right m a b keys tests once) (right_columned m a b keys tests columned) made_before may.1 placed.1)
