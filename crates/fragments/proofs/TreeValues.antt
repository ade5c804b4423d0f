-- The fragments of a tree give the rows of the tree.
use Rattle.std.proofs.Common.{◌≡◌, ℕ, ◌+◌, ◌-◌, ◌<◌, ◌≤◌, suc, zero, Bool, true, false, cond, ◌==◌, List, [], ◌∷◌, ◌++◌, length, map, Option, Some, None, refl, sym, ap, ◌∙◌, subst, arith, append_assoc, length-append}
use Rattle.std.specs.List.{flat_map, filter, AllByRecursion, range_with_len}
use Rattle.std.specs.Option.{option_to_list}
use Rattle.std.proofs.lemmas.Bool.Decides.{nat_tests}
use Rattle.std.proofs.lemmas.List.{append-nil, get_or_append_left}
use Rattle.std.proofs.lemmas.Grind.{flat_map-append}
use Rattle.rows.specs.declared.value.Value.{Value}
use Rattle.rows.specs.declared.order.SortKey.{SortKey}
use Rattle.rows.specs.declared.plain.Interval.{Interval}
use Rattle.rows.specs.declared.plain.KeyIndex.{KeyIndex}
use Rattle.rows.specs.declared.plain.KeyPair.{KeyPair}
use Rattle.rows.specs.declared.plain.LayoutColumn.{LayoutColumn}
use Rattle.rows.specs.declared.plain.LayoutPart.{LayoutPart}
use Rattle.rows.specs.Keys.{keys_match}
use Rattle.rows.specs.Layouts.{column_in, FitsColumns, one_part}
use Rattle.rows.specs.Values.{arranged, column_of, row_cmp}
use Rattle.rel_meaning.proofs.Typed.{fits_length}
use Rattle.rel_meaning.specs.Expression.{Expression}
use Rattle.plan_tree.specs.declared.tree.Method.{Method}
use Rattle.plan_tree.specs.declared.tree.Method.TheVariants.{Hash, Merge}
use Rattle.plan_tree.specs.declared.tree.Way.{Way}
use Rattle.plan_tree.specs.declared.tree.Way.TheVariants as way
use Rattle.plan_tree.specs.Assignments.{Assignment, bind}
use Rattle.plan_tree.specs.Combining.{combined, merged, over, values_of}
use Rattle.plan_tree.specs.Conjuncts.{all_met}
use Rattle.plan_tree.specs.Fragments.{Stored, added, after_probe, begun, entry_row, matched, merge_slices, page_items, piped, rows_in, slice_of, source_layout, through, value_at, value_of, values_after}
use Rattle.plan_tree.specs.Pieces.{Piece, Piping, Probing, building, sorting}
use Rattle.plan_tree.specs.Rows.{kept, probed}
use Rattle.plan_tree.specs.Trees.{Shape, one, scan, join}
use Rattle.plan_tree.specs.WellFormed.{sort_key}
use Rattle.plan_tree.proofs.Ascending.{added_merged}
use Rattle.plan_tree.proofs.Bags.{sort_same}
use Rattle.plan_tree.proofs.Combined.{over_one}
use Rattle.plan_tree.proofs.Joined.{stands_same}
use Rattle.plan_tree.proofs.Placement.{holds}
use Rattle.plan_tree.proofs.Positions.{merge_probes, merge_whole}
use Rattle.plan_tree.proofs.Sums.{Same, only, total_filter}
use Rattle.plan_tree.proofs.TreeAnswers.{sums_of}
use Rattle.plan_tree.proofs.TreeRows.{Once, Sound, StandFor, join_stands, laid, laid_apart, leaves, not_both, once_left, once_right, one_stands, scan_stands}
use Rattle.fragments.specs.Premises.{MayRead, MayScan}
use Rattle.fragments.specs.Homes.{Home, Store, columns_in, made, nowhere, stored}
use Rattle.fragments.specs.Cuts.{Cut, Facts, Opening, closed, columns_for, cut_tree, indexed_opening, kept_opening, left_sort, one_opening, right_sort, scan_opening, stored_opening, tree_layout, with_probe}

-- ---- lists of values that begin alike

abbrev pub Begins : List (List (List Value)) → List (List (List Value)) → Type 0
Begins xs ys = (i : ℕ) → i < length xs → value_at ys i ≡ value_at xs i

pub begins_append : (xs ys : List (List (List Value))) → Begins xs (xs ++ ys)
begins_append xs ys i h = get_or_append_left xs ys [] i h

value_at_end : (xs : List (List (List Value))) (v : List (List Value)) → value_at (xs ++ v ∷ []) (length xs) ≡ v
value_at_end [] v = refl
value_at_end (x ∷ xs) v = value_at_end xs v

length_end : (xs : List (List (List Value))) (v : List (List Value)) → length (xs ++ v ∷ []) ≡ length xs + 1
length_end xs v = length-append xs (v ∷ [])

-- ---- a row of one variable, put beside the empty row

values_again : (e : Assignment) (v n : ℕ) (cs : List LayoutColumn) (b : List Value) → length b ≡ length cs → ((k : ℕ) → e v (n + k) ≡ column_of b k) → values_of e v n cs ≡ b
values_again e v n [] [] w h = refl
values_again e v n [] (x ∷ b) w h = cc
values_again e v n (c ∷ cs) [] w h = cc
values_again e v n (c ∷ cs) (x ∷ b) w h =
    let k : n + 0 ≡ n = omega arith in
    let first : e v n ≡ x = ap (e v) (sym k) ∙ h 0 in
    let rest : values_of e v (n + 1) cs ≡ b = values_again e v (n + 1) cs b (omega (arith, w)) (λ j. let l : (n + 1) + j ≡ n + suc j = omega arith in ap (e v) l ∙ h (suc j)) in
    λ i. first i ∷ rest i

row_again : (v : ℕ) (columns : List LayoutColumn) (b : List Value) → FitsColumns columns b → combined (one_part v columns) (one_part v columns) [] b [] ≡ b
row_again v columns b fits =
    append-nil (values_of (over (one_part v columns) b (column_in [] [])) v 0 columns)
    ∙ ap (λ e. values_of e v 0 columns) (over_one v columns b (column_in [] []) fits)
    ∙ values_again (bind (column_in [] []) v b) v 0 columns b (fits_length columns b fits)
    (λ k. let l : (v == v) ≡ true = grind (arith, nat_tests) in let m : 0 + k ≡ k = omega arith in ap (λ t. cond t (column_of b (0 + k)) (column_in [] [] v (0 + k))) l ∙ ap (column_of b) m)

again : (v : ℕ) (columns : List LayoutColumn) (rows : List (List Value)) → AllByRecursion (FitsColumns columns) rows →
    map (λ b. combined (one_part v columns) (one_part v columns) [] b []) (filter (λ b. true) rows) ≡ rows
again v columns [] all = refl
again v columns (b ∷ rows) all = λ i. row_again v columns b all.0 i ∷ again v columns rows all.1 i

-- ---- what a pipe does to each row

kept_append : (layout : List LayoutPart) (tests : List Expression) (xs ys : List (List Value)) → kept layout tests (xs ++ ys) ≡ kept layout tests xs ++ kept layout tests ys
kept_append layout tests [] ys = refl
kept_append layout tests (x ∷ xs) ys = by (kept_append layout tests xs ys) (all_met tests (column_in layout x)) where
  by : kept layout tests (xs ++ ys) ≡ kept layout tests xs ++ kept layout tests ys → (b : Bool) → cond b (x ∷ kept layout tests (xs ++ ys)) (kept layout tests (xs ++ ys)) ≡ cond b (x ∷ kept layout tests xs) (kept layout tests xs) ++ kept layout tests ys
  by rest true = ap (λ r. x ∷ r) rest
  by rest false = rest

kept_flat : {X : Type 0} (layout : List LayoutPart) (tests : List Expression) (g : X → List (List Value)) (ns : List X) → flat_map (λ n. kept layout tests (g n)) ns ≡ kept layout tests (flat_map g ns)
kept_flat layout tests g [] = refl
kept_flat layout tests g (n ∷ ns) = ap (λ r. kept layout tests (g n) ++ r) (kept_flat layout tests g ns) ∙ sym (kept_append layout tests (g n) (flat_map g ns))

probed_flat : {X : Type 0} (layout first second : List LayoutPart) (keys : List KeyPair) (built : List (List Value)) (g : X → List (List Value)) (ns : List X) →
    flat_map (λ n. probed layout first second keys built (g n)) ns ≡ probed layout first second keys built (flat_map g ns)
probed_flat layout first second keys built g [] = refl
probed_flat layout first second keys built g (n ∷ ns) =
    ap (λ r. probed layout first second keys built (g n) ++ r) (probed_flat layout first second keys built g ns)
    ∙ sym (flat_map-append (λ row. map (λ b. combined layout first second b row) (filter (λ b. keys_match first second keys b row) built)) (g n) (flat_map g ns))

kept_same : (layout : List LayoutPart) (tests : List Expression) (xs ys : List (List Value)) → Same xs ys → Same (kept layout tests xs) (kept layout tests ys)
kept_same layout tests xs ys same f =
    total_filter f (λ row. all_met tests (column_in layout row)) xs ∙ same (λ row. only (all_met tests (column_in layout row)) (f row)) ∙ sym (total_filter f (λ row. all_met tests (column_in layout row)) ys)

abbrev pub last_layout : List LayoutPart → List Probing → List LayoutPart
last_layout layout [] = layout
last_layout layout (p ∷ ps) = last_layout p.layout ps

through_end : (values : List (List (List Value))) (layout : List LayoutPart) (ps : List Probing) (q : Probing) (rows : List (List Value)) →
    through values layout (ps ++ q ∷ []) rows ≡ after_probe values (last_layout layout ps) q (through values layout ps rows)
through_end values layout [] q rows = refl
through_end values layout (p ∷ ps) q rows = through_end values p.layout ps q (after_probe values layout p rows)

last_end : (layout : List LayoutPart) (ps : List Probing) (q : Probing) → last_layout layout (ps ++ q ∷ []) ≡ q.layout
last_end layout [] q = refl
last_end layout (p ∷ ps) q = last_end p.layout ps q

module _ (files : Stored) where
  -- the rows of all positions of a fragment before its end
  abbrev pub all_piped : List (List (List Value)) → Opening → List (List Value)
  all_piped values o = flat_map (piped files values o.pipe) (range_with_len 0 o.positions)

  all_piped-probe : (values : List (List (List Value))) (o : Opening) (q : Probing) → all_piped values (with_probe o q) ≡ after_probe values (last_layout (source_layout o.pipe.source o.pipe.columns) o.pipe.probes) q (all_piped values o)
  all_piped-probe values o q =
      let start = source_layout o.pipe.source o.pipe.columns in
      let last = last_layout start o.pipe.probes in
      let ns = range_with_len 0 o.positions in
      (λ i. flat_map (λ p. through_end values start o.pipe.probes q (kept start o.pipe.tests (begun files values o.pipe.source o.pipe.columns p)) i) ns)
      ∙ kept_flat q.layout q.tests (λ p. probed q.layout (added last q.layout) last q.keys (value_at values q.input) (piped files values o.pipe p)) ns
      ∙ ap (kept q.layout q.tests) (probed_flat q.layout (added last q.layout) last q.keys (value_at values q.input) (piped files values o.pipe) ns)

  pub values_append : (values : List (List (List Value))) (xs ys : List Piece) → values_after files values (xs ++ ys) ≡ values_after files (values_after files values xs) ys
  values_append values [] ys = refl
  values_append values (x ∷ xs) ys = values_append (values ++ value_of files values x ∷ []) xs ys

  pub values_length : (values : List (List (List Value))) (xs : List Piece) → length (values_after files values xs) ≡ length values + length xs
  values_length values [] = omega arith
  values_length values (x ∷ xs) = omega (arith, values_length (values ++ value_of files values x ∷ []) xs, length_end values (value_of files values x))

  pub values_begin : (values : List (List (List Value))) (xs : List Piece) → Begins values (values_after files values xs)
  values_begin values [] i h = refl
  values_begin values (x ∷ xs) i h =
      values_begin (values ++ value_of files values x ∷ []) xs i (let k = length_end values (value_of files values x) in omega (arith, k)) ∙ begins_append values (value_of files values x ∷ []) i h

  -- the value of a fragment that was closed, as later ones find it
  pub value_found : (values : List (List (List Value))) (v : List (List Value)) (pieces : List Piece) (later : List (List (List Value))) (n : ℕ) → length values ≡ n →
      Begins (values_after files (values ++ v ∷ []) pieces) later → value_at later n ≡ v
  value_found values v pieces later n size begin =
      let k = length_end values v in
      let l = values_length (values ++ v ∷ []) pieces in
      begin n (omega (arith, k, l, size)) ∙ values_begin (values ++ v ∷ []) pieces n (omega (arith, k, size)) ∙ ap (λ m. value_at (values ++ v ∷ []) m) (sym size) ∙ value_at_end values v

  heap_rows : Store → List (List Value)
  heap_rows store = flat_map (λ p. rows_in store.columns (page_items files store.heap_file p)) (range_with_len 0 store.pages)

  abbrev pub index_rows : Store → Option KeyIndex → Interval → List (List Value)
  index_rows store None interval = flat_map (λ p. rows_in store.columns (page_items files store.heap_file p)) (range_with_len 0 store.pages)
  index_rows store (Some index) interval = flat_map (λ p. option_to_list (entry_row files store.columns store.heap_file index.file (interval.from + p))) (range_with_len 0 (interval.upto - interval.from))

  abbrev pub store_rows : Store → Way → List (List Value)
  store_rows store way.Heap = flat_map (λ p. rows_in store.columns (page_items files store.heap_file p)) (range_with_len 0 store.pages)
  store_rows store (way.Index interval) = index_rows store store.index interval

  -- what a scan reads: a stored relation's rows from its files, and others as they are
  abbrev pub home_rows : Home → List (List Value) → Way → List (List Value)
  home_rows nowhere rows how = rows
  home_rows (stored store) rows how = store_rows store how
  home_rows (made number columns) rows how = rows

  module _ (facts : Facts) (rows : ℕ → List (List Value)) (fits : (v : ℕ) → AllByRecursion (FitsColumns (columns_for facts v)) (rows v)) where
    abbrev pub scanned : ℕ → Way → List (List Value)
    scanned v how = home_rows (facts.home v) (rows v) how

    abbrev pub For : Shape → List (List Value) → Type 0
    For t found = StandFor (columns_for facts) rows fits scanned t found

    abbrev pub IsSound : Shape → Type 0
    IsSound t = Sound (columns_for facts) rows fits scanned t

    -- the values that kept variables read are their rows
    abbrev pub AreKept : List (List (List Value)) → Type 0
    AreKept values = (v number : ℕ) (columns : List LayoutColumn) → facts.home v ≡ made number columns → (number < length values) × (value_at values number ≡ rows v)

    -- the last fragment of a cut stands for its tree, whatever fragments come later
    pub record Cuts (n : ℕ) (t : Shape) : Type 0 where
      pub last : last_layout (source_layout (cut_tree facts n t).last.pipe.source (cut_tree facts n t).last.pipe.columns) (cut_tree facts n t).last.pipe.probes ≡ tree_layout facts t
      pub stands : (values later : List (List (List Value))) → length values ≡ n → AreKept values → Begins (values_after files values (cut_tree facts n t).before) later → For t (all_piped later (cut_tree facts n t).last)

    kept_more : (values : List (List (List Value))) (pieces : List Piece) (v : List (List Value)) → AreKept values → AreKept (values_after files values pieces ++ v ∷ [])
    kept_more values pieces v right var number columns h =
        let k = right var number columns h in
        let l = values_length values pieces in
        let m = length_end (values_after files values pieces) v in
        (omega (arith, k.0, l, m), begins_append (values_after files values pieces) (v ∷ []) number (omega (arith, k.0, l)) ∙ values_begin values pieces number k.0 ∙ k.1)

    join_added : (m : Method) (a b : Shape) (keys : List KeyPair) (tests : List Expression) → Once (join m a b keys tests) → added (tree_layout facts b) (merged (tree_layout facts a) (tree_layout facts b)) ≡ tree_layout facts a
    join_added m a b keys tests once =
        let la = laid (columns_for facts) a (once_left m a b keys tests once) in
        let lb = laid (columns_for facts) b (once_right m a b keys tests once) in
        added_merged (tree_layout facts a) (tree_layout facts b) (laid_apart (columns_for facts) a b (not_both m a b keys tests once) la lb) la.distinct la.ascends lb.ascends

    hash_stands : (n : ℕ) (a b : Shape) (keys : List KeyPair) (tests : List Expression) → Once (join Hash a b keys tests) → IsSound (join Hash a b keys tests) →
        Cuts n a → Cuts (n + length (cut_tree facts n a).before + 1) b → Cuts n (join Hash a b keys tests)
    hash_stands n a b keys tests once sound sa sb = record {
      last = last_end (source_layout ob.pipe.source ob.pipe.columns) ob.pipe.probes probe;
      stands = λ values later size kept_right begin.
          let d1 = values_after files values ca.before in
          let ra = all_piped d1 ca.last in
          let d2 = d1 ++ ra ∷ [] in
          let begin2 : Begins (values_after files d2 cb.before) later = subst (λ d. Begins d later) (values_append values ca.before (closed facts a ca.last (building (map (λ key. key.build) keys)) ∷ cb.before)) begin in
          let size1 : length d1 ≡ na = (let k = values_length values ca.before in omega (arith, k, size)) in
          let size2 : length d2 ≡ na + 1 = (let k = length_end d1 ra in omega (arith, k, size1)) in
          subst (For (join Hash a b keys tests))
          (sym (all_piped-probe later ob probe
          ∙ ap (λ l. kept both tests (probed both (added l both) l keys (value_at later na) (all_piped later ob))) sb.last
          ∙ (λ i. kept both tests (probed both (join_added Hash a b keys tests once i) (tree_layout facts b) keys (value_found d1 ra cb.before later na size1 begin2 i) (all_piped later ob)))))
          (join_stands (columns_for facts) rows fits scanned Hash a b keys tests once sound ra (all_piped later ob) (sa.stands values d1 size kept_right (λ i h. refl)) (sb.stands d2 later size2 (kept_more values ca.before ra kept_right) begin2));
    }
      where
        ca : Cut
        ca = cut_tree facts n a

        na : ℕ
        na = n + length ca.before

        cb : Cut
        cb = cut_tree facts (na + 1) b

        ob : Opening
        ob = cb.last

        both : List LayoutPart
        both = merged (tree_layout facts a) (tree_layout facts b)

        probe : Probing
        probe = record { input = na; keys = keys; tests = tests; layout = both }

    sorted_stands : (t : Shape) (keys : List SortKey) (found : List (List Value)) → For t found → For t (arranged false keys found)
    sorted_stands t keys found = stands_same rows (tree_layout facts t) found (arranged false keys found) (leaves t) (holds t) (sort_same (row_cmp keys) found)

    merge_stands : (n : ℕ) (a b : Shape) (keys : List KeyPair) (tests : List Expression) → Once (join Merge a b keys tests) → IsSound (join Merge a b keys tests) →
        Cuts n a → Cuts (n + length (cut_tree facts n a).before + 1) b → Cuts n (join Merge a b keys tests)
    merge_stands n a b keys tests once sound sa sb = record {
      last = refl;
      stands = λ values later size kept_right begin.
          let d1 = values_after files values ca.before in
          let ra = arranged false left_keys (all_piped d1 ca.last) in
          let d2 = d1 ++ ra ∷ [] in
          let d3 = values_after files d2 cb.before in
          let rb = arranged false right_keys (all_piped d3 cb.last) in
          let step : values_after files values (ca.before ++ pa ∷ (cb.before ++ pb ∷ [])) ≡ values_after files d2 (cb.before ++ pb ∷ []) = values_append values ca.before (pa ∷ (cb.before ++ pb ∷ [])) in
          let begin2 : Begins (values_after files d2 (cb.before ++ pb ∷ [])) later = subst (λ d. Begins d later) step begin in
          let begin4 : Begins (values_after files (d3 ++ rb ∷ []) []) later = subst (λ d. Begins d later) (values_append d2 cb.before (pb ∷ [])) begin2 in
          let size1 : length d1 ≡ na = (let k = values_length values ca.before in omega (arith, k, size)) in
          let size2 : length d2 ≡ na + 1 = (let k = length_end d1 ra in omega (arith, k, size1)) in
          let size3 : length d3 ≡ nb = (let k = values_length d2 cb.before in omega (arith, k, size2)) in
          let la = tree_layout facts a in
          let lb = tree_layout facts b in
          subst (For (join Merge a b keys tests))
          (sym (kept_flat both tests (λ p. matched la lb keys (slice_of p (value_at later na)) (value_at later nb)) (range_with_len 0 merge_slices)
          ∙ ap (kept both tests) (merge_whole la lb keys (value_at later nb) (value_at later na)
          ∙ (λ i. matched la lb keys (value_found d1 ra (cb.before ++ pb ∷ []) later na size1 begin2 i) (value_found d3 rb [] later nb size3 begin4 i)))))
          (stands_same rows both (kept both tests (probed both la lb keys ra rb)) (kept both tests (matched la lb keys ra rb)) (leaves b ++ leaves a) (holds (join Merge a b keys tests))
          (kept_same both tests (matched la lb keys ra rb) (probed both la lb keys ra rb) (sums_of (matched la lb keys ra rb) (probed both la lb keys ra rb) (merge_probes la lb keys rb ra)))
          (join_stands (columns_for facts) rows fits scanned Merge a b keys tests once sound ra rb
          (sorted_stands a left_keys (all_piped d1 ca.last) (sa.stands values d1 size kept_right (λ i h. refl)))
          (sorted_stands b right_keys (all_piped d3 cb.last) (sb.stands d2 d3 size2 (kept_more values ca.before ra kept_right) (λ i h. refl)))));
    }
      where
        ca : Cut
        ca = cut_tree facts n a

        na : ℕ
        na = n + length ca.before

        cb : Cut
        cb = cut_tree facts (na + 1) b

        nb : ℕ
        nb = na + 1 + length cb.before

        both : List LayoutPart
        both = merged (tree_layout facts a) (tree_layout facts b)

        left_keys : List SortKey
        left_keys = map (sort_key (tree_layout facts a)) (map (λ key. key.build) keys)

        right_keys : List SortKey
        right_keys = map (sort_key (tree_layout facts b)) (map (λ key. key.probe) keys)

        pa : Piece
        pa = closed facts a ca.last (left_sort facts a keys)

        pb : Piece
        pb = closed facts b cb.last (right_sort facts b keys)

    scan_last : (v : ℕ) (home : Home) (how : Way) (count : ℕ) (tests : List Expression) → (home ≡ nowhere → ⊥) →
        last_layout (source_layout (scan_opening v home how count tests).pipe.source (scan_opening v home how count tests).pipe.columns) (scan_opening v home how count tests).pipe.probes ≡ one_part v (columns_in home)
    scan_last v nowhere how count tests there = absurd (there refl)
    scan_last v (stored store) way.Heap count tests there = refl
    scan_last v (stored store) (way.Index interval) count tests there = by store.index where
      by : (o : Option KeyIndex) → last_layout (source_layout (indexed_opening v store o interval count tests).pipe.source (indexed_opening v store o interval count tests).pipe.columns) (indexed_opening v store o interval count tests).pipe.probes ≡ one_part v (columns_in (stored store))
      by None = refl
      by (Some index) = refl
    scan_last v (made number columns) how count tests there = refl

    scan_piped : (later : List (List (List Value))) (v : ℕ) (home : Home) (how : Way) (count : ℕ) (tests : List Expression) → (home ≡ nowhere → ⊥) → AllByRecursion (FitsColumns (columns_in home)) (rows v) →
        ((number : ℕ) (columns : List LayoutColumn) → home ≡ made number columns → value_at later number ≡ rows v) →
        all_piped later (scan_opening v home how count tests) ≡ kept (one_part v (columns_in home)) tests (home_rows home (rows v) how)
    scan_piped later v nowhere how count tests there fit found = absurd (there refl)
    scan_piped later v (stored store) way.Heap count tests there fit found =
        kept_flat (one_part v (columns_in (stored store))) tests (λ p. rows_in store.columns (page_items files store.heap_file p)) (range_with_len 0 store.pages)
    scan_piped later v (stored store) (way.Index interval) count tests there fit found = by store.index where
      by : (o : Option KeyIndex) → all_piped later (indexed_opening v store o interval count tests) ≡ kept (one_part v (columns_in (stored store))) tests (index_rows store o interval)
      by None = kept_flat (one_part v (columns_in (stored store))) tests (λ p. rows_in store.columns (page_items files store.heap_file p)) (range_with_len 0 store.pages)
      by (Some index) = kept_flat (one_part v (columns_in (stored store))) tests (λ p. option_to_list (entry_row files store.columns store.heap_file index.file (interval.from + p))) (range_with_len 0 (interval.upto - interval.from))
    scan_piped later v (made number columns) how count tests there fit found =
        let e = found number columns refl in
        append-nil _ ∙ ap (kept (one_part v columns) tests) (append-nil _ ∙ again v columns (value_at later number) (subst (AllByRecursion (FitsColumns columns)) (sym e) fit) ∙ e)

    -- a scan that may read its relation reads one that is there
    is_there : (home : Home) (how : Way) → MayRead home how → home ≡ nowhere → ⊥
    is_there home how may e = subst (λ h. MayRead h how) e may

    pub cuts : (count n : ℕ) (t : Shape) → Once t → IsSound t → MayScan facts.home count t → Cuts n t
    cuts count n (one tests) once sound may = record { last = refl; stands = λ values later size kept_right begin. subst (For (one tests)) (sym (append-nil (kept [] tests ([] ∷ [])))) (one_stands (columns_for facts) rows fits scanned tests sound) }
    cuts count n (scan v how tests) once sound may =
        let there = is_there (facts.home v) how may.1 in
        record {
          last = scan_last v (facts.home v) how (facts.rows v) tests there;
          stands = λ values later size kept_right begin.
              subst (For (scan v how tests))
              (sym (scan_piped later v (facts.home v) how (facts.rows v) tests there (fits v) (λ number columns e. let k = kept_right v number columns e in begin number k.0 ∙ k.1)))
              (scan_stands (columns_for facts) rows fits scanned v how tests once sound);
        }
    cuts count n (join Hash a b keys tests) once sound may =
        hash_stands n a b keys tests once sound (cuts count n a (once_left Hash a b keys tests once) sound.0 may.0) (cuts count (n + length (cut_tree facts n a).before + 1) b (once_right Hash a b keys tests once) sound.1 may.1)
    cuts count n (join Merge a b keys tests) once sound may =
        merge_stands n a b keys tests once sound (cuts count n a (once_left Merge a b keys tests once) sound.0 may.0) (cuts count (n + length (cut_tree facts n a).before + 1) b (once_right Merge a b keys tests once) sound.1 may.1)
