-- The fragments of a script whose answers are folded.
use Rattle.std.proofs.Common.{◌≡◌, ℕ, zero, suc, ◌+◌, ◌<◌, ◌≤◌, Bool, true, false, List, [], ◌∷◌, ◌++◌, length, map, drop, take, Option, Some, None, refl, sym, ap, ◌∙◌, subst, arith, append_assoc, length-append, slice_get, inl, inr}
use Rattle.std.specs.Prelude.{◌⊎◌, ⊤, IfSome, IsSome}
use Rattle.std.specs.List.{AllByRecursion}
use Rattle.std.specs.Option.{option_map}
use Rattle.std.proofs.lemmas.Bool.{cases_lt}
use Rattle.std.proofs.Math.Seq.{drop-append_seam}
use Rattle.std.proofs.lemmas.List.{append-nil, length-map, map-append}
use Rattle.std.proofs.lemmas.Option.{slice_get-map}
use Rattle.rows.specs.declared.value.Value.{Value}
use Rattle.rows.specs.declared.field.ColType.TheVariants.{Int4}
use Rattle.rows.specs.declared.order.SortKey.{SortKey}
use Rattle.rows.specs.declared.plain.Column.{Column}
use Rattle.rows.specs.declared.plain.ColumnRef.{ColumnRef}
use Rattle.rows.specs.declared.plain.KeyPair.{KeyPair}
use Rattle.rows.specs.declared.plain.LayoutColumn.{LayoutColumn}
use Rattle.rows.specs.declared.plain.LayoutPart.{LayoutPart}
use Rattle.rows.specs.declared.plain.Relation.{Relation}
use Rattle.rows.specs.Layouts.{all_columns, column_type}
use Rattle.rel_meaning.specs.declared.query.Table.{Table}
use Rattle.rel_meaning.specs.Expression.{Expression, Output, Question}
use Rattle.rel_meaning.specs.Typing.{bound_if, integer_bound}
use Rattle.aggregate_op.specs.declared.fold.Fold.{Fold}
use Rattle.aggregate_op.specs.declared.fold.FoldOp.{FoldOp}
use Rattle.aggregate_op.specs.declared.fold.FoldOp.TheVariants.{Count, Min, Max, Sum}
use Rattle.aggregate_op.specs.declared.fold.FoldPlan.{FoldPlan}
use Rattle.plan_tree.specs.declared.fragment.Source.{Source}
use Rattle.plan_tree.specs.declared.fragment.Source.TheVariants as source
use Rattle.plan_tree.specs.declared.tree.Method.TheVariants.{Hash, Merge}
use Rattle.plan_tree.specs.Fragments.{Stored, added, source_layout, value_at, values_of}
use Rattle.plan_tree.specs.Inputs.{inputs_of, probe_inputs, source_inputs}
use Rattle.plan_tree.specs.Pieces.{Ending, Piece, Probing, building, answering, folding, sorting}
use Rattle.plan_tree.specs.Trees.{Shape, one, scan, join}
use Rattle.plan_tree.specs.Views.{Planned}
use Rattle.plan_tree.specs.WellFormed.{AnswersColumns, AreProbes, AreSummed, HasInput, IsAnswered, IsBuilt, IsEnd, IsFolded, IsPiece, IsSorted, IsSource, ReadsAnswer, ReadsBuilt, target_types, type_at}
use Rattle.plan_tree.proofs.Typing.{get_left, get_right}
use Rattle.seq_optimizer.specs.declared.stats.VarStats.{VarStats}
use Rattle.kept_relations.specs.declared.kept.Kept.{Kept}
use Rattle.kept_relations.specs.Fitting.{AscendFrom, columns_behind, kept_of, layout_in}
use Rattle.kept_answers.specs.FoldedAnswers.{AreOpColumns, FoldsTargets}
use Rattle.kept_answers.specs.KeptAnswers.{answers_of}
use Rattle.fragments.specs.Folds.{AreUnfolded, MayBeFolded, MayEndFolded, IsUnfolded, fold_at, folded, folded_end, folded_value, folded_values, value_folded}
use Rattle.fragments.specs.FoldedScripts.{AreFolds, AreFoldsFrom, IsFoldOf, MeanFolded, partial_if, partials_from}
use Rattle.fragments.specs.Homes.{Known}
use Rattle.fragments.specs.Cuts.{Cut, Facts, closed, cut_query, cut_tree, left_sort, right_sort, tree_layout}
use Rattle.fragments.specs.Laws.{HoldTables, PlansFit}
use Rattle.fragments.specs.Premises.{HasFiles, MayCut, catalog_columns}
use Rattle.fragments.specs.Scripts.{cut_from, cut_plans, facts_next, last_next, last_numbers, lasts_from}
use Rattle.fragments.proofs.FoldedFormed.{end_kept}
use Rattle.fragments.proofs.FoldedValues.{values_folded}
use Rattle.fragments.proofs.Formed.{AreFormed, formed_append, has_more, less_of}
use Rattle.fragments.proofs.FormedScript.{AreAnswers, answer_ends, answers_ends, last_piece, statement_ends, target_types_here}
use Rattle.fragments.proofs.ScriptValues.{all_mean}
use Rattle.fragments.proofs.Steps.{AreReady, Ready, all_ready}
use Rattle.fragments.proofs.TreeValues.{values_length}

-- ---- what is read isn't folded

build_read : (o : Option Fold) (e : Ending) (keys : List ColumnRef) → folded_end o e ≡ building keys → folded_end o e ≡ e
build_read None e keys h = refl
build_read (Some fold) (building others) keys h = refl
build_read (Some fold) (answering targets unique others) keys h = cc
build_read (Some fold) (folding targets other) keys h = refl
build_read (Some fold) (sorting others) keys h = refl

sort_read : (o : Option Fold) (e : Ending) (keys : List SortKey) → folded_end o e ≡ sorting keys → folded_end o e ≡ e
sort_read None e keys h = refl
sort_read (Some fold) (building others) keys h = refl
sort_read (Some fold) (answering targets unique others) keys h = cc
sort_read (Some fold) (folding targets other) keys h = refl
sort_read (Some fold) (sorting others) keys h = refl

answer_read : (columns : List LayoutColumn) (layout : List LayoutPart) (o : Option Fold) (e : Ending) → AnswersColumns columns layout (folded_end o e) → folded_end o e ≡ e
answer_read columns layout None e h = refl
answer_read columns layout (Some fold) (building keys) h = refl
answer_read columns layout (Some fold) (answering targets unique keys) h = elim h [ ]
answer_read columns layout (Some fold) (folding targets other) h = refl
answer_read columns layout (Some fold) (sorting keys) h = refl

-- ---- the types of a fold's targets

all_types : (cs : List LayoutColumn) → AllByRecursion (λ type. IsSome type) (map Some cs)
all_types [] = tt
all_types (c ∷ cs) = (refl, all_types cs)

as_many : (ops : List FoldOp) (cs : List LayoutColumn) → AreOpColumns ops cs → length cs ≡ length ops
as_many [] [] h = refl
as_many [] (c ∷ cs) h = elim h [ ]
as_many (Sum ∷ ops) [] h = elim h [ ]
as_many (Count ∷ ops) [] h = elim h [ ]
as_many (Min ∷ ops) [] h = elim h [ ]
as_many (Max ∷ ops) [] h = elim h [ ]
as_many (Sum ∷ ops) (c ∷ cs) h = ap suc (as_many ops cs h.1)
as_many (Count ∷ ops) (c ∷ cs) h = ap suc (as_many ops cs h)
as_many (Min ∷ ops) (c ∷ cs) h = ap suc (as_many ops cs h)
as_many (Max ∷ ops) (c ∷ cs) h = ap suc (as_many ops cs h)

an_integer : (c : LayoutColumn) → c.col_type ≡ Int4 → IsSome (integer_bound (Some c))
an_integer c h = subst (λ t. IsSome (bound_if t c.bound)) (sym h) refl

all_summed : (ops : List FoldOp) (cs : List LayoutColumn) → AreOpColumns ops cs → AreSummed ops (map Some cs)
all_summed [] cs h = tt
all_summed (Sum ∷ ops) [] h = tt
all_summed (Count ∷ ops) [] h = tt
all_summed (Min ∷ ops) [] h = tt
all_summed (Max ∷ ops) [] h = tt
all_summed (Sum ∷ ops) (c ∷ cs) h = (an_integer c h.0, all_summed ops cs h.1)
all_summed (Count ∷ ops) (c ∷ cs) h = all_summed ops cs h
all_summed (Min ∷ ops) (c ∷ cs) h = all_summed ops cs h
all_summed (Max ∷ ops) (c ∷ cs) h = all_summed ops cs h

-- the targets of a query with a fold, in a layout in which they have the same types
folded_types : (layout : List LayoutPart) (columns : List (List LayoutColumn)) (q : Question) (fold : Fold) → FoldsTargets columns q fold →
    target_types layout q.targets ≡ target_types (layout_in columns q) q.targets → IsFolded layout q.targets fold
folded_types layout columns q fold t same =
    let types : target_types layout q.targets ≡ map Some (t.groups ++ t.values) = same ∙ t.types in
    let split : map Some (t.groups ++ t.values) ≡ map Some t.groups ++ map Some t.values = map-append Some t.groups t.values in
    let front : fold.groups ≡ length (map {B = Option LayoutColumn} Some t.groups) = sym t.width ∙ sym (length-map t.groups Some) in
    record {
      typed = subst (λ ts. AllByRecursion (λ type. IsSome type) ts) (sym types) (all_types (t.groups ++ t.values));
      width = sym (length-map q.targets (type_at layout)) ∙ ap length types ∙ length-map (t.groups ++ t.values) Some ∙ length-append t.groups t.values
          ∙ (λ i. t.width i + as_many fold.ops t.values t.ops i);
      sums = subst (λ ts. AreSummed fold.ops ts)
          (sym (ap (drop fold.groups) (types ∙ split) ∙ ap (λ n. drop n (map Some t.groups ++ map Some t.values)) front ∙ drop-append_seam (map Some t.groups) (map Some t.values)))
          (all_summed fold.ops t.values t.ops);
    }

module _ (folds : List (Option FoldPlan)) where
  abbrev F : Piece → Piece
  F = folded folds

  abbrev FitsEach : Piece → Type 0
  FitsEach piece = MayEndFolded piece.layout (fold_at folds piece.statement) piece.end

  module _ (before more : List Piece) where
    input_unread : (number : ℕ) (P : Piece → Type 0) → ((x : Piece) → P (F x) → IsUnfolded folds x) → HasInput (map F before) number P →
        (read : Piece) → slice_get (before ++ more) number ≡ Some read → IsUnfolded folds read
    input_unread number P to h read at = by (slice_get before number) refl where
      by : (o : Option Piece) → slice_get before number ≡ o → IsUnfolded folds read
      by None e = absurd (let no : ◌≡◌ {A = Option Piece} None (Some h.0) = sym (ap (option_map F) e) ∙ sym (slice_get-map F before number) ∙ h.1 in cc)
      by (Some x) e =
          let there : slice_get (before ++ more) number ≡ Some x = get_left before more number (less_of before number x e) ∙ e in
          let found : ◌≡◌ {A = Option Piece} (Some x) (Some read) = sym there ∙ at in
          let same : x ≡ read = cc in
          let mapped : ◌≡◌ {A = Option Piece} (Some (F x)) (Some h.0) = sym (ap (option_map F) e) ∙ sym (slice_get-map F before number) ∙ h.1 in
          let is : h.0 ≡ F x = cc in
          subst (IsUnfolded folds) same (to x (subst P is h.2))

    probe_unread : (layout : List LayoutPart) (p : Probing) → ReadsBuilt (map F before) layout p ⊎ ReadsAnswer (map F before) layout p →
        (read : Piece) → slice_get (before ++ more) p.input ≡ Some read → IsUnfolded folds read
    probe_unread layout p (inl b) = input_unread p.input (IsBuilt (added layout p.layout) p.keys) (λ x is. build_read (fold_at folds x.statement) x.end _ is.1) b
    probe_unread layout p (inr a) = input_unread p.input (IsAnswered (added layout p.layout)) (λ x is. answer_read (all_columns (added layout p.layout)) x.layout (fold_at folds x.statement) x.end is) a.2

    probes_unread : (layout : List LayoutPart) (ps : List Probing) (last : List LayoutPart) → AreProbes (map F before) layout ps last → AreUnfolded folds (before ++ more) (probe_inputs ps)
    probes_unread layout [] last h = tt
    probes_unread layout (p ∷ ps) last h = (probe_unread layout p h.0.input, probes_unread p.layout ps last h.1)

    source_unread : (s : Source) (columns : List Column) (positions pages : ℕ) (rest : List ℕ) → IsSource (map F before) s columns positions pages → AreUnfolded folds (before ++ more) rest →
        AreUnfolded folds (before ++ more) (source_inputs s ++ rest)
    source_unread source.One columns positions pages rest h u = u
    source_unread (source.Heap var file) columns positions pages rest h u = u
    source_unread (source.Index var index heap interval) columns positions pages rest h u = u
    source_unread (source.Merge left right keys left_layout right_layout) columns positions pages rest h u = (
      input_unread left (IsSorted left_layout (map (λ (key : KeyPair). key.build) keys)) (λ x is. sort_read (fold_at folds x.statement) x.end _ is.1) h.0.left_input,
      (
        input_unread right (IsSorted right_layout (map (λ (key : KeyPair). key.probe) keys)) (λ x is. sort_read (fold_at folds x.statement) x.end _ is.1) h.0.right_input,
        u,
      ),
    )

    piece_unread : (piece : Piece) → IsPiece (map F before) (F piece) → AreUnfolded folds (before ++ more) (inputs_of piece)
    piece_unread piece is = source_unread piece.pipe.source piece.pipe.columns piece.positions piece.pages (probe_inputs piece.pipe.probes) is.source
        (probes_unread (source_layout piece.pipe.source piece.pipe.columns) piece.pipe.probes piece.layout is.probes)

  formed_unread : (before ps : List Piece) → AreFormed (map F before) (map F ps) → AllByRecursion (λ (piece : Piece). AreUnfolded folds (before ++ ps) (inputs_of piece)) ps
  formed_unread before [] h = tt
  formed_unread before (p ∷ ps) h = (
    piece_unread before (p ∷ ps) p h.0,
    subst (λ (all : List Piece). AllByRecursion (λ (piece : Piece). AreUnfolded folds all (inputs_of piece)) ps) (append_assoc before (p ∷ []) ps)
        (formed_unread (before ++ p ∷ []) ps (subst (λ (bs : List Piece). AreFormed bs (map F ps)) (sym (map-append F before (p ∷ []))) h.1)),
  )

  -- ---- the fragments of a tree keep their ends

  build_same : (o : Option Fold) (keys : List ColumnRef) → folded_end o (building keys) ≡ building keys
  build_same None keys = refl
  build_same (Some fold) keys = refl

  sort_same : (o : Option Fold) (keys : List SortKey) → folded_end o (sorting keys) ≡ sorting keys
  sort_same None keys = refl
  sort_same (Some fold) keys = refl

  build_fits : (layout : List LayoutPart) (o : Option Fold) (keys : List ColumnRef) → MayEndFolded layout o (building keys)
  build_fits layout None keys = tt
  build_fits layout (Some fold) keys = tt

  same_piece : (x : Piece) → folded_end (fold_at folds x.statement) x.end ≡ x.end → F x ≡ x
  same_piece x h = λ i. record { statement = x.statement; pipe = x.pipe; end = h i; layout = x.layout; positions = x.positions; pages = x.pages; time = x.time }

  same_append : (xs ys zs : List Piece) → map F xs ≡ xs → map F ys ≡ zs → map F (xs ++ ys) ≡ xs ++ zs
  same_append xs ys zs a b = map-append F xs ys ∙ (λ i. a i ++ b i)

  all_append : (xs ys : List Piece) → AllByRecursion FitsEach xs → AllByRecursion FitsEach ys → AllByRecursion FitsEach (xs ++ ys)
  all_append [] ys a b = b
  all_append (x ∷ xs) ys a b = (a.0, all_append xs ys a.1 b)

  module _ (facts : Facts) where
    tree_same : (n : ℕ) (t : Shape) → map F (cut_tree facts n t).before ≡ (cut_tree facts n t).before
    tree_same n (one tests) = refl
    tree_same n (scan v how tests) = refl
    tree_same n (join Hash a b keys tests) =
        let ca = cut_tree facts n a in
        let m = n + length ca.before + 1 in
        let pa = closed facts a ca.last (building (map (λ (key : KeyPair). key.build) keys)) in
        let own = same_piece pa (build_same (fold_at folds facts.statement) (map (λ (key : KeyPair). key.build) keys)) in
        let rest = tree_same m b in
        same_append ca.before (pa ∷ (cut_tree facts m b).before) _ (tree_same n a) (λ i. own i ∷ rest i)
    tree_same n (join Merge a b keys tests) =
        let ca = cut_tree facts n a in
        let m = n + length ca.before + 1 in
        let cb = cut_tree facts m b in
        let pa = closed facts a ca.last (left_sort facts a keys) in
        let pb = closed facts b cb.last (right_sort facts b keys) in
        let left = same_piece pa (sort_same (fold_at folds facts.statement) _) in
        let right = same_piece pb (sort_same (fold_at folds facts.statement) _) in
        let rest = same_append cb.before (pb ∷ []) (pb ∷ []) (tree_same m b) (λ i. right i ∷ []) in
        same_append ca.before (pa ∷ (cb.before ++ pb ∷ [])) _ (tree_same n a) (λ i. left i ∷ rest i)

    left_fits : (a : Shape) (keys : List KeyPair) (o : Option Fold) → MayEndFolded (tree_layout facts a) o (left_sort facts a keys)
    left_fits a keys None = tt
    left_fits a keys (Some fold) = tt

    right_fits : (b : Shape) (keys : List KeyPair) (o : Option Fold) → MayEndFolded (tree_layout facts b) o (right_sort facts b keys)
    right_fits b keys None = tt
    right_fits b keys (Some fold) = tt

    tree_fits : (n : ℕ) (t : Shape) → AllByRecursion FitsEach (cut_tree facts n t).before
    tree_fits n (one tests) = tt
    tree_fits n (scan v how tests) = tt
    tree_fits n (join Hash a b keys tests) =
        all_append (cut_tree facts n a).before _ (tree_fits n a)
        (build_fits (tree_layout facts a) (fold_at folds facts.statement) (map (λ (key : KeyPair). key.build) keys), tree_fits (n + length (cut_tree facts n a).before + 1) b)
    tree_fits n (join Merge a b keys tests) =
        let m = n + length (cut_tree facts n a).before + 1 in
        all_append (cut_tree facts n a).before _ (tree_fits n a) (
          left_fits a keys (fold_at folds facts.statement),
          all_append (cut_tree facts m b).before _ (tree_fits m b) (right_fits b keys (fold_at folds facts.statement), tt),
        )

  -- ---- the fragments of a script

  -- by the value of a statement's last fragment, what it is where its answer is folded
  abbrev Shows : ℕ → Piece → Type 0
  Shows statement piece = (rows : List (List Value)) → folded_value folds piece rows ≡ partial_if (fold_at folds statement) rows

  shows_answer : (o : Option Fold) (targets : List Output) (unique : Bool) (keys : List SortKey) (rows : List (List Value)) → value_folded o (answering targets unique keys) rows ≡ partial_if o rows
  shows_answer None targets unique keys rows = refl
  shows_answer (Some fold) targets unique keys rows = refl

  module _ (known : Known) (table : List (List VarStats)) (files : (relation : ℕ) (here : Relation) → slice_get known.relations relation ≡ Some here → HasFiles known relation here) (up : AscendFrom 0 known.kept) where
    module _ (lasts : List ℕ) (columns : List (List LayoutColumn)) (p : Planned) (ready : Ready known table lasts columns p) where
      abbrev facts : Facts
      facts = facts_next known table lasts p

      abbrev o : Option Fold
      o = fold_at folds (length lasts)

      abbrev ending : Ending
      ending = folded_end o (answering p.query.targets p.query.unique p.query.keys)

      same_targets : target_types (tree_layout facts p.tree) p.query.targets ≡ target_types (layout_in columns p.query) p.query.targets
      same_targets = target_types_here known table files lasts columns p ready

      fits : (fold : Option Fold) → IfSome fold (IsFoldOf columns p.query (kept_of known.kept (length lasts))) → MayEndFolded (tree_layout facts p.tree) fold (answering p.query.targets p.query.unique p.query.keys)
      fits None h = tt
      fits (Some fold) h =
          (folded_types (tree_layout facts p.tree) columns p.query fold h.targets same_targets, h.all, h.plain)

      answered : (fold : Option Fold) → IfSome fold (IsFoldOf columns p.query (kept_of known.kept (length lasts))) → (k : Kept) → kept_of known.kept (length lasts) ≡ Some k →
          folded_end fold (answering p.query.targets p.query.unique p.query.keys) ≡ answering p.query.targets p.query.unique p.query.keys
      answered None h k e = refl
      answered (Some fold) h k e = absurd (let no : ◌≡◌ {A = Option Kept} None (Some k) = sym h.unkept ∙ e in cc)

      abbrev own : List Piece
      own = (cut_tree facts 0 p.tree).before

      query_same : (n : ℕ) → map F (cut_query facts n p.query p.tree) ≡ (cut_tree facts n p.tree).before ++ closed facts p.tree (cut_tree facts n p.tree).last ending ∷ []
      query_same n = same_append (cut_tree facts n p.tree).before _ _ (tree_same facts n p.tree) refl

    abbrev statements_fold : List Planned → List ℕ → List (List LayoutColumn) → Type 0
    statements_fold ps lasts columns = AreFoldsFrom columns known.kept folds (length lasts) (map (λ (p : Planned). p.query) ps)

    next_folds : (ps : List Planned) (lasts : List ℕ) (last : ℕ) (columns : List (List LayoutColumn)) → AreFoldsFrom columns known.kept folds (length lasts + 1) (map (λ (p : Planned). p.query) ps) → statements_fold ps (lasts ++ last ∷ []) columns
    next_folds ps lasts last columns h = subst (λ n. AreFoldsFrom columns known.kept folds n (map (λ (p : Planned). p.query) ps)) (sym (length-append lasts (last ∷ []))) h

    script_folded : (ps : List Planned) (lasts : List ℕ) (columns : List (List LayoutColumn)) (n : ℕ) (before : List Piece) → length before ≡ n → AreReady known table lasts columns n ps →
        AreAnswers known table files before lasts → statements_fold ps lasts columns → AreFormed before (map F (cut_from known table lasts n ps))
    script_folded [] lasts columns n before size ready answers fold = tt
    script_folded (p ∷ ps) lasts columns n before size ready answers fold =
        let f = facts_next known table lasts p in
        let c = cut_tree f n p.tree in
        let e = ending lasts columns p ready.0 in
        let last = last_next known table lasts n p in
        let cut = c.before ++ closed f p.tree c.last e ∷ [] in
        let more = cut_from known table (lasts ++ last ∷ []) (last + 1) ps in
        let longer = length-append before cut in
        let long = length-append c.before (closed f p.tree c.last e ∷ []) in
        let fit = fits lasts columns p ready.0 (fold_at folds (length lasts)) fold.0 in
        let here = statement_ends known table files lasts columns p ready.0 before n size answers e
        (end_kept (tree_layout f p.tree) (fold_at folds (length lasts)) (answering p.query.targets p.query.unique p.query.keys) (answer_ends known table files lasts columns p ready.0) fit) in
        let then = answers_ends known table files lasts columns p ready.0 before n size up answers e (answered lasts columns p ready.0 (fold_at folds (length lasts)) fold.0) in
        subst (AreFormed before) (sym (map-append F (cut_query f n p.query p.tree) more ∙ ap (λ (xs : List Piece). xs ++ map F more) (query_same lasts columns p ready.0 n)))
        (formed_append before cut (map F more) here
        (script_folded ps (lasts ++ last ∷ []) (columns_behind columns (kept_of known.kept (length lasts))) (last + 1) (before ++ cut) (omega (arith, longer, long, size)) ready.1 then
        (next_folds ps lasts last (columns_behind columns (kept_of known.kept (length lasts))) fold.1)))

    script_fits : (ps : List Planned) (lasts : List ℕ) (columns : List (List LayoutColumn)) (n : ℕ) → AreReady known table lasts columns n ps → statements_fold ps lasts columns → AllByRecursion FitsEach (cut_from known table lasts n ps)
    script_fits [] lasts columns n ready fold = tt
    script_fits (p ∷ ps) lasts columns n ready fold =
        let f = facts_next known table lasts p in
        let last = last_next known table lasts n p in
        all_append (cut_query f n p.query p.tree) (cut_from known table (lasts ++ last ∷ []) (last + 1) ps)
        (all_append (cut_tree f n p.tree).before _ (tree_fits f n p.tree) (fits lasts columns p ready.0 (fold_at folds (length lasts)) fold.0, tt))
        (script_fits ps (lasts ++ last ∷ []) (columns_behind columns (kept_of known.kept (length lasts))) (last + 1) ready.1
        (next_folds ps lasts last (columns_behind columns (kept_of known.kept (length lasts))) fold.1))

    -- ---- the last fragments

    abbrev AreLasts : List Piece → List ℕ → Type 0
    AreLasts before lasts = (i number : ℕ) → slice_get lasts i ≡ Some number → HasInput before number (Shows i)

    lasts_next : (lasts : List ℕ) (columns : List (List LayoutColumn)) (p : Planned) → Ready known table lasts columns p → (n : ℕ) (before : List Piece) → length before ≡ n → AreLasts before lasts →
        AreLasts (before ++ cut_query (facts_next known table lasts p) n p.query p.tree) (lasts ++ last_next known table lasts n p ∷ [])
    lasts_next lasts columns p ready n before size are i number is =
        let f = facts_next known table lasts p in
        let last = last_next known table lasts n p in
        elim (cases_lt i (length lasts)) [
          | inl earlier ↦ has_more before (cut_query f n p.query p.tree) number (Shows i) (are i number (sym (get_left lasts (last ∷ []) i earlier) ∙ is))
          | inr later ↦
              let l = less_of (lasts ++ last ∷ []) i number is in
              let m = length-append lasts (last ∷ []) in
              let e : i ≡ length lasts = omega (arith, l, m, later) in
              let e0 : i ≡ length lasts + 0 = omega (arith, e) in
              let found : Some last ≡ Some number = sym (get_right lasts (last ∷ []) 0) ∙ ap (slice_get (lasts ++ last ∷ [])) (sym e0) ∙ is in
              let same : number ≡ last = cc in
              subst (λ (j : ℕ). HasInput (before ++ cut_query f n p.query p.tree) number (Shows j)) (sym e)
              (last_piece known table files lasts columns p ready before n number (answering p.query.targets p.query.unique p.query.keys) (Shows (length lasts)) size same
              (λ rows. shows_answer (fold_at folds (length lasts)) p.query.targets p.query.unique p.query.keys rows))
        ]

    script_lasts : (ps : List Planned) (lasts : List ℕ) (columns : List (List LayoutColumn)) (n : ℕ) (before : List Piece) → length before ≡ n → AreReady known table lasts columns n ps → AreLasts before lasts →
        AreLasts (before ++ cut_from known table lasts n ps) (lasts_from known table lasts n ps)
    script_lasts [] lasts columns n before size ready are = subst (λ (bs : List Piece). AreLasts bs lasts) (sym (append-nil before)) are
    script_lasts (p ∷ ps) lasts columns n before size ready are =
        let f = facts_next known table lasts p in
        let cut = cut_query f n p.query p.tree in
        let last = last_next known table lasts n p in
        let more = cut_from known table (lasts ++ last ∷ []) (last + 1) ps in
        let longer = length-append before cut in
        let long = length-append (cut_tree f n p.tree).before (closed f p.tree (cut_tree f n p.tree).last (answering p.query.targets p.query.unique p.query.keys) ∷ []) in
        subst (λ (bs : List Piece). AreLasts bs (lasts_from known table (lasts ++ last ∷ []) (last + 1) ps)) (append_assoc before cut more)
        (script_lasts ps (lasts ++ last ∷ []) (columns_behind columns (kept_of known.kept (length lasts))) (last + 1) (before ++ cut) (omega (arith, longer, long, size)) ready.1
        (lasts_next lasts columns p ready.0 n before size are))

  -- ---- values

  value_there : (pieces : List Piece) (values : List (List (List Value))) (n : ℕ) (x : Piece) → length pieces ≡ length values → slice_get pieces n ≡ Some x →
      value_at (folded_values folds pieces values) n ≡ folded_value folds x (value_at values n)
  value_there [] values n x same at = cc
  value_there (p ∷ ps) [] n x same at = cc
  value_there (p ∷ ps) (v ∷ vs) zero x same at = let e : p ≡ x = cc in ap (λ (y : Piece). folded_value folds y v) e
  value_there (p ∷ ps) (v ∷ vs) (suc n) x same at = value_there ps vs n x (let less : length ps ≡ length vs = cc in less) at

  all_there : (pieces : List Piece) (values : List (List (List Value))) → length pieces ≡ length values → (numbers : List ℕ) (i : ℕ) →
      ((j number : ℕ) → slice_get numbers j ≡ Some number → HasInput pieces number (Shows (i + j))) →
      map (value_at (folded_values folds pieces values)) numbers ≡ partials_from folds i (map (value_at values) numbers)
  all_there pieces values same [] i are = refl
  all_there pieces values same (number ∷ numbers) i are =
      let h = are 0 number refl in
      let z : i + 0 ≡ i = omega arith in
      let here = value_there pieces values number h.0 same h.1 ∙ h.2 (value_at values number) ∙ ap (λ (j : ℕ). partial_if (fold_at folds j) (value_at values number)) z in
      let rest = all_there pieces values same numbers (i + 1) (λ j m at. let e : i + suc j ≡ i + 1 + j = omega arith in subst (λ (k : ℕ). HasInput pieces m (Shows k)) e (are (suc j) m at)) in
      λ k. here k ∷ rest k

-- folds of the queries of a script fit its fragments
pub script_fit : (known : Known) (table : List (List VarStats)) (ps : List Planned) (folds : List (Option FoldPlan)) → MayCut known table ps →
    AreFolds (catalog_columns known) known.kept folds (map (λ (p : Planned). p.query) ps) → MayBeFolded folds (cut_plans known table ps)
script_fit known table ps folds may fold =
    let ready = all_ready known table ps may in
    record {
      each = script_fits folds known table may.files may.kept.ascending ps [] (catalog_columns known) 0 ready fold;
      unread = formed_unread folds [] (cut_plans known table ps)
          (script_folded folds known table may.files may.kept.ascending ps [] (catalog_columns known) 0 [] refl ready (λ k place number at is. cc) fold);
    }

-- with their folds, the fragments of a script mean its queries
pub script_means : (known : Known) (table : List (List VarStats)) (ps : List Planned) (folds : List (Option FoldPlan)) → MayCut known table ps →
    AreFolds (catalog_columns known) known.kept folds (map (λ (p : Planned). p.query) ps) → MeanFolded known table ps folds (map (folded folds) (cut_plans known table ps))
script_means known table ps folds may fold stored db holds fit =
    let pieces = cut_plans known table ps in
    let values = values_of stored pieces in
    let lasts = last_numbers known table ps in
    let z : 0 + length pieces ≡ length pieces = omega arith in
    let same : length pieces ≡ length values = sym (values_length stored [] pieces ∙ z) in
    let are = script_lasts folds known table may.files may.kept.ascending ps [] (catalog_columns known) 0 [] refl (all_ready known table ps may) (λ i number at. cc) in
    ap (λ (vs : List (List (List Value))). map (value_at vs) lasts) (values_folded folds stored pieces (script_fit known table ps folds may fold))
    ∙ all_there folds pieces values same lasts 0 (λ j number at. let z : j ≡ 0 + j = omega arith in subst (λ (k : ℕ). HasInput pieces number (Shows folds k)) z (are j number at))
    ∙ ap (partials_from folds 0) (all_mean known table ps may stored db holds fit)
