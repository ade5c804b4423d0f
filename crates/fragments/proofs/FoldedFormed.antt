-- Fragments whose answers are folded fit together as they did before.
use Rattle.std.proofs.Common.{◌≡◌, ℕ, zero, suc, List, [], ◌∷◌, ◌++◌, map, take, Option, Some, None, refl, sym, ap, ◌∙◌, subst, inl, inr, slice_get}
use Rattle.std.specs.Prelude.{◌⊎◌, ◌≤◌}
use Rattle.std.specs.List.{AllByRecursion}
use Rattle.std.specs.Option.{option_map}
use Rattle.std.specs.Ordering.{nat_cmp}
use Rattle.std.proofs.lemmas.List.{length-map, take-map}
use Rattle.std.proofs.lemmas.Option.{slice_get-map}
use Rattle.lists.specs.Arranged.{Ascends}
use Rattle.rows.specs.declared.order.SortKey.{SortKey}
use Rattle.rows.specs.declared.plain.Column.{Column}
use Rattle.rows.specs.declared.plain.ColumnRef.{ColumnRef}
use Rattle.rows.specs.declared.plain.KeyPair.{KeyPair}
use Rattle.rows.specs.declared.plain.LayoutColumn.{LayoutColumn}
use Rattle.rows.specs.declared.plain.LayoutPart.{LayoutPart}
use Rattle.rows.specs.Layouts.{all_columns}
use Rattle.aggregate_op.specs.declared.fold.Fold.{Fold}
use Rattle.aggregate_op.specs.declared.fold.FoldPlan.{FoldPlan}
use Rattle.plan_tree.specs.declared.fragment.Source.{Source}
use Rattle.plan_tree.specs.declared.fragment.Source.TheVariants as source
use Rattle.plan_tree.specs.Fragments.{added, source_layout}
use Rattle.plan_tree.specs.Inputs.{inputs_of, probe_inputs, source_inputs}
use Rattle.plan_tree.specs.Pieces.{Ending, Piece, Probing, building, answering, folding, sorting}
use Rattle.plan_tree.specs.WellFormed.{AnswersColumns, AreProbes, AreWellFormed, HasInput, IsAnswered, IsBuilt, IsEnd, IsMerge, IsPiece, IsProbe, IsSorted, IsSource, ReadsAnswer, ReadsBuilt}
use Rattle.fragments.specs.Folds.{AreUnfolded, MayBeFolded, MayEndFolded, IsUnfolded, fold_at, folded, folded_end}
use Rattle.fragments.proofs.Standing.{all_at}

-- ---- ends that are no answers stay

build_kept : (o : Option Fold) (e : Ending) (keys : List ColumnRef) → e ≡ building keys → folded_end o e ≡ building keys
build_kept None e keys h = h
build_kept (Some fold) (building others) keys h = h
build_kept (Some fold) (answering targets unique others) keys h = cc
build_kept (Some fold) (folding targets other) keys h = cc
build_kept (Some fold) (sorting others) keys h = cc

sort_kept : (o : Option Fold) (e : Ending) (keys : List SortKey) → e ≡ sorting keys → folded_end o e ≡ sorting keys
sort_kept None e keys h = h
sort_kept (Some fold) (building others) keys h = cc
sort_kept (Some fold) (answering targets unique others) keys h = cc
sort_kept (Some fold) (folding targets other) keys h = cc
sort_kept (Some fold) (sorting others) keys h = h

pub end_kept : (layout : List LayoutPart) (o : Option Fold) (e : Ending) → IsEnd layout e → MayEndFolded layout o e → IsEnd layout (folded_end o e)
end_kept layout None e h fits = h
end_kept layout (Some fold) (building keys) h fits = h
end_kept layout (Some fold) (answering targets unique keys) h fits = fits.0
end_kept layout (Some fold) (folding targets other) h fits = h
end_kept layout (Some fold) (sorting keys) h fits = h

-- ---- one fragment

of_take : {X : Type 0} (n : ℕ) (xs : List X) (k : ℕ) (x : X) → slice_get (take n xs) k ≡ Some x → slice_get xs k ≡ Some x
of_take zero xs k x h = cc
of_take (suc n) [] k x h = cc
of_take (suc n) (y ∷ ys) zero x h = h
of_take (suc n) (y ∷ ys) (suc k) x h = of_take n ys k x h

module _ (folds : List (Option FoldPlan)) where
  abbrev F : Piece → Piece
  F = folded folds

  mapped_input : (before : List Piece) (number : ℕ) (P Q : Piece → Type 0) → ((p : Piece) → slice_get before number ≡ Some p → P p → Q (F p)) → HasInput before number P → HasInput (map F before) number Q
  mapped_input before number P Q to h = (F h.0, slice_get-map F before number ∙ ap (option_map F) h.1, to h.0 h.1 h.2)

  built : (layout : List LayoutPart) (keys : List KeyPair) (p : Piece) → IsBuilt layout keys p → IsBuilt layout keys (F p)
  built layout keys p h = (h.0, build_kept (fold_at folds p.statement) p.end _ h.1)

  sorted : (layout : List LayoutPart) (columns : List ColumnRef) (p : Piece) → IsSorted layout columns p → IsSorted layout columns (F p)
  sorted layout columns p h = (h.0, sort_kept (fold_at folds p.statement) p.end _ h.1)

  answered : (layout : List LayoutPart) (p : Piece) → IsUnfolded folds p → IsAnswered layout p → IsAnswered layout (F p)
  answered layout p stays h = subst (λ (e : Ending). AnswersColumns (all_columns layout) p.layout e) (sym stays) h

  probe_kept : (before : List Piece) (layout : List LayoutPart) (p : Probing) → ((read : Piece) → slice_get before p.input ≡ Some read → IsUnfolded folds read) →
      ReadsBuilt before layout p ⊎ ReadsAnswer before layout p → ReadsBuilt (map F before) layout p ⊎ ReadsAnswer (map F before) layout p
  probe_kept before layout p stays (inl b) = inl (mapped_input before p.input _ _ (λ q at is. built (added layout p.layout) p.keys q is) b)
  probe_kept before layout p stays (inr a) = inr (a.0, a.1, mapped_input before p.input _ _ (λ q at is. answered (added layout p.layout) q (stays q at) is) a.2)

  probes_kept : (before : List Piece) (layout : List LayoutPart) (ps : List Probing) (last : List LayoutPart) → AreProbes before layout ps last → AreUnfolded folds before (probe_inputs ps) →
      AreProbes (map F before) layout ps last
  probes_kept before layout [] last h stays = h
  probes_kept before layout (p ∷ ps) last h stays =
      let first = h.0 in (
        record { layouts = first.layouts; ordered = first.ordered; input = probe_kept before layout p stays.0 first.input; keys = first.keys; tests = first.tests },
        probes_kept before p.layout ps last h.1 stays.1,
      )

  source_kept : (before : List Piece) (s : Source) (columns : List Column) (positions pages : ℕ) → IsSource before s columns positions pages → IsSource (map F before) s columns positions pages
  source_kept before source.One columns positions pages h = h
  source_kept before (source.Heap var file) columns positions pages h = h
  source_kept before (source.Index var index heap interval) columns positions pages h = h
  source_kept before (source.Merge left right keys left_layout right_layout) columns positions pages h =
      let m = h.0 in (
        record {
          left_input = mapped_input before left _ _ (λ q at is. sorted left_layout (map (λ (key : KeyPair). key.build) keys) q is) m.left_input;
          right_input = mapped_input before right _ _ (λ q at is. sorted right_layout (map (λ (key : KeyPair). key.probe) keys) q is) m.right_input;
          left_ordered = m.left_ordered;
          right_ordered = m.right_ordered;
          apart = m.apart;
          pairs = m.pairs;
        },
        h.1,
        h.2,
      )

  probes_part : (pieces : List Piece) (s : Source) (rest : List ℕ) → AreUnfolded folds pieces (source_inputs s ++ rest) → AreUnfolded folds pieces rest
  probes_part pieces source.One rest h = h
  probes_part pieces (source.Heap var file) rest h = h
  probes_part pieces (source.Index var index heap interval) rest h = h
  probes_part pieces (source.Merge left right keys left_layout right_layout) rest h = h.1.1

  piece_kept : (before : List Piece) (piece : Piece) → IsPiece before piece → AreUnfolded folds before (inputs_of piece) → MayEndFolded piece.layout (fold_at folds piece.statement) piece.end →
      IsPiece (map F before) (F piece)
  piece_kept before piece is stays fits = record {
    source = source_kept before piece.pipe.source piece.pipe.columns piece.positions piece.pages is.source;
    tests = is.tests;
    probes = probes_kept before (source_layout piece.pipe.source piece.pipe.columns) piece.pipe.probes piece.layout is.probes (probes_part before piece.pipe.source (probe_inputs piece.pipe.probes) stays);
    end = end_kept piece.layout (fold_at folds piece.statement) piece.end is.end fits;
    timed = is.timed;
  }

  -- ---- lists of fragments

  earlier : (n : ℕ) (pieces : List Piece) (numbers : List ℕ) → AreUnfolded folds pieces numbers → AreUnfolded folds (take n pieces) numbers
  earlier n pieces [] h = tt
  earlier n pieces (k ∷ ks) h = (λ read at. h.0 read (of_take n pieces k read at), earlier n pieces ks h.1)

  statements_kept : (pieces : List Piece) → map (λ (p : Piece). p.statement) (map F pieces) ≡ map (λ (p : Piece). p.statement) pieces
  statements_kept [] = refl
  statements_kept (p ∷ ps) = let rest = statements_kept ps in λ i. p.statement ∷ rest i

  of_map : (o : Option Piece) (x : Piece) → option_map F o ≡ Some x → (p : Piece) × (o ≡ Some p) × (F p ≡ x)
  of_map None x h = cc
  of_map (Some p) x h = (p, refl, (let e : F p ≡ x = cc in e))

  pub well_formed : (pieces : List Piece) → AreWellFormed pieces → MayBeFolded folds pieces → AreWellFormed (map F pieces)
  well_formed pieces formed fit = record {
    few = subst (λ (n : ℕ). n ≤ 1000) (sym (length-map pieces F)) formed.few;
    statements = subst (λ (s : List ℕ). Ascends nat_cmp s) (sym (statements_kept pieces)) formed.statements;
    each = each;
  } where
    here : (number : ℕ) (p : Piece) → slice_get pieces number ≡ Some p → IsPiece (take number (map F pieces)) (F p)
    here number p at = subst (λ (before : List Piece). IsPiece before (F p)) (sym (take-map F number pieces))
        (piece_kept (take number pieces) p (formed.each number p at)
        (earlier number pieces (inputs_of p) (all_at (λ (q : Piece). AreUnfolded folds pieces (inputs_of q)) pieces number p fit.unread at))
        (all_at (λ (q : Piece). MayEndFolded q.layout (fold_at folds q.statement) q.end) pieces number p fit.each at))

    each : (number : ℕ) (x : Piece) → slice_get (map F pieces) number ≡ Some x → IsPiece (take number (map F pieces)) x
    each number x h =
        let found = of_map (slice_get pieces number) x (sym (slice_get-map F pieces number) ∙ h) in
        subst (λ (y : Piece). IsPiece (take number (map F pieces)) y) found.2 (here number found.0 found.1)

pub still_formed : (folds : List (Option FoldPlan)) (pieces more : List Piece) → more ≡ map (folded folds) pieces → AreWellFormed pieces → MayBeFolded folds pieces → AreWellFormed more
still_formed folds pieces more e formed fit = subst AreWellFormed (sym e) (well_formed folds pieces formed fit)
