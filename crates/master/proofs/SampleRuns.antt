-- The sample runs fit together, and outputs without rows and tables without rows are of their shape.
use Rattle.std.proofs.Common.{◌≡◌, ◌∙◌, ℕ, zero, suc, ◌<◌, ◌≤◌, ◌^◌, Bool, true, false, List, [], ◌∷◌, map, take, length, Option, Some, None, refl, sym, subst, arith, inl, inr, lit≤, lit<}
use Rattle.std.specs.Prelude.{slice_get, slice_index_or}
use Rattle.std.specs.List.{AllByRecursion}
use Rattle.std.specs.Ordering.{nat_cmp}
use Rattle.lists.specs.Arranged.{Ascends}
use Rattle.rows.specs.declared.value.Value.{Value}
use Rattle.rows.specs.declared.plain.ColumnRef.{ColumnRef}
use Rattle.rows.specs.declared.plain.LayoutPart.{LayoutPart}
use Rattle.hash_join.specs.Table.{Table, places_of}
use Rattle.plan_tree.specs.EndValues.{IsEndValue}
use Rattle.plan_tree.specs.Pieces.{Piece, building, piece_of, pieces_of}
use Rattle.plan_tree.specs.WellFormed.{AreWellFormed, HasShape, IsPiece, IsTimed}
use Rattle.plan_tree.specs.declared.fragment.End.TheVariants as end
use Rattle.plan_tree.specs.declared.fragment.Fragment.{Fragment}
use Rattle.master.specs.Content.{AreOuts, IsValue}
use Rattle.master.specs.Meaning.{Meaning}
use Rattle.master.specs.SampleRuns.{IsSample, sample_entries, sample_pages, sample_reader, sample_scan}

same : (x y : Piece) → ◌≡◌ {A = Option Piece} (Some x) (Some y) → x ≡ y
same x y h = cc

-- a scan of entries, behind any fragments
entries_fit : (before : List Piece) (statement n p t : ℕ) → IsTimed p t → IsPiece before (piece_of (sample_entries statement n p t))
entries_fit before statement n p t timed = record {
  source = (record { begins = omega arith; within = omega arith; pages = λ some. lit< tt; levels = λ some. lit< tt }, omega arith);
  tests = tt;
  probes = refl;
  end = tt;
  timed = timed;
}

-- a scan of pages, behind any fragments
pub pages_fit : (before : List Piece) (statement n t : ℕ) → IsTimed n t → IsPiece before (piece_of (sample_pages statement n t))
pages_fit before statement n t timed = record { source = refl; tests = tt; probes = refl; end = tt; timed = timed }

-- a scan, whose numbers are of 32 bits, behind any fragments
scan_fits : (b : Bool) (before : List Piece) (statement n p t : ℕ) → n < 2 ^ 32 → p < 2 ^ 32 → 1 ≤ t → t < 2 ^ 32 → IsPiece before (piece_of (sample_scan statement b n p t))
scan_fits true before statement n p t few_positions few_pages some short =
    entries_fit before statement n p t (record { few_pages = omega arith; some_time = some; short = omega arith })
scan_fits false before statement n p t few_positions few_pages some short =
    pages_fit before statement n t (record { few_pages = omega arith; some_time = some; short = omega arith })

two_formed : (one two : Fragment) → one.statement ≡ 0 → two.statement ≡ 1 → IsPiece [] (piece_of one) → IsPiece (piece_of one ∷ []) (piece_of two) → AreWellFormed (pieces_of (one ∷ two ∷ []))
two_formed one two s t first second = record { few = lit≤ tt; statements = ascends; each = each } where
  ascends : Ascends nat_cmp (map (λ (piece : Piece). piece.statement) (pieces_of (one ∷ two ∷ [])))
  ascends = subst (λ a. Ascends nat_cmp (a ∷ two.statement ∷ [])) (sym s) (subst (λ a. Ascends nat_cmp (0 ∷ a ∷ [])) (sym t) ((refl, tt), (tt, tt)))

  each : (number : ℕ) (piece : Piece) → slice_get (pieces_of (one ∷ two ∷ [])) number ≡ Some piece → IsPiece (take number (pieces_of (one ∷ two ∷ []))) piece
  each zero piece h = subst (IsPiece []) (same _ piece h) first
  each (suc zero) piece h = subst (IsPiece (piece_of one ∷ [])) (same _ piece h) second
  each (suc (suc number)) piece h = cc

statement_of : (b : Bool) (statement n p t : ℕ) → (sample_scan statement b n p t).statement ≡ statement
statement_of true statement n p t = refl
statement_of false statement n p t = refl

end_of : (b : Bool) (statement n p t : ℕ) → (sample_scan statement b n p t).end ≡ end.Build []
end_of true statement n p t = refl
end_of false statement n p t = refl

-- the numbers of a scan
pub record IsScan (n p t : ℕ) : Type 0 where
  pub positions : n < 2 ^ 32
  pub pages : p < 2 ^ 32
  pub some_time : 1 ≤ t
  pub time : t < 2 ^ 32

pub pair_formed : (b : Bool) (n p t : ℕ) (c : Bool) (m q u : ℕ) → IsScan n p t → IsScan m q u → AreWellFormed (pieces_of (sample_scan 0 b n p t ∷ sample_scan 1 c m q u ∷ []))
pair_formed b n p t c m q u one two =
    two_formed _ _ (statement_of b 0 n p t) (statement_of c 1 m q u) (scan_fits b [] 0 n p t one.positions one.pages one.some_time one.time)
    (scan_fits c _ 1 m q u two.positions two.pages two.some_time two.time)

pub pair_ends : (b : Bool) (n p t : ℕ) (c : Bool) (m q u : ℕ) → AllByRecursion (λ (f : Fragment). f.end ≡ end.Build []) (sample_scan 0 b n p t ∷ sample_scan 1 c m q u ∷ [])
pair_ends b n p t c m q u = (end_of b 0 n p t, (end_of c 1 m q u, tt))

pub trio_formed : AreWellFormed (pieces_of (sample_pages 0 12 96 ∷ sample_entries 0 9 1 150 ∷ sample_reader 1 0 30 ∷ []))
trio_formed = record { few = lit≤ tt; statements = ((refl, (refl, tt)), ((refl, tt), (tt, tt))); each = each } where
  each : (number : ℕ) (piece : Piece) → slice_get (pieces_of (sample_pages 0 12 96 ∷ sample_entries 0 9 1 150 ∷ sample_reader 1 0 30 ∷ [])) number ≡ Some piece
      → IsPiece (take number (pieces_of (sample_pages 0 12 96 ∷ sample_entries 0 9 1 150 ∷ sample_reader 1 0 30 ∷ []))) piece
  each zero piece h = subst (IsPiece []) (same _ piece h) (record { source = refl; tests = tt; probes = refl; end = tt; timed = record { few_pages = lit≤ tt; some_time = lit≤ tt; short = lit≤ tt } })
  each (suc zero) piece h = subst (IsPiece (piece_of (sample_pages 0 12 96) ∷ [])) (same _ piece h) (entries_fit (piece_of (sample_pages 0 12 96) ∷ []) 0 9 1 150 (record { few_pages = lit≤ tt; some_time = lit≤ tt; short = lit≤ tt }))
  each (suc (suc zero)) piece h = subst (IsPiece (piece_of (sample_pages 0 12 96) ∷ piece_of (sample_entries 0 9 1 150) ∷ [])) (same _ piece h) (record {
    source = (refl, refl);
    tests = tt;
    probes = (record { layouts = refl; ordered = (tt, tt); input = inl (_, refl, (refl, refl)); keys = tt; tests = tt }, refl);
    end = tt;
    timed = record { few_pages = lit≤ tt; some_time = lit≤ tt; short = lit≤ tt };
  })
  each (suc (suc (suc number))) piece h = cc

-- each fragment of a sample ends with a build without key columns
ends_build : (fs : List Fragment) (f : ℕ) (piece : Piece) → AllByRecursion (λ (x : Fragment). x.end ≡ end.Build []) fs → slice_get (map piece_of fs) f ≡ Some piece → piece.end ≡ building []
ends_build [] f piece all e = absurd (cc)
ends_build (x ∷ fs) zero piece all e = subst (λ (y : Piece). y.end ≡ building []) (same _ piece e) (subst (λ z. (piece_of (record x { end = z })).end ≡ building []) (sym all.0) refl)
ends_build (x ∷ fs) (suc f) piece all e = ends_build fs f piece all.1 e

no_rows : (xs : List (List (List Value))) (k : ℕ) (rows : List (List Value)) → AllByRecursion (λ ys. ys ≡ []) xs → slice_get xs k ≡ Some rows → rows ≡ []
no_rows [] k rows all e = absurd (cc)
no_rows (x ∷ xs) zero rows all e = (let same' : x ≡ rows = cc in sym same' ∙ all.0)
no_rows (x ∷ xs) (suc k) rows all e = no_rows xs k rows all.1 e

pub sample_outs : (m : Meaning) (f : ℕ) (ps : List ℕ) (xs : List (List (List Value))) → IsSample m → AllByRecursion (λ ys. ys ≡ []) xs → AreOuts m f ps xs
sample_outs m f ps xs sample all k rows e = record {
  shape = λ piece there. subst (λ z. HasShape piece.layout z rows) (sym (ends_build m.fragments f piece sample.ends there)) (subst (λ ys. HasShape piece.layout (building []) ys) (sym (no_rows xs k rows all e)) tt);
  told = λ piece stored there image. absurd (let none = sample.untold in cc);
}

pub sample_value : (m : Meaning) (f : ℕ) (v : Table) → IsSample m → v ≡ record { lists = []; columns = [] } → IsValue m f v
sample_value m f v sample is = record {
  shape = λ piece there. ([], tt, subst (λ z. IsEndValue z piece.layout [] v) (sym (ends_build m.fragments f piece sample.ends there)) is);
  told = λ piece stored there image. absurd (let none = sample.untold in cc);
}

pub empty_table : (v : Table) (layout : List LayoutPart) (keys : List ColumnRef) (parts : List (List (List Value))) → v ≡ record { lists = parts; columns = places_of layout keys } → parts ≡ [] → keys ≡ [] → v ≡ record { lists = []; columns = [] }
empty_table v layout keys parts is no_parts no_keys =
    subst (λ (ks : List ColumnRef). v ≡ record { lists = []; columns = places_of layout ks }) no_keys
    (subst (λ (xs : List (List (List Value))). v ≡ record { lists = xs; columns = places_of layout keys }) no_parts is)
