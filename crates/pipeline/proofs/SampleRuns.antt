-- The fragments for tests are well formed, and the tables that they read fit them.
use Rattle.std.proofs.Common.{◌≡◌, ℕ, cond, List, [], ◌∷◌, ◌++◌, map, Option, Some, None, is_some, refl, ap, sym, subst, inl, lit≤, lit<}
use Rattle.std.specs.Prelude.{slice_get, IsSome}
use Rattle.std.proofs.lemmas.Bool.{eq-eqb}
use Rattle.std.specs.List.{AllByRecursion, AllZip}
use Rattle.std.specs.Option.{option_and_then}
use Rattle.rows.specs.Layouts.{all_columns, column_type}
use Rattle.hash_join.specs.Table.{Table}
use Rattle.heap_page.specs.declared.head.FileKind.TheVariants as kind
use Rattle.plan_tree.specs.declared.fragment.Source.{Source}
use Rattle.plan_tree.specs.declared.fragment.Source.TheVariants as source
use Rattle.plan_tree.specs.Pieces.{Piece, piece_of}
use Rattle.plan_tree.specs.declared.fragment.Fragment.{Fragment}
use Rattle.pipeline.specs.Positions.{IsScan}
use Rattle.plan_tree.specs.EndValues.{IsEndValue}
use Rattle.plan_tree.specs.WellFormed.{HasShape, IsPiece, IsTimed}
use Rattle.pipeline.specs.Ends.{IsPartOf}
use Rattle.rows.specs.declared.value.Value.{Value}
use Rattle.pipeline.specs.KeptValues.{AreKept, IsShapedValue}
use Rattle.pipeline.proofs.Fitting.{kept_fit}
use Rattle.pipeline.specs.SamplePieces.{AreCollected, IsReady, IsSampleTable, sample_build, sample_chain, sample_counts, sample_entries, sample_part, sample_scan}

same : (x y : Piece) → ◌≡◌ {A = Option Piece} (Some x) (Some y) → x ≡ y
same x y h = cc

all_more : {X : Type 0} (P : X → Type 0) (xs : List X) (x : X) → AllByRecursion P xs → P x → AllByRecursion P (xs ++ x ∷ [])
all_more P [] x all h = (h, tt)
all_more P (y ∷ ys) x all h = (all.0, all_more P ys x all.1 h)

zip_more : {X Y : Type 0} (R : X → Y → Type 0) (xs : List X) (ys : List Y) (x : X) (y : Y) → AllZip R xs ys → R x y → AllZip R (xs ++ x ∷ []) (ys ++ y ∷ [])
zip_more R [] [] x y all h = (h, tt)
zip_more R [] (b ∷ ys) x y all h = absurd all
zip_more R (a ∷ xs) [] x y all h = absurd all
zip_more R (a ∷ xs) (b ∷ ys) x y all h = (all.0, zip_more R xs ys x y all.1 h)

-- one position more
pub collected_more : (piece : Piece) (parts made : List (List (List Value))) (found : List (List Value)) → AreCollected piece parts → HasShape piece.layout piece.end found → ((rows : List (List Value)) × IsPartOf piece.end rows found) →
    made ≡ parts ++ found ∷ [] → AreCollected piece made
collected_more piece parts made found old shape part is = rw is (record {
  shapes = all_more (HasShape piece.layout piece.end) parts found old.shapes shape;
  lists = old.lists ++ part.0 ∷ [];
  are = zip_more (IsPartOf piece.end) old.lists parts part.0 found old.are part.1;
})

pub collected_none : (piece : Piece) → AreCollected piece []
collected_none piece = record { shapes = tt; lists = []; are = tt }

-- what is kept of all positions is of the fragment's shape
pub shaped_value : (piece : Piece) (parts : List (List (List Value))) (table : Table) → AreCollected piece parts → IsEndValue piece.end piece.layout parts table → IsShapedValue piece table
shaped_value piece parts table all is = (parts, all.shapes, is)

short : IsTimed 2 1
short = record { few_pages = lit≤ tt; some_time = lit≤ tt; short = lit≤ tt }

-- the column of the key is there
key_there : (var : ℕ) → IsSome (column_type (sample_part var ∷ []) var 1)
key_there var =
    ap (λ b. is_some (option_and_then (λ place. slice_get (all_columns (sample_part var ∷ [])) place) (cond b (Some 1) None))) (eq-eqb var var refl)

pub build_formed : (var : ℕ) → IsPiece [] (sample_build var)
build_formed var = record { source = refl; tests = tt; probes = refl; end = (key_there var, tt); timed = short }

pub pair_formed : IsPiece (sample_build 1 ∷ []) (sample_chain (0 ∷ 1 ∷ []) (0 ∷ []))
pair_formed = record {
  source = refl;
  tests = tt;
  probes = (record { layouts = refl; ordered = ((lit< tt, tt), (tt, tt)); input = inl (_, refl, (refl, refl)); keys = (refl, tt); tests = tt }, refl);
  end = ((refl, (refl, tt)), tt);
  timed = short;
}

pub pair_kept : (tables : List Table) → AllZip IsSampleTable (1 ∷ []) tables → AreKept (sample_build 1 ∷ []) (sample_chain (0 ∷ 1 ∷ []) (0 ∷ [])) tables
pair_kept [] all = absurd all
pair_kept (t ∷ []) all = (λ piece h. subst (λ p. IsShapedValue p t) (same _ piece h) all.0, tt)
pair_kept (t ∷ u ∷ ts) all = absurd all.1

pub scan_formed : IsPiece [] (sample_scan (source.Heap 0 0) 2)
scan_formed = record { source = refl; tests = (refl, tt); probes = refl; end = ((refl, tt), tt); timed = short }

pub counts_formed : IsPiece [] sample_counts
counts_formed = record { source = refl; tests = tt; probes = refl; end = record { typed = (refl, (refl, tt)); width = refl; sums = tt }; timed = short }

-- scans of the heap file alone
heap_ready : (p q : Piece) (var n : ℕ) → p ≡ q → IsPiece [] q → q.pipe.source ≡ source.Heap var 0 → q.pipe.probes ≡ [] → q.positions ≡ 2 → IsReady p n []
heap_ready p q var n is formed from probes positions = record {
  formed = rw is (record { before = []; is = formed });
  inputs = rw (is, from, probes) refl;
  files = rw (is, from) (record { entry = record { kind = kind.Heap; pages = 2 }; here = refl; kind = refl; size = sym positions });
}

pub build_ready : (p : Piece) (var n : ℕ) → p ≡ sample_build var → IsReady p n []
build_ready p var n is = heap_ready p (sample_build var) var n is (build_formed var) refl refl refl

pub counts_ready : (p : Piece) (n : ℕ) → p ≡ sample_counts → IsReady p n []
counts_ready p n is = heap_ready p sample_counts 0 n is counts_formed refl refl refl

pub scan_scans : (f : Fragment) → piece_of f ≡ sample_scan (source.Heap 0 0) 2 → IsScan f.pipe.source
scan_scans f is = subst IsScan (sym (ap (λ (p : Piece). p.pipe.source) is)) tt

pub scan_ready : (p : Piece) (n : ℕ) → p ≡ sample_scan (source.Heap 0 0) 2 → IsReady p n []
scan_ready p n is = heap_ready p (sample_scan (source.Heap 0 0) 2) 0 n is scan_formed refl refl refl

pub scan_positions : (f : Fragment) (from : Source) (n : ℕ) → piece_of f ≡ sample_scan from n → f.positions ≡ n
scan_positions f from n is = ap (λ (p : Piece). p.positions) is

pub table_shaped : (p : Piece) (var : ℕ) (t : Table) → p ≡ sample_build var → IsShapedValue p t → IsSampleTable var t
table_shaped p var t is shaped = subst (λ q. IsShapedValue q t) is shaped

pub pair_ready : (p : Piece) (n : ℕ) (tables : List Table) → p ≡ sample_chain (0 ∷ 1 ∷ []) (0 ∷ []) → AllZip IsSampleTable (1 ∷ []) tables → IsReady p n tables
pair_ready p n tables is all = rw is (record {
  formed = record { before = _; is = pair_formed };
  inputs = kept_fit _ _ tables pair_formed (pair_kept tables all);
  files = record { entry = record { kind = kind.Heap; pages = 2 }; here = refl; kind = refl; size = refl };
})

entries_formed : IsPiece [] (sample_scan sample_entries 6)
entries_formed = record {
  source = (record { begins = lit≤ tt; within = lit≤ tt; pages = λ some. lit< tt; levels = λ some. lit< tt }, refl);
  tests = (refl, tt);
  probes = refl;
  end = ((refl, tt), tt);
  timed = record { few_pages = lit≤ tt; some_time = lit≤ tt; short = lit≤ tt };
}

pub entries_ready : (p : Piece) → p ≡ sample_scan sample_entries 6 → IsReady p 3 []
entries_ready p is = rw is (record {
  formed = record { before = []; is = entries_formed };
  inputs = refl;
  files = ((record { kind = kind.Index; pages = 3 }, refl, refl, refl), record { entry = record { kind = kind.Heap; pages = 2 }; here = refl; kind = refl; size = refl });
})

-- five probes in a row
abbrev five_vars : List ℕ
five_vars = 1 ∷ 2 ∷ 3 ∷ 4 ∷ 5 ∷ []

abbrev long_chain : Piece
long_chain = sample_chain (0 ∷ five_vars) (0 ∷ 1 ∷ 2 ∷ 3 ∷ 4 ∷ [])

long_formed : IsPiece (map sample_build five_vars) long_chain
long_formed = record {
  source = refl;
  tests = tt;
  probes = (
    record { layouts = refl; ordered = ((lit< tt, tt), (tt, tt)); input = inl (_, refl, (refl, refl)); keys = (refl, tt); tests = tt },
    (
      record { layouts = refl; ordered = ((lit< tt, (lit< tt, tt)), ((lit< tt, tt), (tt, tt))); input = inl (_, refl, (refl, refl)); keys = (refl, tt); tests = tt },
      (
        record { layouts = refl; ordered = ((lit< tt, (lit< tt, (lit< tt, tt))), ((lit< tt, (lit< tt, tt)), ((lit< tt, tt), (tt, tt)))); input = inl (_, refl, (refl, refl)); keys = (refl, tt); tests = tt },
        (
          record { layouts = refl; ordered = ((lit< tt, (lit< tt, (lit< tt, (lit< tt, tt)))), ((lit< tt, (lit< tt, (lit< tt, tt))), ((lit< tt, (lit< tt, tt)), ((lit< tt, tt), (tt, tt))))); input = inl (_, refl, (refl, refl)); keys = (refl, tt); tests = tt },
          (
            record { layouts = refl; ordered = ((lit< tt, (lit< tt, (lit< tt, (lit< tt, (lit< tt, tt))))), ((lit< tt, (lit< tt, (lit< tt, (lit< tt, tt)))), ((lit< tt, (lit< tt, (lit< tt, tt))), ((lit< tt, (lit< tt, tt)), ((lit< tt, tt), (tt, tt)))))); input = inl (_, refl, (refl, refl)); keys = (refl, tt); tests = tt },
            refl,
          ),
        ),
      ),
    ),
  );
  end = ((refl, (refl, (refl, (refl, (refl, (refl, tt)))))), tt);
  timed = short;
}

long_kept : (tables : List Table) → AllZip IsSampleTable five_vars tables → AreKept (map sample_build five_vars) long_chain tables
long_kept [] all = absurd all
long_kept (t ∷ []) all = absurd all.1
long_kept (t ∷ u ∷ []) all = absurd all.1.1
long_kept (t ∷ u ∷ v ∷ []) all = absurd all.1.1.1
long_kept (t ∷ u ∷ v ∷ w ∷ []) all = absurd all.1.1.1.1
long_kept (t ∷ u ∷ v ∷ w ∷ x ∷ []) all = (λ piece h. subst (λ p. IsShapedValue p t) (same _ piece h) all.0, (λ piece h. subst (λ p. IsShapedValue p u) (same _ piece h) all.1.0, (λ piece h. subst (λ p. IsShapedValue p v) (same _ piece h) all.1.1.0, (λ piece h. subst (λ p. IsShapedValue p w) (same _ piece h) all.1.1.1.0, (λ piece h. subst (λ p. IsShapedValue p x) (same _ piece h) all.1.1.1.1.0, tt)))))
long_kept (t ∷ u ∷ v ∷ w ∷ x ∷ y ∷ ts) all = absurd all.1.1.1.1.1

pub long_ready : (p : Piece) (n : ℕ) (tables : List Table) → p ≡ long_chain → AllZip IsSampleTable five_vars tables → IsReady p n tables
long_ready p n tables is all = rw is (record {
  formed = record { before = _; is = long_formed };
  inputs = kept_fit _ _ tables long_formed (long_kept tables all);
  files = record { entry = record { kind = kind.Heap; pages = 2 }; here = refl; kind = refl; size = refl };
})
