-- Scans of pages are well formed fragments, and end with a build without key columns.
use Rattle.std.proofs.Common.{◌≡◌, false, ℕ, zero, suc, ◌≤◌, List, [], ◌∷◌, length, map, take, Option, Some, refl, sym, subst, arith}
use Rattle.std.specs.Prelude.{slice_get}
use Rattle.std.specs.Ordering.{nat_cmp, is_gt}
use Rattle.std.proofs.lemmas.List.{length-map}
use Rattle.std.specs.List.{AllByRecursion}
use Rattle.lists.specs.Arranged.{Ascends}
use Rattle.plan_tree.specs.Pieces.{Piece, piece_of, pieces_of}
use Rattle.plan_tree.specs.WellFormed.{AreWellFormed, IsPiece}
use Rattle.plan_tree.specs.declared.fragment.End.TheVariants as end
use Rattle.plan_tree.specs.declared.fragment.Fragment.{Fragment}
use Rattle.master.proofs.SampleRuns.{pages_fit}
use Rattle.engine_bench.specs.Scans.{IsScan}

same : (x y : Piece) → ◌≡◌ {A = Option Piece} (Some x) (Some y) → x ≡ y
same x y h = cc

scan_fits : (before : List Piece) (f : Fragment) → IsScan f → IsPiece before (piece_of f)
scan_fits before f s = subst (λ (x : Fragment). IsPiece before (piece_of x)) (sym s.is) (pages_fit before 0 s.positions s.time s.timed)

scan_at : (before : List Piece) (fs : List Fragment) (k : ℕ) (piece : Piece) → AllByRecursion IsScan fs → slice_get (map piece_of fs) k ≡ Some piece → IsPiece before piece
scan_at before [] k piece all e = absurd (cc)
scan_at before (f ∷ fs) zero piece all e = subst (IsPiece before) (same _ piece e) (scan_fits before f all.0)
scan_at before (f ∷ fs) (suc k) piece all e = scan_at before fs k piece all.1 e

-- all are of statement 0
statement_is : (f : Fragment) → IsScan f → (piece_of f).statement ≡ 0
statement_is f s = subst (λ (x : Fragment). (piece_of x).statement ≡ 0) (sym s.is) refl

not_above : (a b : ℕ) → a ≡ 0 → b ≡ 0 → is_gt (nat_cmp a b) ≡ false
not_above a b x y = subst (λ n. is_gt (nat_cmp n b) ≡ false) (sym x) (subst (λ n. is_gt (nat_cmp 0 n) ≡ false) (sym y) refl)

none_above : (a : ℕ) (fs : List Fragment) → a ≡ 0 → AllByRecursion IsScan fs → AllByRecursion (λ y. is_gt (nat_cmp a y) ≡ false) (map (λ (piece : Piece). piece.statement) (map piece_of fs))
none_above a [] x all = tt
none_above a (f ∷ fs) x all = (not_above a (piece_of f).statement x (statement_is f all.0), none_above a fs x all.1)

ascend : (fs : List Fragment) → AllByRecursion IsScan fs → Ascends nat_cmp (map (λ (piece : Piece). piece.statement) (map piece_of fs))
ascend [] all = tt
ascend (f ∷ fs) all = (none_above (piece_of f).statement fs (statement_is f all.0) all.1, ascend fs all.1)

pieces_few : (fs : List Fragment) → length (map piece_of fs) ≡ length fs
pieces_few fs = length-map fs piece_of

pub scans_formed : (fs : List Fragment) → AllByRecursion IsScan fs → length fs ≤ 1000 → AreWellFormed (pieces_of fs)
scans_formed fs all few = record {
  few = (let e = pieces_few fs in omega arith);
  statements = ascend fs all;
  each = λ number piece e. scan_at (take number (map piece_of fs)) fs number piece all e;
}

pub scans_end : (fs : List Fragment) → AllByRecursion IsScan fs → AllByRecursion (λ (f : Fragment). f.end ≡ end.Build []) fs
scans_end [] all = tt
scans_end (f ∷ fs) all = (subst (λ (x : Fragment). x.end ≡ end.Build []) (sym all.0.is) refl, scans_end fs all.1)
