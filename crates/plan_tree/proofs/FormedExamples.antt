-- The fragments of the examples fit together.
use Rattle.std.proofs.Common.{◌≡◌, ℕ, zero, suc, Bool, true, false, cond, ◌==◌, is_some, [], map, take, Option, Some, None, refl, subst, arith, inl, inr, lit≤, lit<}
use Rattle.std.proofs.lemmas.Bool.Decides.{nat_tests}
use Rattle.rel_meaning.specs.Meaning.{layout_column}
use Rattle.plan_tree.specs.Combining.{AreApart}
use Rattle.std.specs.Prelude.{slice_get}
use Rattle.plan_tree.specs.declared.fragment.Source.TheVariants as source
use Rattle.plan_tree.specs.Pieces.{Piece}
use Rattle.plan_tree.specs.WellFormed.{AreWellFormed, IsPiece, IsTimed}
use Rattle.plan_tree.proofs.Examples.{dept_columns, dept_layout, emp_columns, emp_layout, hash_pieces, kept_pieces, merge_pieces}

same : (x y : Piece) → ◌≡◌ {A = Option Piece} (Some x) (Some y) → x ≡ y
same x y h = cc

timed : IsTimed 1 1
timed = record { few_pages = lit≤ tt; some_time = lit≤ tt; short = lit≤ tt }

two_pages : IsTimed 2 1
two_pages = record { few_pages = lit≤ tt; some_time = lit≤ tt; short = lit≤ tt }

all_slices : IsTimed 64 1
all_slices = record { few_pages = lit≤ tt; some_time = lit≤ tt; short = lit≤ tt }

hash_formed : AreWellFormed (hash_pieces (source.Heap 1 1) 1)
hash_formed = record { few = lit≤ tt; statements = ((refl, tt), (tt, tt)); each = each } where
  each : (number : ℕ) (piece : Piece) → slice_get (hash_pieces (source.Heap 1 1) 1) number ≡ Some piece → IsPiece (take number (hash_pieces (source.Heap 1 1) 1)) piece
  each zero piece h = subst (IsPiece []) (same _ piece h) (record { source = refl; tests = tt; probes = refl; end = (refl, tt); timed = two_pages })
  each (suc zero) piece h = subst (IsPiece (take 1 (hash_pieces (source.Heap 1 1) 1))) (same _ piece h) (record {
    source = refl;
    tests = tt;
    probes = (record { layouts = refl; ordered = ((lit< tt, tt), (tt, tt)); input = inl (_, refl, (refl, refl)); keys = (refl, tt); tests = tt }, refl);
    end = ((refl, (refl, tt)), tt);
    timed = timed;
  })
  each (suc (suc number)) piece h = cc

kept_formed : AreWellFormed kept_pieces
kept_formed = record { few = lit≤ tt; statements = ((refl, tt), (tt, tt)); each = each } where
  each : (number : ℕ) (piece : Piece) → slice_get kept_pieces number ≡ Some piece → IsPiece (take number kept_pieces) piece
  each zero piece h = subst (IsPiece []) (same _ piece h) (record { source = refl; tests = tt; probes = refl; end = ((refl, tt), tt); timed = timed })
  each (suc zero) piece h = subst (IsPiece (take 1 kept_pieces)) (same _ piece h) (record {
    source = (refl, refl);
    tests = tt;
    probes = (record { layouts = refl; ordered = (tt, tt); input = inr (refl, refl, (_, refl, refl)); keys = tt; tests = (refl, tt) }, refl);
    end = record { typed = (refl, tt); width = refl; sums = tt };
    timed = record { few_pages = lit≤ tt; some_time = lit≤ tt; short = lit≤ tt };
  })
  each (suc (suc number)) piece h = cc

apart : AreApart emp_layout dept_layout
apart var h = by (0 == var) (1 == var) refl refl h where
  by : (b c : Bool) → (0 == var) ≡ b → (1 == var) ≡ c → is_some (cond b (Some (map layout_column emp_columns)) None) ≡ true → cond c (Some (map layout_column dept_columns)) None ≡ None
  by true true d e k = let l : 0 ≡ var = grind (arith, nat_tests) in let m : 1 ≡ var = grind (arith, nat_tests) in absurd (omega arith)
  by true false d e k = refl
  by false c d e k = cc

merge_formed : AreWellFormed merge_pieces
merge_formed = record { few = lit≤ tt; statements = ((refl, (refl, tt)), ((refl, tt), (tt, tt))); each = each } where
  each : (number : ℕ) (piece : Piece) → slice_get merge_pieces number ≡ Some piece → IsPiece (take number merge_pieces) piece
  each zero piece h = subst (IsPiece []) (same _ piece h) (record { source = refl; tests = tt; probes = refl; end = (lit< tt, tt); timed = two_pages })
  each (suc zero) piece h = subst (IsPiece (take 1 merge_pieces)) (same _ piece h) (record { source = refl; tests = tt; probes = refl; end = (lit< tt, tt); timed = timed })
  each (suc (suc zero)) piece h = subst (IsPiece (take 2 merge_pieces)) (same _ piece h) (record {
    source = (record { left_input = (_, refl, (refl, refl)); right_input = (_, refl, (refl, refl)); left_ordered = (tt, tt); right_ordered = (tt, tt); apart = apart; pairs = (refl, tt) }, refl, refl);
    tests = tt;
    probes = refl;
    end = ((refl, (refl, tt)), tt);
    timed = all_slices;
  })
  each (suc (suc (suc number))) piece h = cc
