-- Rows of targets that a fold takes.
use Rattle.std.proofs.Common.{◌≡◌, ℕ, zero, suc, ◌+◌, List, [], ◌∷◌, ◌++◌, length, map, drop, take, Option, Some, None, refl, sym, ap, ◌∙◌, arith, length-drop}
use Rattle.std.specs.Prelude.{IsSome}
use Rattle.std.specs.List.{AllByRecursion}
use Rattle.std.proofs.lemmas.List.{length-map, length-take-le, take-append-drop}
use Rattle.rows.specs.declared.value.Value.{Value}
use Rattle.rows.specs.declared.value.Value.TheVariants as value
use Rattle.rows.specs.declared.field.ColType.{ColType}
use Rattle.rows.specs.declared.field.ColType.TheVariants as col
use Rattle.rows.specs.declared.plain.LayoutColumn.{LayoutColumn}
use Rattle.rows.specs.declared.plain.LayoutPart.{LayoutPart}
use Rattle.rows.specs.Layouts.{HasType}
use Rattle.rel_meaning.specs.Expression.{Output}
use Rattle.rel_meaning.specs.Typing.{bound_if, integer_bound}
use Rattle.aggregate_op.specs.declared.fold.Fold.{Fold}
use Rattle.aggregate_op.specs.declared.fold.FoldOp.{FoldOp}
use Rattle.aggregate_op.specs.declared.fold.FoldOp.TheVariants.{Count, Min, Max, Sum}
use Rattle.aggregate_op.specs.Partials.{AreOpValues, IsFoldRow, IsInteger, IsPartial, partial}
use Rattle.aggregate_op.specs.Stored.{ArePartialsOf, IsPartialOf}
use Rattle.plan_tree.specs.WellFormed.{AreSummed, FitsTypes, IsFolded, target_types, type_at}
use Rattle.plan_tree.proofs.Elements.{all_more}

integer_fits : (v : Value) (c : LayoutColumn) → IsSome (integer_bound (Some c)) → HasType v c → IsInteger v
integer_fits value.Null c h fits = tt
integer_fits (value.Number n) c h fits = tt
integer_fits (value.Word w) c h fits = absurd (let k : bound_if c.col_type c.bound ≡ None = ap (λ t. bound_if t c.bound) fits in cc)
integer_fits (value.Truth b) c h fits = absurd (let k : bound_if c.col_type c.bound ≡ None = ap (λ t. bound_if t c.bound) fits in cc)

-- the values behind the groups
ops_fit : (ops : List FoldOp) (types : List (Option LayoutColumn)) (vs : List Value) → AreSummed ops types → FitsTypes types vs → length types ≡ length ops → AreOpValues ops vs
ops_fit [] [] [] sums fits same = tt
ops_fit [] [] (v ∷ vs) sums fits same = elim fits [ ]
ops_fit [] (type ∷ types) vs sums fits same = absurd (omega (arith, same))
ops_fit (op ∷ ops) [] vs sums fits same = absurd (omega (arith, same))
ops_fit (op ∷ ops) (None ∷ types) [] sums fits same = elim fits [ ]
ops_fit (op ∷ ops) (None ∷ types) (v ∷ vs) sums fits same = elim fits [ ]
ops_fit (op ∷ ops) (Some c ∷ types) [] sums fits same = elim fits [ ]
ops_fit (Count ∷ ops) (Some c ∷ types) (v ∷ vs) sums fits same = (tt, ops_fit ops types vs sums fits.1 (omega (arith, same)))
ops_fit (Min ∷ ops) (Some c ∷ types) (v ∷ vs) sums fits same = (tt, ops_fit ops types vs sums fits.1 (omega (arith, same)))
ops_fit (Max ∷ ops) (Some c ∷ types) (v ∷ vs) sums fits same = (tt, ops_fit ops types vs sums fits.1 (omega (arith, same)))
ops_fit (Sum ∷ ops) (Some c ∷ types) (v ∷ vs) sums fits same = (integer_fits v c sums.0 fits.0, ops_fit ops types vs sums.1 fits.1 (omega (arith, same)))

-- a row of the types of so many groups and of the ops
typed_row : (fold : Fold) (n : ℕ) (types : List (Option LayoutColumn)) (vs : List Value) → AreSummed fold.ops (drop n types) → FitsTypes types vs → length types ≡ n + length fold.ops →
    (length (take n vs) ≡ n) × AreOpValues fold.ops (drop n vs)
typed_row fold zero types vs sums fits same = (refl, ops_fit fold.ops types vs sums fits (omega (arith, same)))
typed_row fold (suc n) [] vs sums fits same = absurd (omega (arith, same))
typed_row fold (suc n) (None ∷ types) [] sums fits same = elim fits [ ]
typed_row fold (suc n) (None ∷ types) (v ∷ vs) sums fits same = elim fits [ ]
typed_row fold (suc n) (Some c ∷ types) [] sums fits same = elim fits [ ]
typed_row fold (suc n) (Some c ∷ types) (v ∷ vs) sums fits same =
    let rest = typed_row fold n types vs sums fits.1 (omega (arith, same)) in (ap suc rest.0, rest.1)

module _ (layout : List LayoutPart) (targets : List Output) (fold : Fold) (is : IsFolded layout targets fold) where
  fold_row : (row : List Value) → FitsTypes (target_types layout targets) row → IsFoldRow fold row
  fold_row row fits =
      let typed = typed_row fold fold.groups (target_types layout targets) row is.sums fits (length-map targets (type_at layout) ∙ is.width) in
      record {
        groups = take fold.groups row;
        values = drop fold.groups row;
        width = typed.0;
        whole = sym (take-append-drop fold.groups row);
        ops = typed.1;
      }

  -- rows of the targets may be folded
  pub fold_rows : (rows : List (List Value)) → AllByRecursion (FitsTypes (target_types layout targets)) rows → AllByRecursion (IsFoldRow fold) rows
  fold_rows rows fits = all_more (FitsTypes (target_types layout targets)) (IsFoldRow fold) rows fold_row fits

pub partial_shape : (fold : Fold) (rows found : List (List Value)) → IsPartialOf fold rows found → IsPartial fold found
partial_shape fold rows found h = record { rows = rows; fit = h.may.fit; same = h.is }
