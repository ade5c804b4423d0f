-- The columns of a fold, one by one, make up the fold.
use Rattle.std.proofs.Common.{◌≡◌, ℕ, ◌+◌, List, [], ◌∷◌, ◌++◌, length, Option, Some, None, refl}
use Rattle.std.proofs.Common.{sym, ap, ◌∙◌, arith, append_assoc, append-nil, length-append}
use Rattle.aggregate_op.specs.declared.fold.FoldOp.{FoldOp}
use Rattle.aggregate_op.specs.declared.fold.FoldPlace.TheVariants.{Group, Op}
use Rattle.aggregate_op.specs.declared.fold.Fold.{Fold}
use Rattle.name_check.specs.Folds.{fold_of, groups_in, ops_in, places_behind}
use Rattle.name_check.specs.FoldSteps.{no_fold, with_column, with_columns}

folds_behind : (f : Fold) (cs : List (Option FoldOp)) →
    with_columns f cs
    ≡
    record {
      groups = f.groups + groups_in cs;
      ops = f.ops ++ ops_in cs;
      places =
          f.places ++ places_behind f.groups (length f.ops) cs;
    }
folds_behind f [] =
    let g : f.groups ≡ f.groups + 0 = omega arith in
    λ i.
    record {
      groups = g i;
      ops = sym (append-nil f.ops) i;
      places =
          sym (append-nil f.places) i;
    }
folds_behind f (None ∷ cs) =
    let g : (f.groups + 1) + groups_in cs ≡ f.groups + (groups_in cs + 1) = omega arith in
    let p : (f.places ++ Group f.groups ∷ []) ++ places_behind (f.groups + 1) (length f.ops) cs
    ≡ f.places ++ (Group f.groups ∷ places_behind (f.groups + 1) (length f.ops) cs) =
    append_assoc f.places (Group f.groups ∷ []) (places_behind (f.groups + 1) (length f.ops) cs) in
    folds_behind (with_column f None) cs
    ∙ (λ i. record { groups = g i; ops = f.ops ++ ops_in cs; places = p i })
folds_behind f (Some op ∷ cs) =
    let n : length (f.ops ++ op ∷ []) ≡ length f.ops + 1 = length-append f.ops (op ∷ []) in
    let o : (f.ops ++ op ∷ []) ++ ops_in cs ≡ f.ops ++ (op ∷ ops_in cs) =
    append_assoc f.ops (op ∷ []) (ops_in cs) in
    let p : (f.places ++ Op (length f.ops) ∷ []) ++ places_behind f.groups
    (length (f.ops ++ op ∷ [])) cs
    ≡ f.places ++ (Op (length f.ops) ∷ places_behind f.groups (length f.ops + 1) cs) =
    append_assoc f.places (Op (length f.ops) ∷ [])
    (places_behind f.groups (length (f.ops ++ op ∷ [])) cs)
    ∙ ap (λ k. f.places ++ (Op (length f.ops) ∷ places_behind f.groups k cs)) n in
    folds_behind (with_column f (Some op)) cs
    ∙ (λ i. record { groups = f.groups + groups_in cs; ops = o i; places = p i })

pub folds_all : (cs : List (Option FoldOp)) → with_columns no_fold cs ≡ fold_of cs
folds_all cs = folds_behind no_fold cs
    ∙
    (let g : 0 + groups_in cs ≡ groups_in cs = omega arith in
    λ i. record { groups = g i; ops = ops_in cs; places = places_behind 0 0 cs })
