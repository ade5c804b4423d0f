-- The queries of the tests may be planned.
use Rattle.std.proofs.Common.{◌≡◌, ◌<◌, ◌≤◌, List, [], ◌∷◌, ◌++◌, length, refl, sym, subst, arith, Some, None, IsSome}
use Rattle.std.proofs.lemmas.List.Elements.{All-from_recursion}
use Rattle.kept_relations.specs.declared.kept.Kept.{Kept}
use Rattle.kept_relations.specs.Fitting.{FitKept, FitsTargets, IsResolvedIn, columns_kept, layout_in}
use Rattle.rel_meaning.specs.Expression.{Question}
use Rattle.rel_meaning.specs.Typing.{type_of}
use Rattle.rows.specs.declared.plain.LayoutColumn.{LayoutColumn}
use Rattle.rows.specs.declared.plain.Relation.{Relation}
use Rattle.rows.specs.Layouts.{column_type}
use Rattle.query_planner.specs.Plans.{MayPlan, relation_columns}
use Rattle.query_planner.specs.Sample.{above, asked, number_layouts, sample, sample_kept}

-- the columns behind the first query
abbrev behind : List (List LayoutColumn)
behind = number_layouts ++ columns_kept sample_kept ∷ []

bounded : IsResolvedIn number_layouts (asked 0 (Some above))
bounded = record {
  few = omega arith;
  relations = All-from_recursion (λ v. v.relation < 1) (asked 0 (Some above)).vars
      (omega arith, tt);
  targets = All-from_recursion (λ target. IsSome
      (type_of target.expr (column_type (layout_in number_layouts (asked 0 (Some above))))))
      (asked 0 (Some above)).targets (refl, tt);
  test = refl;
}

plain : IsResolvedIn behind (asked 0 None)
plain = record {
  few = omega arith;
  relations = All-from_recursion (λ v. v.relation < 2) (asked 0 None).vars (omega arith, tt);
  targets = All-from_recursion (λ target. IsSome
      (type_of target.expr (column_type (layout_in behind (asked 0 None))))) (asked 0 None).targets
      (refl, tt);
  test = tt;
}

reading : IsResolvedIn behind (asked 1 None)
reading = record {
  few = omega arith;
  relations = All-from_recursion (λ v. v.relation < 2) (asked 1 None).vars (omega arith, tt);
  targets = All-from_recursion (λ target. IsSome
      (type_of target.expr (column_type (layout_in behind (asked 1 None))))) (asked 1 None).targets
      (refl, tt);
  test = tt;
}

kept_fits : FitsTargets number_layouts (asked 0 (Some above)) sample_kept
kept_fits = record { each = refl; types = refl }

sample_fits : FitKept number_layouts (sample_kept ∷ []) sample
sample_fits = record {
  ascending = (omega arith, tt);
  within = All-from_recursion (λ k. k.statement < 3) (sample_kept ∷ []) (omega arith, tt);
  queries = (bounded, kept_fits, (plain, tt, (reading, tt, tt)));
}

pub sample_plans : (relations : List Relation) (kept : List Kept) (qs : List Question) →
    relation_columns relations ≡ number_layouts → kept ≡ sample_kept ∷ [] → qs ≡ sample →
    MayPlan relations kept qs
sample_plans relations kept qs columns keeps are =
    rw (keeps, are) (record {
      fits = subst (λ (cs : List (List LayoutColumn)). FitKept cs (sample_kept ∷ []) sample)
          (sym columns) sample_fits;
      few = All-from_recursion (λ (q : Question). length q.vars ≤ 6) sample
          (omega arith, (omega arith, (omega arith, tt)));
    })
