use Rattle.std.proofs.Common.{◌≡◌, ◌≤◌, ◌∙◌, All, ap, sym, subst, map, length, arith}
use Rattle.std.proofs.lemmas.List.{length-map}
use Rattle.postquel.specs.Program.{program_of}
use Rattle.kept_relations.specs.Fitting.{FitKept}
use Rattle.name_check.specs.FoldFit.{FitFolds, catalog_columns, questions_of}
use Rattle.name_check.specs.Sentences.{heading_of}
use Rattle.rel_meaning.specs.Expression.{Question, question_of}
use Rattle.fragments.specs.Premises.{IsKept}
use Rattle.xprs_top.proofs.Asked.{HasKeys, all_narrow, few_each, fold_queries, header_each, keys_each, question_each}
use Rattle.xprs_top.proofs.script.checked.Goals as goal

pub returns-clause-serve : goal.returns-clause-serve
returns-clause-serve c =
    let catalog = c.args.catalog.now in
    let sentences = (program_of c.args.script).sentences in
    let asked = map question_of c.in_ok-queries.queries in
    let same : questions_of catalog sentences ≡ asked = c.in_ok-queries.ensures.same in
    let fits : FitKept (catalog_columns catalog) c.in_ok-kept.kept asked = subst (FitKept (catalog_columns catalog) c.in_ok-kept.kept) same c.in_ok-kept.ensures.fits in
    let folds : FitFolds (catalog_columns catalog) c.in_ok-kept.kept 0 asked c.in_ok-folds.folds =
    subst (λ qs. FitFolds (catalog_columns catalog) c.in_ok-kept.kept 0 qs c.in_ok-folds.folds) same
    (subst (λ kept. FitFolds (catalog_columns catalog) kept 0 (questions_of catalog sentences) c.in_ok-folds.folds) (sym c.in_ok-kept.ensures.value) c.in_ok-folds.ensures.fits) in
    let queries : length c.in_ok-queries.queries ≡ length sentences =
    sym (length-map c.in_ok-queries.queries question_of) ∙ (ap length (sym same) ∙ question_each (map heading_of catalog) sentences) in
    let headers : length c.in_ok-headers.headers ≡ length sentences = ap length c.in_ok-headers.ensures ∙ header_each (map heading_of catalog) sentences in
    record {
      headers = c.in_ok-headers.ensures;
      kept = c.in_ok-kept.ensures.value;
      folds = c.in_ok-folds.ensures.value;
      plan = record { fits = fits; few = subst (All (λ (q : Question). length q.vars ≤ 6)) same (few_each (map heading_of catalog) sentences c.in_ok-queries.ensures.asked) };
      fit_folds = fold_queries (catalog_columns catalog) c.in_ok-kept.kept c.in_ok-folds.folds asked fits.queries folds;
      many = headers ∙ sym queries;
      few = omega (arith, queries, c.requires.few);
      bounds = subst (All IsKept) (sym c.in_ok-kept.ensures.value) (all_narrow (map heading_of catalog) sentences c.in_ok-queries.ensures.faultless);
      keys = subst (All HasKeys) same (keys_each (map heading_of catalog) sentences c.in_ok-queries.ensures.asked);
    }
