-- What was cut of the statements so far.
use Rattle.std.proofs.Common.{◌≡◌, ℕ, zero, suc, ◌+◌, ◌*◌, ◌<◌, ◌≤◌, List, [], ◌∷◌, ◌++◌, length, map, Some, refl, sym, ap, ◌∙◌, subst, arith, lit≤, drop, append_assoc, length-append, slice_get}
use Rattle.std.specs.Prelude.{⊤, slice_index_or, All}
use Rattle.std.proofs.lemmas.List.{append-nil, length-map}
use Rattle.rows.specs.declared.plain.LayoutColumn.{LayoutColumn}
use Rattle.plan_tree.specs.Pieces.{Piece}
use Rattle.plan_tree.specs.Views.{Planned}
use Rattle.seq_optimizer.specs.declared.stats.VarStats.{VarStats}
use Rattle.kept_answers.specs.KeptAnswers.{columns_behind, kept_of}
use Rattle.fragments.specs.Homes.{Known}
use Rattle.fragments.specs.Cuts.{cut_query, cut_tree, facts_of}
use Rattle.fragments.specs.Opened.{fragment_count}
use Rattle.fragments.specs.Premises.{MayCut, catalog_columns}
use Rattle.fragments.specs.Scripts.{cut_from, cut_plans, facts_next, last_next}
use Rattle.seq_optimizer.specs.Costs.{CanPlan}
use Rattle.fragments.proofs.Counts.{cut_length}
use Rattle.fragments.proofs.Drops.{drop_get}
use Rattle.fragments.proofs.Standing.{or_at}
use Rattle.fragments.proofs.Steps.{AreReady, Ready, all_ready}

-- the plans before a place were cut into these fragments, and those from it on may be cut
pub record SoFar (known : Known) (table : List (List VarStats)) (ps : List Planned) (lasts : List ℕ) (pieces : List Piece) (place : ℕ) : Type 0 where
  pub columns : List (List LayoutColumn)
  pub ready : AreReady known table lasts columns (length pieces) (drop place ps)
  pub rest : pieces ++ cut_from known table lasts (length pieces) (drop place ps) ≡ cut_plans known table ps
  pub count : length lasts ≡ place
  pub room : length pieces ≤ 11 * place

module _ (known : Known) (table : List (List VarStats)) (ps : List Planned) where
  pub none_yet : MayCut known table ps → SoFar known table ps [] [] 0
  none_yet may = record { columns = catalog_columns known; ready = all_ready known table ps may; rest = refl; count = refl; room = lit≤ tt }

  module _ (lasts : List ℕ) (pieces : List Piece) (place : ℕ) (p : Planned) (at : slice_get ps place ≡ Some p) (so : SoFar known table ps lasts pieces place) where
    pub ready_here : Ready known table lasts so.columns p
    ready_here = (subst (AreReady known table lasts so.columns (length pieces)) (drop_get ps place p at) so.ready).0

    pub stats_here : (stats : List VarStats) → slice_get table place ≡ Some stats → slice_index_or table (length lasts) [] ≡ stats
    stats_here stats h = or_at table (length lasts) stats [] (ap (slice_get table) so.count ∙ h)

    pub plan_here : (stats : List VarStats) → slice_get table place ≡ Some stats → CanPlan p.query stats
    plan_here stats h = subst (CanPlan p.query) (stats_here stats h) ready_here.plan.plan

    pub facts_here : (others : List ℕ) (stats : List VarStats) → others ≡ lasts → slice_get table place ≡ Some stats → facts_of known others p.query stats ≡ facts_next known table lasts p
    facts_here others stats e h = let s = sym (stats_here stats h) in λ i. facts_of known (e i) p.query (s i)

    -- and now of this one too
    pub one_more : (last : ℕ) (after : List Piece) → last ≡ last_next known table lasts (length pieces) p → after ≡ pieces ++ cut_query (facts_next known table lasts p) (length pieces) p.query p.tree →
        fragment_count p.tree ≤ 11 → SoFar known table ps (lasts ++ last ∷ []) after (place + 1)
    one_more last after is more few =
        let facts = facts_next known table lasts p in
        let cut = cut_query facts (length pieces) p.query p.tree in
        let here = last_next known table lasts (length pieces) p in
        let tail = drop (place + 1) ps in
        let step = drop_get ps place p at in
        let long : length after ≡ here + 1 = ap length more ∙ length-append pieces cut ∙ ap (λ k. length pieces + k) (length-append (cut_tree facts (length pieces) p.tree).before _) ∙ omega arith in
        let all = subst (AreReady known table lasts so.columns (length pieces)) step so.ready in
        let rest : pieces ++ (cut ++ cut_from known table (lasts ++ here ∷ []) (here + 1) tail) ≡ cut_plans known table ps = ap (λ xs. pieces ++ cut_from known table lasts (length pieces) xs) (sym step) ∙ so.rest in
        record {
          columns = columns_behind so.columns (kept_of known.kept (length lasts));
          ready = subst (λ n. AreReady known table (lasts ++ last ∷ []) (columns_behind so.columns (kept_of known.kept (length lasts))) n tail) (sym long)
              (subst (λ k. AreReady known table (lasts ++ k ∷ []) (columns_behind so.columns (kept_of known.kept (length lasts))) (here + 1) tail) (sym is) all.1);
          rest = (λ i. more i ++ cut_from known table (lasts ++ is i ∷ []) (long i) tail) ∙ append_assoc pieces cut (cut_from known table (lasts ++ here ∷ []) (here + 1) tail) ∙ rest;
          count = length-append lasts (last ∷ []) ∙ ap (λ k. k + 1) so.count;
          room = (let l = cut_length facts (length pieces) p.tree in omega (arith, few, so.room, long, l));
        }

  pub all_cut : (lasts : List ℕ) (pieces : List Piece) (place : ℕ) → length ps ≤ place → SoFar known table ps lasts pieces place → pieces ≡ cut_plans known table ps
  all_cut lasts pieces place past so =
      sym (append-nil pieces) ∙ ap (λ xs. pieces ++ cut_from known table lasts (length pieces) xs) (sym (drop_past ps place past)) ∙ so.rest
    where
      drop_past : {X : Type 0} (xs : List X) (n : ℕ) → length xs ≤ n → drop n xs ≡ []
      drop_past [] zero h = refl
      drop_past [] (suc n) h = refl
      drop_past (x ∷ xs) zero h = absurd (omega arith)
      drop_past (x ∷ xs) (suc n) h = drop_past xs n (omega arith)
