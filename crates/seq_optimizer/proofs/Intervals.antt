-- The intervals of a tree that fits the stats.
use Rattle.std.proofs.Common.{◌≡◌, subst, ℕ, zero, suc, List, [], ◌∷◌, Option, Some, None}
use Rattle.std.specs.Prelude.{All, IfSome}
use Rattle.std.proofs.lemmas.List.Elements.{All-head, All-tail}
use Rattle.rows.specs.declared.plain.Interval.{Interval}
use Rattle.plan_tree.specs.declared.tree.Way.TheVariants as way
use Rattle.plan_tree.specs.Trees.{Shape, join, one, scan}
use Rattle.seq_optimizer.specs.declared.stats.VarStats.{VarStats}
use Rattle.seq_optimizer.specs.Costs.{FitsStats, HasIntervals, IsInterval}
use Rattle.seq_optimizer.specs.Estimates.{stats_at}

interval_held : (stats : List VarStats) → All (λ s. IfSome s.interval IsInterval) stats → (v : ℕ) (i : Interval) → (stats_at stats v).interval ≡ Some i → IsInterval i
interval_held [] h v i e = let never : None ≡ Some i = e in absurd cc
interval_held (s ∷ ss) h zero i e = subst (λ (o : Option Interval). IfSome o IsInterval) e (All-head (λ (t : VarStats). IfSome t.interval IsInterval) s ss h)
interval_held (s ∷ ss) h (suc v) i e = interval_held ss (All-tail (λ (t : VarStats). IfSome t.interval IsInterval) s ss h) v i e

-- a tree that fits the stats has their intervals
pub fits_intervals : (stats : List VarStats) → All (λ s. IfSome s.interval IsInterval) stats → (t : Shape) → FitsStats stats t → HasIntervals t
fits_intervals stats h (one tests) fits = tt
fits_intervals stats h (scan v way.Heap tests) fits = tt
fits_intervals stats h (scan v (way.Index i) tests) fits = interval_held stats h v i fits
fits_intervals stats h (join kind a b keys tests) fits = (fits_intervals stats h a fits.0, fits_intervals stats h b fits.1)
