-- What the code reads off a conjunct, and off the estimates of the variables of a set.
use Rattle.std.specs.Prelude.{◌≡◌, ℕ, ◌^◌, ◌==◌, List, length, min}
use Rattle.std.specs.List.{list_any}
use Rattle.rows.specs.declared.plain.ColumnRef.{ColumnRef}
use Rattle.plan_tree.specs.Keys.{Equality}
use Rattle.seq_optimizer.specs.Estimates.{last_of, product_of}
use Rattle.seq_optimizer.specs.declared.estimates.Factors.{Factors}

pub record IsFactors (ns : List ℕ) (f : Factors) : Type 0 where
  pub count : f.count ≡ length ns
  pub last : f.last ≡ last_of ns
  pub product : f.product ≡ min (product_of ns) (2 ^ 120)
  pub is_empty : f.is_empty ≡ list_any (λ n. n == 0) ns

-- the two columns of an equality
abbrev pub equality_as : ColumnRef × ColumnRef → Equality
equality_as e = record { left = e.0; right = e.1 }
