-- Comparisons and borrowed expressions without where they lie in memory.
use Rattle.std.specs.Prelude.{ℕ, Bool, List, is_some}
use Rattle.std.specs.List.{list_any}
use Rattle.std.specs.Borrow.{Bor}
use Rattle.plan_tree.specs.Keys.{key_of}
use Rattle.rel_meaning.specs.declared.expr.Expr.{Expr}
use Rattle.rel_meaning.specs.Expression.{Expression, expression_of}
use Rattle.seq_optimizer.specs.Bounds as bounds
use Rattle.seq_optimizer.specs.declared.bounds.Comparison.{Comparison}

abbrev pub compared_to : Comparison → bounds.Comparison
compared_to c = record { column = c.column; op = c.op; constant = expression_of c.constant.now }

abbrev pub expression_at : Bor Expr → Expression
expression_at e = expression_of e.now

-- whether one of these conjuncts is a key pair of two sets
abbrev pub has_key : (ℕ → Bool) → (ℕ → Bool) → List (Bor Expr) → Bool
has_key first second cs = list_any (λ e. is_some (key_of first second (expression_at e))) cs
