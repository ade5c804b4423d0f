-- Trees and plans without where they lie in memory.
use Rattle.std.specs.Prelude.{ℕ, map}
use Rattle.rel_meaning.specs.Expression.{expression_of, Question, question_of}
use Rattle.plan_tree.specs.declared.tree.Tree.{Tree, One, Scan, Join', Merge'}
use Rattle.plan_tree.specs.declared.tree.Plan.{Plan}
use Rattle.plan_tree.specs.declared.tree.Method.TheVariants as method
use Rattle.plan_tree.specs.Trees.{Shape, one, scan, join}

abbrev pub shape_of : Tree → Shape
shape_of (One tests) = one (map expression_of tests)
shape_of (Scan var way tests) = scan var way (map expression_of tests)
shape_of (Join' p build q probe keys tests) = join method.Hash (shape_of build) (shape_of probe) keys (map expression_of tests)
shape_of (Merge' p left q right keys tests) = join method.Merge (shape_of left) (shape_of right) keys (map expression_of tests)

pub record Planned : Type 0 where
  pub query : Question
  pub tree : Shape
  pub cost : ℕ

abbrev pub planned_of : Plan → Planned
planned_of plan = record { query = question_of plan.query; tree = shape_of plan.tree; cost = plan.cost }
