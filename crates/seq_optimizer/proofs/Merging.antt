-- Whether a join has a key pair, by its conjuncts.
use Rattle.std.proofs.Common.{◌≡◌, ℕ, Bool, ◌||◌, cond, List, [], ◌∷◌, Option, Some, None, refl, map, is_some}
use Rattle.std.specs.Borrow.{Bor}
use Rattle.rel_meaning.specs.declared.expr.Expr.{Expr}
use Rattle.rows.specs.declared.plain.KeyPair.{KeyPair}
use Rattle.plan_tree.specs.declared.tree.Method.TheVariants.{Hash, Merge}
use Rattle.plan_tree.specs.Keys.{key_of, keys_of, with_key}
use Rattle.plan_tree.specs.Trees.{method_at}
use Rattle.seq_optimizer.specs.Compared.{expression_at, has_key}

one_more : (o : Option KeyPair) (keys : List KeyPair) (b : Bool) → method_at Merge keys ≡ cond b Merge Hash → method_at Merge (with_key o keys) ≡ cond (is_some o || b) Merge Hash
one_more None keys b h = h
one_more (Some key) keys b h = refl

pub merge_at : (first second : ℕ → Bool) (es : List (Bor Expr)) → method_at Merge (keys_of first second (map expression_at es)) ≡ cond (has_key first second es) Merge Hash
merge_at first second [] = refl
merge_at first second (e ∷ es) = one_more (key_of first second (expression_at e)) (keys_of first second (map expression_at es)) (has_key first second es) (merge_at first second es)
