-- The cost of a join from those of its sides.
use Rattle.std.proofs.Common.{◌≡◌, ◌∙◌, refl, ℕ, ◌+◌, ◌||◌, Bool, List, min}
use Rattle.std.specs.Int.Bits.{bit_or}
use Rattle.rel_meaning.specs.Expression.{Expression}
use Rattle.rows.specs.declared.plain.KeyPair.{KeyPair}
use Rattle.plan_tree.specs.declared.tree.Method.{Method}
use Rattle.plan_tree.specs.Trees.{Shape, has, join}
use Rattle.seq_optimizer.specs.declared.stats.VarStats.{VarStats}
use Rattle.seq_optimizer.specs.declared.costs.Costed.{Costed}
use Rattle.seq_optimizer.specs.Costed.{IsCosted}
use Rattle.seq_optimizer.specs.Costs.{step_cost}
use Rattle.seq_optimizer.specs.Estimates.{limit, set_size, variable_sizes}
use Rattle.seq_optimizer.specs.Sets.{in_set}
use Rattle.seq_optimizer.proofs.Sets.{either_set}

-- the variables of both sides
pub both_set : (x y : ℕ) (f g : ℕ → Bool) → in_set x ≡ f → in_set y ≡ g → in_set (bit_or x y) ≡ (λ v. f v || g v)
both_set x y f g p q = either_set x y ∙ (λ i v. p i v || q i v)

pub join_costed : (cs : List Expression) (stats : List VarStats) (sizes : List ℕ) → sizes ≡ variable_sizes cs stats → (kind : Method) (a b : Shape) (x y : Costed) → IsCosted cs stats a x → IsCosted cs stats b y → (keys : List KeyPair) (tests : List Expression) (price : ℕ)
    → price ≡ min (x.cost + y.cost + step_cost kind (set_size cs sizes (in_set x.set)) (set_size cs sizes (in_set y.set)) (set_size cs sizes (in_set (bit_or x.set y.set)))) limit
    → IsCosted cs stats (join kind a b keys tests) (record { cost = price; set = bit_or x.set y.set })
join_costed cs stats sizes is kind a b x y h k keys tests price e =
    let both = both_set x.set y.set (has a) (has b) h.set k.set in
    record {
      cost = e ∙ rw (is, h.cost, k.cost, h.set, k.set, both) refl;
      set = both;
    }
