-- How many rows sets of range variables are taken to have. All divisions take the floor.
use Rattle.std.specs.Prelude.{ℕ, ◌*◌, ◌/◌, ◌^◌, Bool, not, ◌==◌, ◌&&◌, List, [], ◌∷◌, length, map, filter, min, max, slice_index_or, Option, Some, None, if◌then◌else◌, fold}
use Rattle.std.specs.List.{list_any, range_with_len}
use Rattle.rel_meaning.specs.Expression.{Expression}
use Rattle.plan_tree.specs.Conjuncts.{is_within, names_none}
use Rattle.plan_tree.specs.Keys.{Equality, equality_of}
use Rattle.plan_tree.specs.Trees.{is_inside}
use Rattle.seq_optimizer.specs.Bounds.{is_fixing}
use Rattle.seq_optimizer.specs.declared.stats.VarStats.{VarStats}

-- no estimate of two or more variables and no cost is above this
abbrev pub limit : ℕ
limit = 2 ^ 40

-- a conjunct that names a variable and no other
abbrev pub is_alone : ℕ → Expression → Bool
is_alone v c = is_inside (λ u. v == u) c

-- one that is a bound by `=`, and one that isn't
abbrev pub is_fixing_alone : ℕ → Expression → Bool
is_fixing_alone v c = is_alone v c && is_fixing c

abbrev pub is_other_alone : ℕ → Expression → Bool
is_other_alone v c = is_alone v c && not (is_fixing c)

-- a bound by `=` divides by 10, another conjunct by 3
abbrev pub divisor : ℕ → ℕ → ℕ
divisor fixing others = min (10 ^ fixing * 3 ^ others) (2 ^ 64)

abbrev pub reduced : ℕ → ℕ → ℕ
reduced rows by = if rows == 0 then 0 else max 1 (rows / by)

-- the estimate of one variable, from the rows of its relation and the conjuncts
abbrev pub variable_size : List Expression → ℕ → ℕ → ℕ
variable_size cs v rows = reduced rows (divisor (length (filter (is_fixing_alone v) cs)) (length (filter (is_other_alone v) cs)))

-- the stats of a variable; those that aren't there say nothing
abbrev pub stats_at : List VarStats → ℕ → VarStats
stats_at stats v = slice_index_or stats v (record { pages = 0; rows = 0; interval = None; height = 0 })

-- the estimate of each variable
abbrev pub variable_sizes : List Expression → List VarStats → List ℕ
variable_sizes cs stats = map (λ v. variable_size cs v (stats_at stats v).rows) (range_with_len 0 (length stats))

abbrev pub size_at : List ℕ → ℕ → ℕ
size_at sizes v = slice_index_or sizes v 0

-- the estimates of the variables of a set
abbrev pub sizes_in : (ℕ → Bool) → List ℕ → List ℕ
sizes_in set sizes = map (size_at sizes) (filter set (range_with_len 0 (length sizes)))

-- a conjunct that names two variables or more, all of them of the set
abbrev pub is_joining : (ℕ → Bool) → ℕ → Expression → Bool
is_joining set count c = is_within set c && not (names_none c) && not (list_any (λ v. is_alone v c) (range_with_len 0 count))

-- what such a conjunct divides by: an equality of two columns by the greater estimate of their variables, any other by 3
abbrev pub divisor_by : List ℕ → Option Equality → ℕ
divisor_by sizes None = 3
divisor_by sizes (Some e) = max 1 (max (size_at sizes e.left.var) (size_at sizes e.right.var))

abbrev pub divided : List ℕ → ℕ → Expression → ℕ
divided sizes n c = n / divisor_by sizes (equality_of c)

abbrev pub product_of : List ℕ → ℕ
product_of ns = fold (λ a n. a * n) 1 ns

-- the product of the variables' estimates, divided by each joining conjunct in turn
abbrev pub joined_size : List Expression → List ℕ → (ℕ → Bool) → List ℕ → ℕ
joined_size cs sizes set ns = fold (divided sizes) (min (product_of ns) (2 ^ 120)) (filter (is_joining set (length sizes)) cs)

abbrev pub several_size : List Expression → List ℕ → (ℕ → Bool) → List ℕ → ℕ
several_size cs sizes set ns = if list_any (λ n. n == 0) ns then 0 else max 1 (min (joined_size cs sizes set ns) limit)

-- the estimate of a set whose variables have the estimates ns: of one variable its own, and 1 of none
abbrev pub size_by : List Expression → List ℕ → (ℕ → Bool) → List ℕ → ℕ
size_by cs sizes set [] = 1
size_by cs sizes set (n ∷ []) = n
size_by cs sizes set (n ∷ m ∷ ns) = several_size cs sizes set (n ∷ m ∷ ns)

-- the estimate of a set of variables
abbrev pub set_size : List Expression → List ℕ → (ℕ → Bool) → ℕ
set_size cs sizes set = size_by cs sizes set (sizes_in set sizes)

-- what a conjunct makes the rows of a variable fewer by
abbrev pub factor_of : ℕ → Expression → ℕ
factor_of v c = if is_alone v c then (if is_fixing c then 10 else 3) else 1

-- one more conjunct in a divisor
abbrev pub narrowed : ℕ → ℕ → Expression → ℕ
narrowed v by c = min (by * factor_of v c) (2 ^ 64)

-- one more conjunct in the estimate of a set
abbrev pub divided_if : (ℕ → Bool) → List ℕ → ℕ → Expression → ℕ
divided_if set sizes n c = if is_joining set (length sizes) c then divided sizes n c else n

abbrev pub last_of : List ℕ → ℕ
last_of ns = fold (λ a n. n) 0 ns

-- the estimates of those variables of a set that stand before a place
abbrev pub sizes_below : (ℕ → Bool) → List ℕ → ℕ → List ℕ
sizes_below set sizes n = map (size_at sizes) (filter set (range_with_len 0 n))
