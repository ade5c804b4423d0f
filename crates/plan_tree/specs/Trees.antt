-- The trees of a query.
use Rattle.std.specs.Prelude.{◌≡◌, ℕ, ◌+◌, Bool, true, false, ◌==◌, nat_lt, not, ◌&&◌, ◌||◌, List, [], ◌∷◌, length, filter, ⊤}
use Rattle.lists.specs.Arranged.{one_if}
use Rattle.rows.specs.declared.plain.KeyPair.{KeyPair}
use Rattle.rel_meaning.specs.Expression.{Expression, Question}
use Rattle.plan_tree.specs.declared.tree.Way.{Way}
use Rattle.plan_tree.specs.declared.tree.Method.{Method}
use Rattle.plan_tree.specs.declared.tree.Method.TheVariants.{Hash, Merge}
use Rattle.plan_tree.specs.Conjuncts.{is_within, names_none, conjuncts}
use Rattle.plan_tree.specs.Keys.{key_of, keys_of, no_key}

-- a tree without where it lies in memory: the one empty row, the scan of a variable, or two joined trees, the build side or left side first
pub data Shape : Type 0 where
  one : List Expression → Shape
  scan : ℕ → Way → List Expression → Shape
  join : Method → Shape → Shape → List KeyPair → List Expression → Shape

-- whether a variable is scanned
abbrev pub has : Shape → ℕ → Bool
has (one tests) v = false
has (scan var way tests) v = var == v
has (join method a b keys tests) v = has a v || has b v

-- how often a variable is scanned
abbrev pub scans : Shape → ℕ → ℕ
scans (one tests) v = 0
scans (scan var way tests) v = one_if (v == var)
scans (join method a b keys tests) v = scans b v + scans a v

-- a conjunct that names a variable, and only variables of these
abbrev pub is_inside : (ℕ → Bool) → Expression → Bool
is_inside vars c = is_within vars c && not (names_none c)

-- the tests of a scan: the conjuncts that name its variable alone, and at the root those that name nothing
abbrev pub is_scan_test : Bool → (ℕ → Bool) → Expression → Bool
is_scan_test root vars c = is_inside vars c || (root && names_none c)

abbrev pub scan_tests : Bool → (ℕ → Bool) → List Expression → List Expression
scan_tests root vars cs = filter (is_scan_test root vars) cs

-- the tests of a join: the conjuncts that name variables of both sides and no others and are no key pair, and at the root those that name nothing
abbrev pub is_join_test : Bool → (ℕ → Bool) → (ℕ → Bool) → Expression → Bool
is_join_test root first second c =
    (is_inside (λ v. first v || second v) c && not (is_inside first c) && not (is_inside second c) && no_key (key_of first second c)) || (root && names_none c)

abbrev pub join_tests : Bool → (ℕ → Bool) → (ℕ → Bool) → List Expression → List Expression
join_tests root first second cs = filter (is_join_test root first second) cs

-- each conjunct stands at its node, in the order of the text, and no others do
abbrev pub IsPlaced : List Expression → Bool → Shape → Type 0
IsPlaced cs true (one tests) = tests ≡ cs
IsPlaced cs false (one tests) = ⊥
IsPlaced cs root (scan var way tests) = tests ≡ scan_tests root (λ v. var == v) cs
IsPlaced cs root (join method a b keys tests) =
    IsPlaced cs false a × IsPlaced cs false b × (keys ≡ keys_of (has a) (has b) cs) × (tests ≡ join_tests root (has a) (has b) cs)

-- under `Merge` a join with a key pair is a merge, and every other join is one by hashing
abbrev pub method_at : Method → List KeyPair → Method
method_at Hash keys = Hash
method_at Merge [] = Hash
method_at Merge (key ∷ keys) = Merge

abbrev pub HasMethods : Method → Shape → Type 0
HasMethods m (one tests) = ⊤
HasMethods m (scan var way tests) = ⊤
HasMethods m (join method a b keys tests) = HasMethods m a × HasMethods m b × (method ≡ method_at m keys)

-- a tree of a set of variables: it scans each of them once and no other, and each conjunct that these variables decide stands at its node; those that name nothing stand at the root of the whole
pub record IsTreeOf (cs : List Expression) (m : Method) (root : Bool) (set : ℕ → Bool) (t : Shape) : Type 0 where
  pub once : (v : ℕ) → scans t v ≡ one_if (set v)
  pub placed : IsPlaced cs root t
  pub methods : HasMethods m t

-- the variables of a query
abbrev pub is_variable : Question → ℕ → Bool
is_variable q v = nat_lt v (length q.vars)

-- a tree of a query under a method
abbrev pub IsTree : Question → Method → Shape → Type 0
IsTree q m t = IsTreeOf (conjuncts q.test) m true (is_variable q) t

-- a tree of a query under some method
abbrev pub IsAnyTree : Question → Shape → Type 0
IsAnyTree q t = (m : Method) × IsTree q m t
