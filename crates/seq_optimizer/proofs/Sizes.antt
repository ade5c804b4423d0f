-- Estimates as the code finds them.
use Rattle.std.proofs.Common.{◌≡◌, ◌∙◌, sym, refl, ap, arith, ℕ, zero, suc, ◌+◌, ◌*◌, ◌^◌, ◌<◌, ◌≤◌, min, Bool, true, false, not, ◌&&◌, cond, List, [], ◌∷◌, ◌++◌, map, filter, fold, length, append-nil, take, set, get_or}
use Rattle.std.specs.List.{range_with_len}
use Rattle.std.proofs.lemmas.List.{map-id, map-append, take_more_set}
use Rattle.std.proofs.lemmas.List.Elements.{filter-append}
use Rattle.std.proofs.lemmas.List.FromFn.{get_or-map-range_with_len, length-map-range_with_len, map-range_with_len_more}
use Rattle.std.proofs.Math.Nat.{pow-suc, pow-zero, mul-le-mul}
use Rattle.rel_meaning.specs.Expression.{Expression}
use Rattle.seq_optimizer.specs.Bounds.{is_fixing}
use Rattle.seq_optimizer.specs.Estimates.{divided, divided_if, divisor, factor_of, is_alone, is_fixing_alone, is_joining, is_other_alone, narrowed, set_size, size_at, sizes_below, variable_sizes}
use Rattle.seq_optimizer.specs.declared.stats.VarStats.{VarStats}
use Rattle.seq_optimizer.specs.Sets.{in_set}
use Rattle.seq_optimizer.specs.Tables.{all_sizes}
use Rattle.seq_optimizer.proofs.Caps.{cap_times}

pos : (n a : ℕ) → 1 ≤ n → 1 ≤ n ^ a
pos n zero h = let one : n ^ 0 ≡ 1 = pow-zero n in omega arith
pos n (suc a) h = let one : 1 * 1 ≤ n ^ a * n = mul-le-mul (pos n a h) h in rw (pow-suc n a) (omega arith)

abbrev pub fixing : ℕ → List Expression → ℕ
fixing v cs = length (filter (is_fixing_alone v) cs)

abbrev pub others : ℕ → List Expression → ℕ
others v cs = length (filter (is_other_alone v) cs)

powers : (v : ℕ) (c : Expression) (cs : List Expression) → 10 ^ fixing v (c ∷ cs) * 3 ^ others v (c ∷ cs) ≡ factor_of v c * (10 ^ fixing v cs * 3 ^ others v cs)
powers v c cs = by (is_alone v c) (is_fixing c) where
  by : (a f : Bool) → 10 ^ length (cond (a && f) (c ∷ filter (is_fixing_alone v) cs) (filter (is_fixing_alone v) cs)) * 3 ^ length (cond (a && not f) (c ∷ filter (is_other_alone v) cs) (filter (is_other_alone v) cs))
      ≡ cond a (cond f 10 3) 1 * (10 ^ fixing v cs * 3 ^ others v cs)
  by true true = rw (pow-suc 10 (fixing v cs)) (omega arith)
  by true false = rw (pow-suc 3 (others v cs)) (omega arith)
  by false f = omega arith

-- a divisor that is capped at each conjunct is the capped product of all
narrowed_all : (v by : ℕ) (cs : List Expression) → by ≤ 2 ^ 64 → fold (narrowed v) by cs ≡ min (by * (10 ^ fixing v cs * 3 ^ others v cs)) (2 ^ 64)
narrowed_all v by [] h = omega arith
narrowed_all v by (c ∷ cs) h =
    let next : narrowed v by c ≤ 2 ^ 64 = omega arith in
    let rest : min (min (by * factor_of v c) (2 ^ 64) * (10 ^ fixing v cs * 3 ^ others v cs)) (2 ^ 64) ≡ min (by * factor_of v c * (10 ^ fixing v cs * 3 ^ others v cs)) (2 ^ 64) =
    cap_times (2 ^ 64) (by * factor_of v c) (10 ^ fixing v cs * 3 ^ others v cs) in
    let whole = powers v c cs in
    let same : by * factor_of v c * (10 ^ fixing v cs * 3 ^ others v cs) ≡ by * (factor_of v c * (10 ^ fixing v cs * 3 ^ others v cs)) = omega arith in
    narrowed_all v (narrowed v by c) cs next ∙ rest ∙ ap (λ (n : ℕ). min n (2 ^ 64)) (same ∙ ap (λ (n : ℕ). by * n) (sym whole))

pub divisor_is : (v : ℕ) (cs : List Expression) → fold (narrowed v) 1 cs ≡ divisor (fixing v cs) (others v cs)
divisor_is v cs = narrowed_all v 1 cs (omega arith) ∙ ap (λ (n : ℕ). min n (2 ^ 64)) (let one : 1 * (10 ^ fixing v cs * 3 ^ others v cs) ≡ 10 ^ fixing v cs * 3 ^ others v cs = omega arith in one)

-- only the conjuncts that pass count
pub divided_all : (set : ℕ → Bool) (sizes : List ℕ) (n : ℕ) (cs : List Expression) → fold (divided_if set sizes) n cs ≡ fold (divided sizes) n (filter (is_joining set (length sizes)) cs)
divided_all set sizes n [] = refl
divided_all set sizes n (c ∷ cs) = by (is_joining set (length sizes) c) (λ (m : ℕ). divided_all set sizes m cs) where
  by : (b : Bool) → ((m : ℕ) → fold (divided_if set sizes) m cs ≡ fold (divided sizes) m (filter (is_joining set (length sizes)) cs))
      → fold (divided_if set sizes) (cond b (divided sizes n c) n) cs ≡ fold (divided sizes) n (cond b (c ∷ filter (is_joining set (length sizes)) cs) (filter (is_joining set (length sizes)) cs))
  by true rest = rest (divided sizes n c)
  by false rest = rest n

range_more : (n : ℕ) → range_with_len 0 (n + 1) ≡ range_with_len 0 n ++ n ∷ []
range_more n = sym (map-id (range_with_len 0 (n + 1))) ∙ map-range_with_len_more (λ (k : ℕ). k) 0 n n (omega arith) ∙ ap (λ ks. ks ++ n ∷ []) (map-id (range_with_len 0 n))

kept_more : (set : ℕ → Bool) (n : ℕ) → filter set (range_with_len 0 (n + 1)) ≡ filter set (range_with_len 0 n) ++ cond (set n) (n ∷ []) []
kept_more set n = ap (filter set) (range_more n) ∙ filter-append set (range_with_len 0 n) (n ∷ [])

-- one more place
pub below_more : (set : ℕ → Bool) (sizes : List ℕ) (n : ℕ) → sizes_below set sizes (n + 1) ≡ cond (set n) (sizes_below set sizes n ++ size_at sizes n ∷ []) (sizes_below set sizes n)
below_more set sizes n = ap (map (size_at sizes)) (kept_more set n) ∙ by (set n) where
  by : (b : Bool) → map (size_at sizes) (filter set (range_with_len 0 n) ++ cond b (n ∷ []) []) ≡ cond b (sizes_below set sizes n ++ size_at sizes n ∷ []) (sizes_below set sizes n)
  by true = map-append (size_at sizes) (filter set (range_with_len 0 n)) (n ∷ [])
  by false = ap (map (size_at sizes)) (append-nil (filter set (range_with_len 0 n)))

-- a divisor isn't 0
pub divisor_some : (a b : ℕ) → 0 < divisor a b
divisor_some a b =
    let one : 1 * 1 ≤ 10 ^ a * 3 ^ b = mul-le-mul (let p : 1 ≤ 10 ^ a = pos 10 a (omega arith) in p) (let q : 1 ≤ 3 ^ b = pos 3 b (omega arith) in q) in
    omega arith

-- one more variable has its estimate
pub filled_more : (f : ℕ → ℕ) (xs : List ℕ) (i y : ℕ) → i < length xs → take i xs ≡ map f (range_with_len 0 i) → y ≡ f i → take (i + 1) (set xs i y) ≡ map f (range_with_len 0 (i + 1))
filled_more f xs i y lt before e =
    take_more_set xs i y lt ∙ ap (λ ys. ys ++ y ∷ []) before ∙ ap (λ (z : ℕ). map f (range_with_len 0 i) ++ z ∷ []) e ∙ sym (map-range_with_len_more f 0 i i (omega arith))

-- the estimate of a set, read at its number
pub size_read : (cs : List Expression) (stats : List VarStats) (sizes : List ℕ) (i : ℕ) → sizes ≡ all_sizes cs stats → i < 2 ^ length stats → get_or sizes i 0 ≡ set_size cs (variable_sizes cs stats) (in_set i)
size_read cs stats sizes i is lt = ap (λ ns. get_or ns i 0) is ∙ get_or-map-range_with_len (λ (s : ℕ). set_size cs (variable_sizes cs stats) (in_set s)) 0 (2 ^ length stats) i i 0 lt (omega arith)

pub sizes_many : (cs : List Expression) (stats : List VarStats) (sizes : List ℕ) → sizes ≡ all_sizes cs stats → length sizes ≡ 2 ^ length stats
sizes_many cs stats sizes is = ap length is ∙ length-map-range_with_len (λ (s : ℕ). set_size cs (variable_sizes cs stats) (in_set s)) 0 (2 ^ length stats)
