-- Going over borrowed conjuncts.
use Rattle.std.proofs.Common.{◌≡◌, ◌∙◌, refl, ap, ℕ, Bool, cond, filter, Some, None, ◌+◌, ◌<◌, List, [], ◌∷◌, ◌++◌, map, take, get_or, length, Option}
use Rattle.std.specs.Prelude.{All}
use Rattle.std.specs.Borrow.{Bor}
use Rattle.std.specs.List.{filter_map}
use Rattle.std.proofs.lemmas.List.{map-append, take_more}
use Rattle.std.proofs.lemmas.List.Elements.{All-nil, All-cons, All-head, All-tail, filter-append, filter_map-append}
use Rattle.rel_meaning.specs.declared.expr.Expr.{Expr}
use Rattle.rel_meaning.specs.Expression.{Expression}
use Rattle.rows.specs.declared.plain.KeyPair.{KeyPair}
use Rattle.plan_tree.specs.Keys.{key_of, keys_of, with_key}
use Rattle.seq_optimizer.specs.Compared.{expression_at}

-- one more conjunct
pub walk_more : (items : List (Bor Expr)) (i : ℕ) (d : Bor Expr) → i < length items → map expression_at (take (i + 1) items) ≡ map expression_at (take i items) ++ expression_at (get_or items i d) ∷ []
walk_more items i d lt = ap (map expression_at) (take_more items i d lt) ∙ map-append expression_at (take i items) (get_or items i d ∷ [])

pub filter_map_more : {B : Type 0} → (f : Expression → Option B) (items : List (Bor Expr)) (i : ℕ) (d : Bor Expr) → i < length items →
    filter_map f (map expression_at (take (i + 1) items)) ≡ filter_map f (map expression_at (take i items)) ++ filter_map f (expression_at (get_or items i d) ∷ [])
filter_map_more f items i d lt = ap (filter_map f) (walk_more items i d lt) ∙ filter_map-append f (map expression_at (take i items)) (expression_at (get_or items i d) ∷ [])

all_mapped : (P : Expression → Type 0) (items : List (Bor Expr)) → All P (map expression_at items) → All (λ e. P (expression_at e)) items
all_mapped P [] h = All-nil (λ e. P (expression_at e))
all_mapped P (e ∷ es) h = All-cons (λ e. P (expression_at e)) e es (All-head P (expression_at e) (map expression_at es) h) (all_mapped P es (All-tail P (expression_at e) (map expression_at es) h))

-- what holds of each conjunct holds of the one at a place
pub at_walk : (P : Expression → Type 0) (items : List (Bor Expr)) (i : ℕ) (d : Bor Expr) → All P (map expression_at items) → i < length items → P (expression_at (get_or items i d))
at_walk P items i d h lt = all_mapped P items h i d lt

pub filter_more : (p : Expression → Bool) (items : List (Bor Expr)) (i : ℕ) (d : Bor Expr) → i < length items →
    filter p (map expression_at (take (i + 1) items)) ≡ filter p (map expression_at (take i items)) ++ cond (p (expression_at (get_or items i d))) (expression_at (get_or items i d) ∷ []) []
filter_more p items i d lt = ap (filter p) (walk_more items i d lt) ∙ filter-append p (map expression_at (take i items)) (expression_at (get_or items i d) ∷ [])

keys_push : (first second : ℕ → Bool) (cs : List Expression) (c : Expression) → keys_of first second (cs ++ c ∷ []) ≡ keys_of first second cs ++ with_key (key_of first second c) []
keys_push first second [] c = refl
keys_push first second (b ∷ cs) c = by (key_of first second b) (keys_push first second cs c) where
  by : (o : Option KeyPair) → keys_of first second (cs ++ c ∷ []) ≡ keys_of first second cs ++ with_key (key_of first second c) []
      → with_key o (keys_of first second (cs ++ c ∷ [])) ≡ with_key o (keys_of first second cs) ++ with_key (key_of first second c) []
  by None h = h
  by (Some key) h = ap (λ keys. key ∷ keys) h

pub keys_more : (first second : ℕ → Bool) (items : List (Bor Expr)) (i : ℕ) (d : Bor Expr) → i < length items →
    keys_of first second (map expression_at (take (i + 1) items)) ≡ keys_of first second (map expression_at (take i items)) ++ with_key (key_of first second (expression_at (get_or items i d))) []
keys_more first second items i d lt = ap (keys_of first second) (walk_more items i d lt) ∙ keys_push first second (map expression_at (take i items)) (expression_at (get_or items i d))
