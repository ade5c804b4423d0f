-- Lists that go place by place.
use Rattle.std.proofs.Common.{◌≡◌, ◌⊎◌, ℕ, zero, suc, List, [], ◌∷◌, ◌++◌, length, Some, refl, sym, ap, subst, ◌∙◌, inl, inr, arith}
use Rattle.std.specs.Prelude.{slice_get}
use Rattle.buffer_pool.specs.Locks.{Each}

-- what stands at a place of a list with one more item
pub at_snoc : {A : Type 0} (xs : List A) (x : A) (k : ℕ) (y : A) → slice_get (xs ++ x ∷ []) k ≡ Some y → (slice_get xs k ≡ Some y) ⊎ ((k ≡ length xs) × (x ≡ y))
at_snoc [] x zero y e = let same : x ≡ y = cc in inr (refl, same)
at_snoc [] x (suc k) y e = absurd cc
at_snoc (z ∷ zs) x zero y e = inl e
at_snoc (z ∷ zs) x (suc k) y e = elim (at_snoc zs x k y e) [
  | inl old ↦ inl old
  | inr new ↦ inr (ap suc new.0, new.1)
]

pub last_at : {A : Type 0} (xs : List A) (x : A) → slice_get (xs ++ x ∷ []) (length xs) ≡ Some x
last_at [] x = refl
last_at (z ∷ zs) x = last_at zs x

pub earlier_at : {A : Type 0} (xs : List A) (x : A) (k : ℕ) (y : A) → slice_get xs k ≡ Some y → slice_get (xs ++ x ∷ []) k ≡ Some y
earlier_at [] x k y e = absurd cc
earlier_at (z ∷ zs) x zero y e = e
earlier_at (z ∷ zs) x (suc k) y e = earlier_at zs x k y e

-- what holds at each place of a list holds at each place of one with one more item
pub snoc_each : {A : Type 0} (xs xs' : List A) (x : A) (P : ℕ → A → Type 0) → xs' ≡ xs ++ x ∷ [] → ((k : ℕ) (y : A) → slice_get xs k ≡ Some y → P k y) → P (length xs) x → (k : ℕ) (y : A) → slice_get xs' k ≡ Some y → P k y
snoc_each xs xs' x P more old new k y at = elim (at_snoc xs x k y (ap (λ l. slice_get l k) (sym more) ∙ at)) [
  | inl before ↦ old k y before
  | inr last ↦ subst (λ z. P k z) last.1 (subst (λ n. P n x) (sym last.0) new)
]

module _ {X Y : Type 0} (P : X → Y → Type 0) where
  pub each_first : (xs : List X) (ys : List Y) (x : X) (xs' : List X) (y : Y) (ys' : List Y) → xs ≡ x ∷ xs' → ys ≡ y ∷ ys' → Each P xs ys → P x y × Each P xs' ys'
  each_first xs ys x xs' y ys' p q e = subst (λ l. Each P l (y ∷ ys')) p (subst (λ l. Each P xs l) q e)

  each_snoc : (xs : List X) (ys : List Y) (x : X) (y : Y) → Each P xs ys → P x y → Each P (xs ++ x ∷ []) (ys ++ y ∷ [])
  each_snoc [] [] x y e h = (h, tt)
  each_snoc [] (w ∷ ws) x y e h = absurd e
  each_snoc (z ∷ zs) [] x y e h = absurd e
  each_snoc (z ∷ zs) (w ∷ ws) x y e h = (e.0, each_snoc zs ws x y e.1 h)

  pub each_more : (xs xs' : List X) (ys ys' : List Y) (x : X) (y : Y) → Each P xs ys → P x y → xs' ≡ xs ++ x ∷ [] → ys' ≡ ys ++ y ∷ [] → Each P xs' ys'
  each_more xs xs' ys ys' x y e h p q = subst (λ l. Each P l ys') (sym p) (subst (λ l. Each P (xs ++ x ∷ []) l) (sym q) (each_snoc xs ys x y e h))

  pub each_both : (xs xs' : List X) (ys ys' : List Y) → Each P xs ys → Each P xs' ys' → Each P (xs ++ xs') (ys ++ ys')
  each_both [] xs' [] ys' e f = f
  each_both [] xs' (w ∷ ws) ys' e f = absurd e
  each_both (z ∷ zs) xs' [] ys' e f = absurd e
  each_both (z ∷ zs) xs' (w ∷ ws) ys' e f = (e.0, each_both zs xs' ws ys' e.1 f)

  pub each_length : (xs : List X) (ys : List Y) → Each P xs ys → length ys ≡ length xs
  each_length [] [] e = refl
  each_length [] (w ∷ ws) e = absurd e
  each_length (z ∷ zs) [] e = absurd e
  each_length (z ∷ zs) (w ∷ ws) e = ap suc (each_length zs ws e.1)

  pub each_at : (xs : List X) (ys : List Y) → Each P xs ys → (k : ℕ) (x : X) (y : Y) → slice_get xs k ≡ Some x → slice_get ys k ≡ Some y → P x y
  each_at [] ys e k x y p q = absurd cc
  each_at (z ∷ zs) [] e k x y p q = absurd e
  each_at (z ∷ zs) (w ∷ ws) e zero x y p q = let a : z ≡ x = cc in let b : w ≡ y = cc in subst (λ v. P v y) a (subst (λ v. P z v) b e.0)
  each_at (z ∷ zs) (w ∷ ws) e (suc k) x y p q = each_at zs ws e.1 k x y p q

  pub each_from : (xs : List X) (ys : List Y) → length ys ≡ length xs → ((k : ℕ) (x : X) (y : Y) → slice_get xs k ≡ Some x → slice_get ys k ≡ Some y → P x y) → Each P xs ys
  each_from [] [] e f = tt
  each_from [] (w ∷ ws) e f = absurd (omega arith)
  each_from (z ∷ zs) [] e f = absurd (omega arith)
  each_from (z ∷ zs) (w ∷ ws) e f = (f zero z w refl refl, each_from zs ws (omega arith) (λ k x y p q. f (suc k) x y p q))

pub each_same : {X : Type 0} (P : X → X → Type 0) (xs : List X) → ((x : X) → P x x) → Each P xs xs
each_same P [] h = tt
each_same P (x ∷ xs) h = (h x, each_same P xs h)
