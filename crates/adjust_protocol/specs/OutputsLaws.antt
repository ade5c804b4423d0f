use Rattle.std.proofs.Common.{◌≡◌, ℕ, zero, suc, ◌+◌, ◌<◌, List, [], ◌∷◌, ◌++◌, Option, Some, None, map, replicate, take, get_or, length, refl, ap, sym, ◌∙◌, append-nil}
use Rattle.std.proofs.lemmas.List.{take_more, map-append}
use Rattle.std.specs.Option.{option_map}
use Rattle.adjust_protocol.specs.Outputs.{present}

pub map-replicate : {A B : Type 0} (f : A → B) (n : ℕ) (a : A) → map f (replicate n a) ≡ replicate n (f a)
map-replicate f zero a = refl
map-replicate f (suc n) a = ap (λ ys. f a ∷ ys) (map-replicate f n a)

present-append : {T : Type 0} (xs ys : List (Option T)) → present (xs ++ ys) ≡ present xs ++ present ys
present-append [] ys = refl
present-append (None ∷ xs) ys = present-append xs ys
present-append (Some x ∷ xs) ys = ap (λ zs. x ∷ zs) (present-append xs ys)

pub present_more : {A T : Type 0} (f : A → T) (xs : List (Option A)) (i : ℕ) (d : Option A) → i < length xs
    → present (map (option_map f) (take (i + 1) xs)) ≡ present (map (option_map f) (take i xs)) ++ present (option_map f (get_or xs i d) ∷ [])
present_more f xs i d h =
    ap (λ ys. present (map (option_map f) ys)) (take_more xs i d h) ∙ ap present (map-append (option_map f) (take i xs) (get_or xs i d ∷ []))
    ∙ present-append (map (option_map f) (take i xs)) (option_map f (get_or xs i d) ∷ [])

pub present_none : {A T : Type 0} (f : A → T) (xs : List (Option A)) (i : ℕ) (d : Option A) → i < length xs → get_or xs i d ≡ None
    → present (map (option_map f) (take (i + 1) xs)) ≡ present (map (option_map f) (take i xs))
present_none f xs i d h e = present_more f xs i d h ∙ ap (λ o. present (map (option_map f) (take i xs)) ++ present (option_map f o ∷ [])) e ∙ append-nil _

pub present_some : {A T : Type 0} (f : A → T) (xs : List (Option A)) (i : ℕ) (d : Option A) (x : A) → i < length xs → get_or xs i d ≡ Some x
    → present (map (option_map f) (take (i + 1) xs)) ≡ present (map (option_map f) (take i xs)) ++ f x ∷ []
present_some f xs i d x h e = present_more f xs i d h ∙ ap (λ o. present (map (option_map f) (take i xs)) ++ present (option_map f o ∷ [])) e

pub present_pushed : {A T : Type 0} (f : A → T) (old new : List A) (a b : A) (slots : List (Option A)) (i : ℕ) (d : Option A) → new ≡ old ++ a ∷ [] → f a ≡ f b → i < length slots → get_or slots i d ≡ Some b
    → map f old ≡ present (map (option_map f) (take i slots)) → map f new ≡ present (map (option_map f) (take (i + 1) slots))
present_pushed f old new a b slots i d pushed same h e before =
    ap (map f) pushed ∙ map-append f old (a ∷ []) ∙ ap (λ ys. ys ++ f a ∷ []) before ∙ ap (λ y. present (map (option_map f) (take i slots)) ++ y ∷ []) same ∙ sym (present_some f slots i d b h e)
