-- Answers behind one another.
use Rattle.std.proofs.Common.{◌≡◌, List, [], ◌∷◌, ◌++◌, map, flat_map, refl, ap, ℕ, Bool, true, false, ◌||◌, true≢false, sym, ◌∙◌, Ok, Err, Result, IfOk}
use Rattle.xprs_top.specs.declared.answering.Shown.{Shown}
use Rattle.xprs_top.specs.Answers.{answer_of, answers_bytes, next_answer}
use Rattle.xprs_top.specs.Shown.{answer_by}

pub flat_map-map : {X Y : Type 0} (f : Y → List ℕ) (g : X → Y) (xs : List X) → flat_map (λ x. f (g x)) xs ≡ flat_map f (map g xs)
flat_map-map f g [] = refl
flat_map-map f g (x ∷ xs) = ap (λ (ys : List ℕ). f (g x) ++ ys) (flat_map-map f g xs)

pub or_right : (a b : Bool) → (a || b) ≡ false → b ≡ false
or_right true b e = absurd (true≢false e)
or_right false b e = e

pub joined : (answers rest : List Shown) (first : Shown) (text bytes : List ℕ) → answers ≡ first ∷ rest → text ≡ answer_of (answer_by first) → bytes ≡ text ++ flat_map (λ a. next_answer (answer_by a)) rest →
    bytes ≡ answers_bytes (map answer_by answers)
joined answers rest first text bytes parts begins e =
    e ∙ (ap (λ (xs : List ℕ). xs ++ flat_map (λ a. next_answer (answer_by a)) rest) begins ∙ (ap (λ (xs : List ℕ). answer_of (answer_by first) ++ xs) (flat_map-map next_answer answer_by rest) ∙ ap (λ (all : List Shown). answers_bytes (map answer_by all)) (sym parts)))

pub if_ok_map : {X E : Type 0} (r : Result X E) (P Q : X → Type 0) → ((x : X) → P x → Q x) → IfOk r P → IfOk r Q
if_ok_map (Ok x) P Q f h = f x h
if_ok_map (Err e) P Q f h = tt
