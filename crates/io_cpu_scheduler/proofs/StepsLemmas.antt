-- The last step that is due, one step further.
use Rattle.std.proofs.Common.{◌≡◌, refl, arith, ℕ, ◌+◌, ◌<◌, ◌≤◌, true, false, List, [], ◌∷◌, ◌++◌, Option, Some, None, length, get_or, take, nat_le}
use Rattle.std.specs.List.{filter, last_or}
use Rattle.std.proofs.lemmas.Bool.Decides.{nat_tests}
use Rattle.std.proofs.lemmas.List.{append-nil}
use Rattle.std.proofs.lemmas.List.Elements.{filter_more}
use Rattle.rows.specs.declared.plain.Step.{Step}
use Rattle.io_cpu_scheduler.specs.Steps.{step_at}

last_push : (o : Option Step) (ss : List Step) (s : Step) → last_or o (ss ++ s ∷ []) ≡ Some s
last_push o [] s = refl
last_push o (x ∷ xs) s = last_push (Some x) xs s

due : (x y : ℕ) → x ≤ y → nat_le x y ≡ true
due x y h = grind (arith, nat_tests)

not_due : (x y : ℕ) → y < x → nat_le x y ≡ false
not_due x y h = grind (arith, nat_tests)

pub takes_step : (ss : List Step) (i n : ℕ) (d : Step) → i < length ss → (get_or ss i d).after ≤ n → Some (get_or ss i d) ≡ step_at (take (i + 1) ss) n
takes_step ss i n d less h = rw (filter_more (λ (s : Step). nat_le s.after n) ss i d less, due _ _ h, last_push None (filter (λ (s : Step). nat_le s.after n) (take i ss)) (get_or ss i d)) refl

pub skips_step : (ss : List Step) (i n : ℕ) (d : Step) → i < length ss → n < (get_or ss i d).after → step_at (take i ss) n ≡ step_at (take (i + 1) ss) n
skips_step ss i n d less h = rw (filter_more (λ (s : Step). nat_le s.after n) ss i d less, not_due _ _ h, append-nil (filter (λ (s : Step). nat_le s.after n) (take i ss))) refl
