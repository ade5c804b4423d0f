-- One more row, and the draws that it takes.
use native.Mathlib.Omega.{arith}
use Rattle.std.proofs.Common.{◌≡◌, ◌∙◌, ◌++◌, ◌+◌, ◌*◌, ℕ, List, ap, sym, append_assoc, add-one}
use Rattle.generated_input.specs.Draws.{next_state, state_after}
use Rattle.generated_input.specs.Generated.{department_line, department_lines, employee_line, employee_lines}

pub after_one : (s n : ℕ) → state_after s (n + 1) ≡ next_state (state_after s n)
after_one s n = ap (state_after s) (add-one n)

double : (n : ℕ) → 2 * (n + 1) ≡ (2 * n + 1) + 1
double n = omega arith

pub after_two : (s n : ℕ) → state_after s (2 * (n + 1)) ≡ next_state (next_state (state_after s (2 * n)))
after_two s n = ap (state_after s) (double n) ∙ after_one s (2 * n + 1) ∙ ap next_state (after_one s (2 * n))

pub department_step : (s n state : ℕ) (head out new : List ℕ) → out ≡ head ++ department_lines s n → state ≡ state_after s n → new ≡ out ++ department_line state n → new ≡ head ++ department_lines s (n + 1)
department_step s n state head out new so is made =
    made ∙ ap (λ (xs : List ℕ). xs ++ department_line state n) so
    ∙ append_assoc head (department_lines s n) (department_line state n)
    ∙ ap (λ (x : ℕ). head ++ (department_lines s n ++ department_line x n)) is
    ∙ ap (λ (m : ℕ). head ++ department_lines s m) (sym (add-one n))

pub employee_step : (s depts n state : ℕ) (head out new : List ℕ) → out ≡ head ++ employee_lines s depts n → state ≡ state_after s (2 * n) → new ≡ out ++ employee_line state depts n → new ≡ head ++ employee_lines s depts (n + 1)
employee_step s depts n state head out new so is made =
    made ∙ ap (λ (xs : List ℕ). xs ++ employee_line state depts n) so
    ∙ append_assoc head (employee_lines s depts n) (employee_line state depts n)
    ∙ ap (λ (x : ℕ). head ++ (employee_lines s depts n ++ employee_line x depts n)) is
    ∙ ap (λ (m : ℕ). head ++ employee_lines s depts m) (sym (add-one n))
