-- Counts of drives that stand, call by call.
use Rattle.std.proofs.Common.{◌≡◌, ℕ, Bool, Option, Some, None, refl, ap, ◌∙◌}
use Rattle.heap_page.specs.Sources.{AreCalm}

none_some : (n : ℕ) → ◌≡◌ {A = Option ℕ} None (Some n) → ⊥
none_some n e = absurd cc

-- calls in turn: where the first one has an answer, no drive has failed in it
pub calm_then : {W : Type 0} (lone : W → Bool) (old now : W) (fault : Option ℕ) (before after later : ℕ → ℕ) → now ≡ old → AreCalm (lone old) None before after → AreCalm (lone now) fault after later → AreCalm (lone old) fault before later
calm_then lone old now fault before after later same first second = λ is d other. second (ap lone same ∙ is) d other ∙ first is d (none_some d)

-- no call yet
pub calm_start : (lone : Bool) (counts : ℕ → ℕ) → AreCalm lone None counts counts
calm_start lone counts = λ is d other. refl
