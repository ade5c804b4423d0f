use Rattle.std.proofs.Common.{◌≡◌, ℕ, zero, suc, ◌<◌, ◌≤◌, List, [], ◌∷◌, length, map, Option, Some, None, refl, ap, arith, slice_get, get_or}
use Rattle.plan_tree.specs.declared.fragment.Probe.{Probe}
use Rattle.plan_tree.specs.Inputs.{probe_inputs}
use Rattle.plan_tree.specs.Pieces.{probing_of}
use Rattle.plan_tree.proofs.fragment.probe_input.Goals as goal

some_at : (probes : List Probe) (n : ℕ) (probe : Probe) → n < length probes → probe ≡ get_or probes n probe → Some probe.input ≡ slice_get (probe_inputs (map probing_of probes)) n
some_at [] n probe less is = absurd (omega arith)
some_at (p ∷ ps) zero probe less is = ap (λ (q : Probe). Some q.input) is
some_at (p ∷ ps) (suc n) probe less is = some_at ps n probe (omega arith) is

none_at : (probes : List Probe) (n : ℕ) → length probes ≤ n → ◌≡◌ {A = Option ℕ} None (slice_get (probe_inputs (map probing_of probes)) n)
none_at [] n more = refl
none_at (p ∷ ps) zero more = absurd (omega arith)
none_at (p ∷ ps) (suc n) more = none_at ps n (omega arith)

pub returns-in-Some : goal.returns-in-Some
returns-in-Some c = let h = c.in-Some.ensures.lookup in some_at c.args.probes.now c.args.place c.in-Some.probe.now h.3.0 (h.3.1 c.in-Some.probe.now)

pub returns-in-None : goal.returns-in-None
returns-in-None c = let h = c.in-None.ensures.lookup in none_at c.args.probes.now c.args.place h.3
