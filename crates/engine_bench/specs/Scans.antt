-- Fragments that are scans of pages.
use Rattle.std.specs.Prelude.{ℕ, ◌≡◌}
use Rattle.plan_tree.specs.WellFormed.{IsTimed}
use Rattle.plan_tree.specs.declared.fragment.Fragment.{Fragment}
use Rattle.master.specs.SampleRuns.{sample_pages}

-- a scan of pages that takes some time
pub record IsScan (f : Fragment) : Type 0 where
  pub positions : ℕ
  pub time : ℕ
  pub is : f ≡ sample_pages 0 positions time
  pub timed : IsTimed positions time
