-- What loads, machines and steps may be.
use Rattle.std.specs.Prelude.{◌≤◌, ◌^◌}
use Rattle.rows.specs.declared.plain.Machine.{Machine}
use Rattle.rows.specs.declared.plain.Step.{Step}
use Rattle.io_cpu_scheduler.specs.declared.load.Load.{Load}

-- at most 2^40 pages, and a time from 1 to 2^40
pub record IsLoad (load : Load) : Type 0 where
  pub pages : load.pages ≤ 2 ^ 40
  pub some_time : 1 ≤ load.time
  pub time : load.time ≤ 2 ^ 40

-- 1 to 64 backends, 1 to 16 drives, and 1 to 64 positions claimed at once
pub record IsMachine (machine : Machine) : Type 0 where
  pub some_backend : 1 ≤ machine.backends
  pub backends : machine.backends ≤ 64
  pub some_drive : 1 ≤ machine.drives
  pub drives : machine.drives ≤ 16
  pub some_batch : 1 ≤ machine.batch
  pub batch : machine.batch ≤ 64

-- 1 to 64 backends from some finish on
pub record IsStep (step : Step) : Type 0 where
  pub some_backend : 1 ≤ step.backends
  pub backends : step.backends ≤ 64
