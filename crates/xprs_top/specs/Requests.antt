-- What the words ask of a run on one thread.
use Rattle.std.specs.Prelude.{◌≡◌, ℕ, List, Option, Some, None, Result, Ok, Err, if◌then◌else◌, ⊤}
use Rattle.command_words.specs.Forms as words
use Rattle.command_words.specs.Forms.{Asked, Files, form_of}
use Rattle.command_words.specs.declared.request.JoinMethod.{JoinMethod}
use Rattle.command_words.specs.declared.request.JoinMethod.TheVariants as join
use Rattle.command_words.specs.declared.request.Machine.{Machine as Wanted}
use Rattle.io_cpu_scheduler.specs.Limits.{IsMachine}
use Rattle.plan_tree.specs.declared.tree.Method.{Method}
use Rattle.plan_tree.specs.declared.tree.Method.TheVariants as method
use Rattle.rows.specs.declared.plain.Machine.{Machine}
use Rattle.xprs_top.specs.declared.goal.Aim.{Aim}
use Rattle.xprs_top.specs.declared.goal.Aim.TheVariants.{Print, Make}
use Rattle.xprs_top.specs.declared.goal.Goal.TheVariants.{Answers, Plans}
use Rattle.xprs_top.specs.declared.status.Status.{Status}
use Rattle.xprs_top.specs.declared.status.Status.TheVariants.{NoMemory, NotBuilt, Usage}
use Rattle.xprs_top.specs.declared.status.Unbuilt.TheVariants.{Generation, Trace}
use Rattle.xprs_top.specs.declared.words.Operands.{Operands}

-- what is made of a script, and the names of the catalogue's file and of the script's
pub record Request : Type 0 where
  pub aim : Aim
  pub catalog : List ℕ
  pub script : List ℕ

abbrev pub request_of : Operands → Request
request_of o = record { aim = o.aim; catalog = o.catalog.now; script = o.script.now }

-- what the words ask for, or the status of words that ask for nothing that this call does
abbrev pub Form : Type 0
Form = Result Request Status

abbrev pub method_of : JoinMethod → Method
method_of join.Hash = method.Hash
method_of join.Merge = method.Merge

abbrev pub answers_machine : Wanted → Machine
answers_machine m = record { backends = m.backends; drives = m.drives; batch = m.batch }

-- plans are for eight positions claimed at once
abbrev pub plans_machine : ℕ → ℕ → Machine
plans_machine backends drives = record { backends = backends; drives = drives; batch = 8 }

abbrev pub to_make : Aim → Files → Form
to_make aim files = Ok (record { aim = aim; catalog = files.catalog; script = files.script })

-- `run` is for another call; `gen` and a trace aren't built yet
abbrev pub served : Asked → Form
served (words.run job) = Err Usage
served (words.alone job) =
    if job.is_traced then Err (NotBuilt Trace) else to_make (Make Answers (answers_machine job.machine)) job.files
served (words.explain plans) =
    to_make (Make (Plans (method_of plans.join)) (plans_machine plans.backends plans.drives)) plans.files
served (words.check files) = to_make Print files
served (words.gen made) = Err (NotBuilt Generation)

abbrev pub served_if : Option Asked → Form
served_if None = Err Usage
served_if (Some asked) = served asked

-- what these words ask for
unfoldable pub asked_by : List (List ℕ) → Form
asked_by given = served_if (form_of given)

-- how many drives are mounted
abbrev pub drives_for : Aim → ℕ
drives_for Print = 0
drives_for (Make goal machine) = machine.drives

-- where something is made of the tables, the machine is within its limits: 1 to 64 backends, 1 to 16 drives, and 1 to 64
-- positions claimed at once
abbrev pub HasMachine : Aim → Type 0
HasMachine Print = ⊤
HasMachine (Make goal machine) = IsMachine machine

-- what was read of the words is what they ask for
abbrev pub IsServed : Form → Result Operands Status → Type 0
IsServed form (Ok operands) = form ≡ Ok (request_of operands)
IsServed form (Err Usage) = form ≡ Err Usage
IsServed form (Err (NotBuilt what)) = form ≡ Err (NotBuilt what)
IsServed form (Err other) = ⊥

-- the same, or want of memory
abbrev pub IsAsked : Form → Result Operands Status → Type 0
IsAsked form (Err NoMemory) = ⊤
IsAsked form found = IsServed form found
