-- What one worker alone finds.
use Rattle.std.specs.Prelude.{ℕ, ◌<◌, ◌≡◌, true, List, [], length, map, reverse, None}
use Rattle.rows.specs.declared.value.Value.{Value}
use Rattle.hash_join.specs.Table.{Table}
use Rattle.page_partition.specs.Scan.{left_of, out_of}
use Rattle.adjust_protocol.specs.Moves.{Running, is_held}
use Rattle.master.specs.Answers.{AllFinished, IsCollect, IsJob}
use Rattle.master.specs.Ledger.{Ledger, scans}
use Rattle.master.specs.Meaning.{Meaning, run_of}
use Rattle.engine.specs.declared.lone.Todo.{Todo}
use Rattle.engine.specs.declared.lone.Todo.TheVariants as todo

-- the role is held and has nothing out, no degree is pending, and something is left for it
pub record CanClaim (s : Running) (role : ℕ) : Type 0 where
  pub held : is_held s role ≡ true
  pub idle : out_of s.scan.marks role ≡ []
  pub calm : s.asked ≡ None
  pub left : 0 < length (left_of s.scan.marks role)

-- a role is seated, and can claim
pub record IsLoneJob (m : Meaning) (old new : Ledger) (f role : ℕ) (found : List Table) : Type 0 where
  pub job : IsJob old new f role found
  pub can : CanClaim (scans new.slots f) role

-- a fragment is collected, whose outputs are all there
pub record IsLoneCollect (m : Meaning) (old new : Ledger) (f : ℕ) (parts : List (List (List Value))) : Type 0 where
  pub collect : IsCollect m old new f parts
  pub collecting : (scans new.slots f).collecting ≡ true

-- what one worker alone finds: a role that can claim, a fragment whose scan is done, or that all is finished
abbrev pub FindsAlone : Meaning → Ledger → Ledger → Todo → Type 0
FindsAlone m old new (todo.Job f role inputs) = IsLoneJob m old new f role (map (λ x. x.value) inputs)
FindsAlone m old new (todo.Collect f parts) = IsLoneCollect m old new f parts
FindsAlone m old new todo.Stop = AllFinished (run_of m) (reverse new.log)
