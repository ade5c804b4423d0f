use Rattle.std.proofs.Common.{arith, ◌+◌}
use Rattle.master.proofs.Releases.{freed_more, gave_none_at, gave_then_at}
use Rattle.master.proofs.control.Control.free_roles.Goals as goal

pub free_role-requires-clause-fragment : goal.free_role-requires-clause-fragment
free_role-requires-clause-fragment g c = omega (arith, c.requires, c.loop-role.invariant.gives_up.size)

pub loop-role-preserved : goal.loop-role-preserved
loop-role-preserved g c = record {
  gives_up = gave_then_at c.args.fragment c.args.self.now c.loop-role.self c.free_role.new.self c.loop-role.invariant.gives_up c.free_role.ensures.gives_up;
  freed = freed_more c.args.fragment c.loop-role.role c.loop-role.self c.free_role.new.self c.free_role.ensures.gives_up c.loop-role.invariant.freed c.free_role.ensures.freed;
}
