use Rattle.io_cpu_scheduler.proofs.choice.decide.Goals as goal

pub returns : goal.returns
returns c = rw (← c.items.ensures, ← c.items-2.ensures) c.decide_loads.ensures
