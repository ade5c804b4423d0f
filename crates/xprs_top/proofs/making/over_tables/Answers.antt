use Rattle.xprs_top.proofs.making.over_tables.Goals as goal

pub returns-in-Ok-clause-made : goal.returns-in-Ok-clause-made
returns-in-Ok-clause-made g c = c.on_drives.ensures.made (g.K.Rack.faults c.args.rack.now) (g.K.Rack.faults c.mount.new.self)
