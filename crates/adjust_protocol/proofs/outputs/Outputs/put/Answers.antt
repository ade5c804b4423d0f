use Rattle.std.proofs.Common.{Some, set, ap, ◌∙◌}
use Rattle.std.proofs.lemmas.List.{map-set}
use Rattle.std.specs.Option.{option_map}
use Rattle.adjust_protocol.proofs.outputs.Outputs.put.Goals as goal

pub returns : goal.returns
returns g c = map-set (option_map (λ x. x.value)) c.self.inside.slots.items c.args.position (Some c.args.output) ∙ ap (λ m. set m c.args.position (Some c.args.output.value)) c.self.view_is
