use Rattle.std.proofs.Common.{◌<◌, arith, length, sym, ◌∙◌}
use Rattle.master.proofs.Releases.{gave_then_at, gave_uncollect, released_at}
use Rattle.master.proofs.control.Control.release_fragment.Goals as goal

pub returns-then-not-is_collecting-clause-released : goal.returns-then-not-is_collecting-clause-released
returns-then-not-is_collecting-clause-released g c =
    let now = c.free_roles.new.self in
    let lt : c.args.fragment < length now.slots = omega (arith, c.requires, c.free_roles.ensures.gives_up.size) in
    released_at now.slots c.args.fragment (c.is_calm.ensures.calm c.args.fragment lt) (sym c.is_collecting.ensures ∙ c.if-not-is_collecting.true) c.free_roles.ensures.freed

pub returns-clause-gives_up : goal.returns-clause-gives_up
returns-clause-gives_up g c =
    let now = c.free_roles.new.self in
    let lt : c.args.fragment < length now.slots = omega (arith, c.requires, c.free_roles.ensures.gives_up.size) in
    gave_then_at c.args.fragment c.args.self.now now c.uncollect.new.self c.free_roles.ensures.gives_up
    (gave_uncollect c.args.fragment now c.uncollect.new.self lt (c.is_calm.ensures.calm c.args.fragment lt) (sym c.is_collecting.ensures ∙ c.if-not-is_collecting.false) c.uncollect.ensures.events c.uncollect.ensures.slots c.free_roles.ensures.freed).0

pub returns-clause-released : goal.returns-clause-released
returns-clause-released g c =
    let now = c.free_roles.new.self in
    let lt : c.args.fragment < length now.slots = omega (arith, c.requires, c.free_roles.ensures.gives_up.size) in
    (gave_uncollect c.args.fragment now c.uncollect.new.self lt (c.is_calm.ensures.calm c.args.fragment lt) (sym c.is_collecting.ensures ∙ c.if-not-is_collecting.false) c.uncollect.ensures.events c.uncollect.ensures.slots c.free_roles.ensures.freed).1
