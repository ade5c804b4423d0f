use Rattle.std.proofs.Common.{◌≡◌, rules}
use Rattle.aggregate_op.specs.Joined.{merged}
use Rattle.aggregate_op.proofs.Halves.{of_both}
use Rattle.aggregate_op.proofs.partials.merge.Goals as goal

pub returns : goal.returns
returns c = λ a b p q.
    (let e : c.from_vec.result ≡ merged c.args.fold.now c.args.left.now c.args.right.now = search rules in
    of_both c.args.fold.now a b c.args.left.now c.args.right.now c.from_vec.result p q e)
