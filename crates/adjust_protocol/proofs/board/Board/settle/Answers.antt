use Rattle.std.proofs.Common.{List, Option, get_or}
use Rattle.page_partition.specs.Marks.{places_bound}
use Rattle.page_partition.specs.Scan.{is_out}
use Rattle.adjust_protocol.specs.Outputs.{put_outputs, IsFilled}
use Rattle.std.proofs.Common.{◌≡◌, ◌<◌, ◌≤◌, length, ap, ◌∙◌, sym, subst, arith}
use Rattle.adjust_protocol.specs.Moves.{Running, Rule, Makes}
use Rattle.adjust_protocol.specs.Steps.{IsRule}
use Rattle.adjust_protocol.specs.Filled.{filled_settles, filled_length, running_of}
use Rattle.page_partition.specs.Scan.{out_of}
use Rattle.adjust_protocol.specs.Answers.{settle_moves, SettleFront}
use Rattle.adjust_protocol.proofs.board.Board.settle.Goals as goal

pub overflow_cast-count : goal.overflow_cast-count
overflow_cast-count g c = omega (arith, c.min-count.ensures, c.len-2.ensures.most)

pub put_all-requires-clause-within : goal.put_all-requires-clause-within
put_all-requires-clause-within g c k h =
    let few = subst (λ (z : Running). length c.args.outputs ≤ length (out_of z.scan.marks c.args.role)) (sym (running_of c.self.inside.turns c.self.inside.outputs _ c.self.view_is)) c.requires.count in
    let b = places_bound (is_out c.args.role) 0 c.self.inside.turns.scan.marks k 0 (omega arith) in
    let l = filled_length c.self.inside.outputs c.self.inside.turns.scan.marks c.self.invariant in
    subst (λ ps. get_or ps k 0 < length c.self.inside.outputs) (sym c.out-batch.ensures) (omega arith)

pub invariant_of-self : goal.invariant_of-self
invariant_of-self g c =
    let rule : Rule = record { redivided = g.V.Division.redivided; cut = g.V.Division.cut } in
    let laws : IsRule rule = record { deposits_kept = g.met.V.Division.deposits_kept; positions_kept = g.met.V.Division.positions_kept; none_out = g.met.V.Division.none_out; named = g.met.V.Division.named } in
    let few = subst (λ (z : Running). length c.args.outputs ≤ length (out_of z.scan.marks c.args.role)) (sym (running_of c.self.inside.turns c.self.inside.outputs _ c.self.view_is)) c.requires.count in
    let count : c.min-count.result ≡ length c.args.outputs = omega (arith, c.min-count.ensures, c.len.ensures, c.len-2.ensures.len, ap length c.out-batch.ensures) in
    subst (λ (z : List (Option g.row.T.Denot)). IsFilled z c.settle.new.self.scan.marks) (sym (c.put_all.ensures ∙ ap (λ ps. put_outputs ps c.args.outputs c.self.inside.outputs) c.out-batch.ensures))
    (filled_settles rule laws c.args.role c.self.inside.turns.asked c.args.outputs c.settle.result c.self.inside.turns c.settle.new.self c.self.inside.outputs
    (subst (λ n. Makes rule 64 c.self.inside.turns (settle_moves c.self.inside.turns.asked c.args.role n c.settle.result) c.settle.new.self) count c.settle.ensures.moves) c.self.invariant)

pub returns-clause-moves : goal.returns-clause-moves
returns-clause-moves g c =
    let rule : Rule = record { redivided = g.V.Division.redivided; cut = g.V.Division.cut } in
    let few = subst (λ (z : Running). length c.args.outputs ≤ length (out_of z.scan.marks c.args.role)) (sym (running_of c.self.inside.turns c.self.inside.outputs _ c.self.view_is)) c.requires.count in
    let count : c.min-count.result ≡ length c.args.outputs = omega (arith, c.min-count.ensures, c.len.ensures, c.len-2.ensures.len, ap length c.out-batch.ensures) in
    subst (λ (z : Running). Makes rule 64 z (settle_moves z.asked c.args.role (length c.args.outputs) c.settle.result) c.settle.new.self) (running_of c.self.inside.turns c.self.inside.outputs _ c.self.view_is)
    (subst (λ n. Makes rule 64 c.self.inside.turns (settle_moves c.self.inside.turns.asked c.args.role n c.settle.result) c.settle.new.self) count c.settle.ensures.moves)

pub returns-clause-front : goal.returns-clause-front
returns-clause-front g c =
    let few = subst (λ (z : Running). length c.args.outputs ≤ length (out_of z.scan.marks c.args.role)) (sym (running_of c.self.inside.turns c.self.inside.outputs _ c.self.view_is)) c.requires.count in
    let count : c.min-count.result ≡ length c.args.outputs = omega (arith, c.min-count.ensures, c.len.ensures, c.len-2.ensures.len, ap length c.out-batch.ensures) in
    subst (λ (z : Running). SettleFront z c.settle.new.self c.args.role (length c.args.outputs) c.settle.result) (running_of c.self.inside.turns c.self.inside.outputs _ c.self.view_is)
    (subst (λ n. SettleFront c.self.inside.turns c.settle.new.self c.args.role n c.settle.result) count c.settle.ensures.front)
