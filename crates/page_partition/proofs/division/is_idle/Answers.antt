use Rattle.std.proofs.Common.{◌≡◌, [], length, arith, ap, below_more}
use Rattle.std.proofs.lemmas.Bool.{false≢true}
use Rattle.std.proofs.lemmas.List.{nil_from_length}
use Rattle.page_partition.specs.Scan.{out_of}
use Rattle.page_partition.proofs.division.is_idle.Goals as goal

pub returns-then-len-gt0 : goal.returns-then-len-gt0
returns-then-len-gt0 g c = (
  λ h. absurd (false≢true h),
  λ idle. absurd (omega (arith, c.len.ensures.len, ap length c.out.ensures, ap length (idle c.loop-role.role (omega arith)))),
)

pub loop-role-preserved : goal.loop-role-preserved
loop-role-preserved g c =
    let here : out_of (g.V.Division.scan c.args.division.now).marks c.loop-role.role ≡ [] = nil_from_length _ (omega (arith, c.len.ensures.len, ap length c.out.ensures)) in
    below_more (λ r. out_of (g.V.Division.scan c.args.division.now).marks r ≡ []) c.loop-role.role c.loop-role.invariant here
