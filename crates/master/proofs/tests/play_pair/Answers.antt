use Rattle.std.proofs.Common.{◌≡◌, [], List, subst, sym, arith}
use Rattle.std.specs.List.{AllByRecursion}
use Rattle.plan_tree.specs.Pieces.{pieces_of}
use Rattle.plan_tree.specs.WellFormed.{AreWellFormed}
use Rattle.plan_tree.specs.declared.fragment.End.TheVariants as end
use Rattle.plan_tree.specs.declared.fragment.Fragment.{Fragment}
use Rattle.master.proofs.SampleRuns.{pair_ends, pair_formed}
use Rattle.master.proofs.tests.play_pair.Goals as goal

pub run-requires-clause-formed : goal.run-requires-clause-formed
run-requires-clause-formed g c =
    let a = c.scan_of-first.result in
    let b = c.scan_of-second.result in
    subst (λ (fs : List Fragment). AreWellFormed (pieces_of fs)) (sym c.in_ok-fragments.ensures) (pair_formed a.by_entries a.positions a.pages a.time b.by_entries b.positions b.pages b.time (record { positions = omega arith; pages = omega arith; some_time = c.scan_of-first.ensures; time = omega arith })
    (record { positions = omega arith; pages = omega arith; some_time = c.scan_of-second.ensures; time = omega arith }))

pub run-requires-clause-ends : goal.run-requires-clause-ends
run-requires-clause-ends g c =
    let a = c.scan_of-first.result in
    let b = c.scan_of-second.result in
    subst (λ (fs : List Fragment). AllByRecursion (λ (f : Fragment). f.end ≡ end.Build []) fs) (sym c.in_ok-fragments.ensures) (pair_ends a.by_entries a.positions a.pages a.time b.by_entries b.positions b.pages b.time)
