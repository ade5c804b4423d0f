use Rattle.std.proofs.Common.{◌≡◌, ◌++◌, subst}
use Rattle.master.specs.Answers.{NextAnswer, next_events}
use Rattle.master.specs.declared.next.Next.{Next}
use Rattle.engine.proofs.Seated.{can_claim}
use Rattle.engine.proofs.lone.next_alone.Goals as goal

pub returns-in-Job-clause-ok : goal.returns-in-Job-clause-ok
returns-in-Job-clause-ok g c =
    let m = g.K.RunName.meaning in
    let old = c.args.control.now in
    let new = c.next_job.new.self in
    let job = subst (λ (n : Next). NextAnswer m old new n) c.in-Job.is c.in_ok-fragment.ensures.answer in
    let log = subst (λ (n : Next). new.log ≡ old.log ++ next_events c.args.backend n) c.in-Job.is c.in_ok-fragment.ensures.events in
    record { job = job; can = can_claim m old new c.args.backend c.in-Job.fragment c.in-Job.role _ c.is_calm.ensures.fits c.next_job.ensures.fits c.requires job log }
