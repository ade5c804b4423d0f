use Rattle.std.proofs.Common.{◌≡◌, ◌∙◌, sym, subst, ap, length, drop, take, ◌++◌, arith, Err}
use Rattle.table_store.specs.Databases.{AllFresh}
use Rattle.heap_page.specs.Stores.{AreQuiet, AreRead, fetch_fault}
use Rattle.heap_page.proofs.Drives.{quiet_trans}
use Rattle.xprs_top.specs.Counts.{NoOtherFailed, named_drive}
use Rattle.xprs_top.specs.declared.goal.Goal.TheVariants.{Plans}
use Rattle.xprs_top.specs.Devices.{Makes}
use Rattle.xprs_top.specs.Inputs.{read_of}
use Rattle.xprs_top.specs.Readings.{over}
use Rattle.xprs_top.proofs.Counts.{fresh_stay, named_by, named_plans, named_store}
use Rattle.xprs_top.proofs.Devices.{lay_made, whole_slice}
use Rattle.xprs_top.proofs.Explained.{counted, made_plans, may_cut, stands}
use Rattle.xprs_top.proofs.explaining.explained.Goals as goal

pub returns-in-Err-clause-made : goal.returns-in-Err-clause-made
returns-in-Err-clause-made g c = λ before now.
    let olds = c.as_mut_slice.result.now in
    let mids = c.lay_counted.new.drives in
    let count : length olds ≡ c.args.machine.now.drives = ap length c.as_mut_slice.ensures.value ∙ c.requires.count in
    let fresh : AllFresh g.D.Drive olds = rw c.as_mut_slice.ensures.value c.requires.fresh in
    let same : c.args.drives.len ≡ length mids = omega (arith, c.in-Err.ensures.kept.len, count, c.requires.count, c.args.drives.ok) in
    let job = over (Plans c.args.method) c.args.machine.now (read_of c.args.checked.now) c.args.db in
    subst (λ ds. Makes g.D.Drive job before now ds (Err c.from.result)) (sym (whole_slice c.args.drives.len mids (drop (length mids) c.args.drives.items) same))
    (subst (λ s. Makes g.D.Drive job before now mids (Err s)) (sym c.from.ensures)
    (lay_made g.D.Drive (read_of c.args.checked.now) c.args.db c.args.machine.now before now (Plans c.args.method) olds mids c.in-Err.error count fresh c.in-Err.ensures.kept c.in-Err.ensures.err))

pub plan_queries-plans-requires-clause-stands : goal.plan_queries-plans-requires-clause-stands
plan_queries-plans-requires-clause-stands g c =
    let olds = c.as_mut_slice.result.now in
    let count : length olds ≡ c.args.machine.now.drives = ap length c.as_mut_slice.ensures.value ∙ c.requires.count in
    let all : length olds ≡ c.args.drives.len = omega (arith, count, c.requires.count, c.args.drives.ok) in
    stands g.D.Drive c.args.checked.now.catalog c.args.db olds c.lay_counted.new.drives c.in-Ok.counted.laid c.as_slice.result.now c.args.drives.len c.in-Ok.ensures.laid c.requires.answerable.stored all
    (c.as_slice.ensures.value ∙ c.in-Ok.ensures.rows)

pub plan_queries-plans-requires-clause-room : goal.plan_queries-plans-requires-clause-room
plan_queries-plans-requires-clause-room g c =
    let olds = c.as_mut_slice.result.now in
    let mids = c.lay_counted.new.drives in
    let count : length olds ≡ c.args.machine.now.drives = ap length c.as_mut_slice.ensures.value ∙ c.requires.count in
    let same : c.args.drives.len ≡ length mids = omega (arith, c.in-Ok.ensures.kept.len, count, c.requires.count, c.args.drives.ok) in
    rw (whole_slice c.args.drives.len mids (drop (length mids) c.args.drives.items) same) c.in-Ok.ensures.laid.room

pub plan_queries-plans-requires-clause-queries : goal.plan_queries-plans-requires-clause-queries
plan_queries-plans-requires-clause-queries g c = rw c.items-queries.ensures c.requires.answerable.serve.plan

pub plans_text-requires-clause-cut : goal.plans_text-requires-clause-cut
plans_text-requires-clause-cut g c =
    c.plan_queries-plans.ensures.cut (rw c.items-queries.ensures (may_cut c.args.checked.now.catalog c.args.db c.args.checked.now.read c.requires.answerable.stored c.requires.answerable.serve))

pub returns-clause-made : goal.returns-clause-made
returns-clause-made g c = λ before now.
    let olds = c.as_mut_slice.result.now in
    let mids = c.lay_counted.new.drives in
    let handed = take c.args.drives.len (mids ++ drop (length mids) c.args.drives.items) in
    let count : length olds ≡ c.args.machine.now.drives = ap length c.as_mut_slice.ensures.value ∙ c.requires.count in
    let fresh : AllFresh g.D.Drive olds = rw c.as_mut_slice.ensures.value c.requires.fresh in
    let same : c.args.drives.len ≡ length mids = omega (arith, c.in-Ok.ensures.kept.len, count, c.requires.count, c.args.drives.ok) in
    let whole : handed ≡ mids = whole_slice c.args.drives.len mids (drop (length mids) c.args.drives.items) same in
    let all : c.args.drives.len ≡ c.args.machine.now.drives = omega (arith, c.requires.count, c.args.drives.ok) in
    let rows = c.as_slice.result.now in
    let laid = c.in-Ok.counted.laid in
    let numbers = c.as_slice.ensures.value ∙ c.in-Ok.ensures.rows in
    made_plans g.D.Drive (read_of c.args.checked.now) c.args.db c.args.machine.now before now c.args.method olds mids c.plan_queries-plans.result.drives.items laid count fresh c.in-Ok.ensures.kept c.in-Ok.ensures.laid
    (rw (← whole) c.plan_queries-plans.ensures.read) rows (counted g.D.Drive c.args.checked.now.catalog c.args.db olds mids laid rows c.in-Ok.ensures.laid c.requires.answerable.stored c.args.machine.now.drives count numbers)
    c.plan_queries-plans.result.plans c.plans_text.result
    (rw (← whole, ← all, ← c.items-queries.ensures, ← c.requires.answerable.serve.kept) c.plan_queries-plans.ensures.plans)
    (rw (← whole, ← all) c.plan_queries-plans.ensures.accepted)
    (rw (← whole) c.plan_queries-plans.ensures.err) c.plans_text.ensures

pub returns-in-Err-clause-quiet : goal.returns-in-Err-clause-quiet
returns-in-Err-clause-quiet g c =
    let olds = c.as_mut_slice.result.now in
    let mids = c.lay_counted.new.drives in
    let count : length olds ≡ c.args.machine.now.drives = ap length c.as_mut_slice.ensures.value ∙ c.requires.count in
    let fresh : AllFresh g.D.Drive olds = rw c.as_mut_slice.ensures.value c.requires.fresh in
    let same : c.args.drives.len ≡ length mids = omega (arith, c.in-Err.ensures.kept.len, count, c.requires.count, c.args.drives.ok) in
    subst (λ ds. NoOtherFailed g.D.Drive (named_drive c.from.result) ds) (sym (whole_slice c.args.drives.len mids (drop (length mids) c.args.drives.items) same))
    (named_by g.D.Drive c.from.result _ mids (ap named_drive c.from.ensures ∙ named_store c.in-Err.error)
    (fresh_stay g.D.Drive _ olds mids c.in-Err.ensures.kept.len fresh c.in-Err.ensures.quiet))

pub returns-clause-quiet : goal.returns-clause-quiet
returns-clause-quiet g c =
    let olds = c.as_mut_slice.result.now in
    let mids = c.lay_counted.new.drives in
    let plans = c.plan_queries-plans.result.plans in
    let back = c.plan_queries-plans.result.drives.items in
    let count : length olds ≡ c.args.machine.now.drives = ap length c.as_mut_slice.ensures.value ∙ c.requires.count in
    let fresh : AllFresh g.D.Drive olds = rw c.as_mut_slice.ensures.value c.requires.fresh in
    let same : c.args.drives.len ≡ length mids = omega (arith, c.in-Ok.ensures.kept.len, count, c.requires.count, c.args.drives.ok) in
    let whole = whole_slice c.args.drives.len mids (drop (length mids) c.args.drives.items) same in
    let read : AreRead g.D.Drive mids back = rw (← whole) c.plan_queries-plans.ensures.read in
    let quiet : AreQuiet g.D.Drive (fetch_fault plans) mids back = rw (← whole) c.plan_queries-plans.ensures.quiet in
    subst (λ fault. NoOtherFailed g.D.Drive fault back) (sym (named_plans (read_of c.args.checked.now) c.in-Ok.counted.laid c.args.machine.now plans c.plans_text.result c.plans_text.ensures))
    (fresh_stay g.D.Drive (fetch_fault plans) olds back (read.len ∙ c.in-Ok.ensures.kept.len) fresh
    (quiet_trans g.D.Drive (fetch_fault plans) olds mids back c.in-Ok.ensures.kept.len c.in-Ok.ensures.quiet quiet))
