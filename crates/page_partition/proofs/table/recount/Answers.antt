use Rattle.std.proofs.Common.{◌≡◌, ℕ, ◌+◌, ◌-◌, ◌<◌, drop, get_or, subst, arith, sym, ◌∙◌}
use Rattle.std.proofs.lemmas.List.{length-set, length-drop, get_or_default}
use Rattle.page_partition.specs.declared.table.Mark.TheVariants.{Left}
use Rattle.page_partition.specs.declared.table.Role.{Role}
use Rattle.page_partition.specs.Scan.{is_left}
use Rattle.page_partition.specs.Table.{IsCounted}
use Rattle.page_partition.specs.Counted.{named_left, not_left, places_few, counted_skip, counted_set, table_of_counted}
use Rattle.page_partition.proofs.table.recount.Goals as goal

pub bounds-roles-role : goal.bounds-roles-role
bounds-roles-role c = let b = named_left c.args.marks.now (c.loop-p.p - 1) (Left 0) c.in-Left.role c.requires.named (omega arith) c.in-Left.is in omega (arith, c.loop-p.invariant.0)

pub bounds-roles-role-in-Left : goal.bounds-roles-role-in-Left
bounds-roles-role-in-Left c = let b = named_left c.args.marks.now (c.loop-p.p - 1) (Left 0) c.in-Left.role c.requires.named (omega arith) c.in-Left.is in omega (arith, c.loop-p.invariant.0)

pub bounds-roles-role-in-Left-2 : goal.bounds-roles-role-in-Left-2
bounds-roles-role-in-Left-2 c = let b = named_left c.args.marks.now (c.loop-p.p - 1) (Left 0) c.in-Left.role c.requires.named (omega arith) c.in-Left.is in omega (arith, c.loop-p.invariant.0)

pub overflow_add-roles : goal.overflow_add-roles
overflow_add-roles c =
    let b = named_left c.args.marks.now (c.loop-p.p - 1) (Left 0) c.in-Left.role c.requires.named (omega arith) c.in-Left.is in
    let s = c.loop-p.invariant.1 c.in-Left.role c.index-roles-role.result b in
    omega (arith, s.count, places_few (is_left c.in-Left.role) c.loop-p.p (drop c.loop-p.p c.args.marks.now), length-drop c.loop-p.p c.args.marks.now, c.requires.fits)

pub loop-p-preserved-in-Left : goal.loop-p-preserved-in-Left
loop-p-preserved-in-Left c =
    let b = named_left c.args.marks.now (c.loop-p.p - 1) (Left 0) c.in-Left.role c.requires.named (omega arith) c.in-Left.is in
    let e : (c.loop-p.p - 1) + 1 ≡ c.loop-p.p = omega arith in
    let y = get_or c.loop-p.roles c.in-Left.role c.index-roles-role.result in
    let before = subst (λ (p : ℕ). (r : ℕ) (d : Role) → r < 64 → IsCounted c.args.marks.now p r (get_or c.loop-p.roles r d)) (sym e) c.loop-p.invariant.1 in (
      length-set c.loop-p.roles c.in-Left.role _ ∙ c.loop-p.invariant.0,
      λ r d lt. rw c.new-in-Left.ensures (counted_set c.args.marks.now (c.loop-p.p - 1) c.in-Left.role c.loop-p.roles y d (omega arith) c.loop-p.invariant.0 b c.in-Left.is (get_or_default c.loop-p.roles c.in-Left.role c.index-roles-role.result y (omega (arith, c.loop-p.invariant.0))) before r lt),
    )

pub loop-p-preserved : goal.loop-p-preserved
loop-p-preserved c =
    let e : (c.loop-p.p - 1) + 1 ≡ c.loop-p.p = omega arith in (
      c.loop-p.invariant.0,
      λ r d lt. counted_skip c.args.marks.now (c.loop-p.p - 1) r (get_or c.loop-p.roles r d) (Left 0) (omega arith) (not_left r _ c.in_default.not-Left) (subst (λ (p : ℕ). IsCounted c.args.marks.now p r (get_or c.loop-p.roles r d)) (sym e) (c.loop-p.invariant.1 r d lt)),
    )

pub returns : goal.returns
returns c =
    let z : c.loop-p.p ≡ 0 = omega arith in
    table_of_counted c.args.marks.now c.loop-p.roles c.requires.fits c.requires.named c.loop-p.invariant.0 c.requires.idle
    (subst (λ (p : ℕ). (r : ℕ) (d : Role) → r < 64 → IsCounted c.args.marks.now p r (get_or c.loop-p.roles r d)) z c.loop-p.invariant.1)
