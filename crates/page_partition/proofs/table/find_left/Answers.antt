use Rattle.std.proofs.Common.{◌≡◌, ◌<◌, length, take, arith, sym, ◌∙◌, ap}
use Rattle.page_partition.specs.Scan.{is_left, left_of}
use Rattle.std.proofs.lemmas.List.{length_push}
use Rattle.page_partition.specs.declared.table.Mark.TheVariants.{Left}
use Rattle.page_partition.specs.Places.{places_more_true, places_more_false, before_end, take-places}
use Rattle.page_partition.proofs.table.find_left.Goals as goal
use Rattle.page_partition.proofs.table.find_left.Goals.{then-is_left, else-is_left}

pub overflow_add-at : goal.overflow_add-at
overflow_add-at c =
    let few : length (left_of (take c.loop-batch.at c.args.marks.now) c.args.role) < c.args.count = omega (arith, ap length c.loop-batch.invariant.found) in
    let lt = before_end (is_left c.args.role) c.args.marks.now c.loop-batch.at c.args.count c.loop-batch.invariant.within few c.requires.there in
    omega arith

pub loop-batch-preserved : goal.loop-batch-preserved
loop-batch-preserved c =
    let ms = c.args.marks.now in
    let at = c.loop-batch.at in
    let few : length (left_of (take at ms) c.args.role) < c.args.count = omega (arith, ap length c.loop-batch.invariant.found) in
    let lt = before_end (is_left c.args.role) ms at c.args.count c.loop-batch.invariant.within few c.requires.there in
    elim c.if-is_left.branch [
      | then-is_left w ↦
          let more = places_more_true (is_left c.args.role) ms at (Left 0) lt (sym c.is_left.ensures ∙ w.if-is_left.true) in
          record { found = cc; within = omega arith; few = omega (arith, ap length w.batch-is, ap length w.push.ensures, length_push c.loop-batch.batch at) }
      | else-is_left w ↦
          let more = places_more_false (is_left c.args.role) ms at (Left 0) lt (sym c.is_left.ensures ∙ w.if-is_left.false) in
          record { found = cc; within = omega arith; few = omega (arith, ap length w.batch-is) }
    ]

pub returns-clause-batch : goal.returns-clause-batch
returns-clause-batch c =
    let full : length (left_of (take c.loop-batch.at c.args.marks.now) c.args.role) ≡ c.args.count = omega (arith, ap length c.loop-batch.invariant.found) in
    c.loop-batch.invariant.found ∙ sym (take-places (is_left c.args.role) c.args.marks.now c.loop-batch.at c.args.count c.loop-batch.invariant.within full)

pub returns-clause-none : goal.returns-clause-none
returns-clause-none c =
    let full : length (left_of (take c.loop-batch.at c.args.marks.now) c.args.role) ≡ c.args.count = omega (arith, ap length c.loop-batch.invariant.found) in
    sym (take-places (is_left c.args.role) c.args.marks.now c.loop-batch.at c.args.count c.loop-batch.invariant.within full)
