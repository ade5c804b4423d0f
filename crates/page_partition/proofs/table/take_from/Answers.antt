use Rattle.std.proofs.Common.{◌≡◌, length, take, min, get_or, arith, ◌∙◌, ap}
use Rattle.page_partition.specs.declared.table.Mark.TheVariants.{Out}
use Rattle.page_partition.specs.Scan.{is_left, left_of, mark_first, put}
use Rattle.page_partition.specs.Marks.{put_first, mark_first_min}
use Rattle.page_partition.specs.TableKept.{IsTable-taken, places_range_take}
use Rattle.page_partition.proofs.table.take_from.Goals as goal

pub put_all-requires : goal.put_all-requires
put_all-requires c = λ i h. places_range_take (is_left c.args.role) c.args.marks.now c.min-count.result c.positions.result.now (c.positions.ensures ∙ c.find_left-batch.ensures.batch) i h

pub returns-clause-marks : goal.returns-clause-marks
returns-clause-marks c =
    let ms = c.args.marks.now in
    let t = is_left c.args.role in
    let s = c.requires.table.each c.args.role c.index-roles-role.result c.requires.role in
    let count : c.min-count.result ≡ min c.args.most (length (left_of ms c.args.role)) = c.min-count.ensures ∙ ap (min c.args.most) s.count in
    c.put_all.ensures ∙ ap (λ ps. put ps (Out c.args.role) ms) (c.positions.ensures ∙ c.find_left-batch.ensures.batch) ∙ put_first t (Out c.args.role) c.min-count.result ms
    ∙ ap (λ k. mark_first t k (Out c.args.role) ms) count ∙ mark_first_min t (Out c.args.role) c.args.most ms

pub returns-clause-table : goal.returns-clause-table
returns-clause-table c =
    let ms = c.args.marks.now in
    let t = is_left c.args.role in
    let y = get_or c.args.roles.now c.args.role c.index-roles-role.result in
    let s = c.requires.table.each c.args.role c.index-roles-role.result c.requires.role in
    let marks : c.put_all.new.marks ≡ mark_first t c.min-count.result (Out c.args.role) ms = c.put_all.ensures ∙ ap (λ ps. put ps (Out c.args.role) ms) (c.positions.ensures ∙ c.find_left-batch.ensures.batch) ∙ put_first t (Out c.args.role) c.min-count.result ms in
    let out : c.copy.result ≡ take c.min-count.result (left_of ms c.args.role) = c.copy.ensures ∙ c.find_left-batch.ensures.batch in
    rw (marks, out) (IsTable-taken ms c.args.roles.now c.args.role c.find_left-batch.result.1 c.min-count.result y c.requires.table c.requires.role s c.find_left-batch.ensures.next c.requires.idle (omega (arith, c.min-count.ensures)) c.find_left-batch.ensures.none)
