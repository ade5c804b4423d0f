use Rattle.std.proofs.Common.{◌≡◌, length, take, drop, get_or, arith, ◌∙◌, ap}
use Rattle.page_partition.specs.declared.table.Mark.TheVariants.{Left, Deposited}
use Rattle.page_partition.specs.Scan.{is_out, out_of, left_of, given_back, put}
use Rattle.page_partition.specs.Marks.{put_given}
use Rattle.page_partition.specs.Front.{front_given}
use Rattle.page_partition.specs.TableKept.{IsTable-given, next_given, places_range_take, places_range_drop, role_sum}
use Rattle.page_partition.proofs.table.give_to.Goals as goal

pub put_all-requires : goal.put_all-requires
put_all-requires c =
    let s = c.requires.table.each c.args.role c.index-roles-role.result c.requires.role in
    let kept = c.split_at.ensures.front ∙ ap (take c.args.done) (c.positions.ensures ∙ c.copy-out.ensures ∙ s.out) in
    λ i h. places_range_take (is_out c.args.role) c.args.marks.now c.args.done c.split_at.result.0.now kept i h

pub put_all-requires-2 : goal.put_all-requires-2
put_all-requires-2 c =
    let s = c.requires.table.each c.args.role c.index-roles-role.result c.requires.role in
    let rest = c.split_at.ensures.back ∙ ap (drop c.args.done) (c.positions.ensures ∙ c.copy-out.ensures ∙ s.out) in
    λ i h. let b = places_range_drop (is_out c.args.role) c.args.marks.now c.args.done c.split_at.result.1.now rest i h in omega (arith, c.put_all.auto.marks)

pub overflow_add-roles : goal.overflow_add-roles
overflow_add-roles c =
    let s = c.requires.table.each c.args.role c.index-roles-role.result c.requires.role in
    let sum = role_sum c.args.marks.now c.args.role _ s in
    omega (arith, c.len.ensures.len, ap length (c.copy-out.ensures ∙ s.out), c.requires.table.fits)

pub returns-clause-marks : goal.returns-clause-marks
returns-clause-marks c =
    let ms = c.args.marks.now in
    let s = c.requires.table.each c.args.role c.index-roles-role.result c.requires.role in
    let kept = c.split_at.ensures.front ∙ ap (take c.args.done) (c.positions.ensures ∙ c.copy-out.ensures ∙ s.out) in
    let rest = c.split_at.ensures.back ∙ ap (drop c.args.done) (c.positions.ensures ∙ c.copy-out.ensures ∙ s.out) in
    c.put_all-2.ensures ∙ ap (put c.split_at.result.1.now (Left c.args.role)) (c.put_all.ensures ∙ ap (λ ps. put ps Deposited ms) kept)
    ∙ ap (λ ps. put ps (Left c.args.role) (put (take c.args.done (out_of ms c.args.role)) Deposited ms)) rest ∙ put_given c.args.role c.args.done ms

pub returns-clause-front : goal.returns-clause-front
returns-clause-front c =
    let ms = c.args.marks.now in
    let s = c.requires.table.each c.args.role c.index-roles-role.result c.requires.role in
    let kept = c.split_at.ensures.front ∙ ap (take c.args.done) (c.positions.ensures ∙ c.copy-out.ensures ∙ s.out) in
    let rest = c.split_at.ensures.back ∙ ap (drop c.args.done) (c.positions.ensures ∙ c.copy-out.ensures ∙ s.out) in
    let marks : c.put_all-2.new.marks ≡ given_back c.args.role c.args.done ms =
    c.put_all-2.ensures ∙ ap (put c.split_at.result.1.now (Left c.args.role)) (c.put_all.ensures ∙ ap (λ ps. put ps Deposited ms) kept)
    ∙ ap (λ ps. put ps (Left c.args.role) (put (take c.args.done (out_of ms c.args.role)) Deposited ms)) rest ∙ put_given c.args.role c.args.done ms in
    ap (λ xs. left_of xs c.args.role) marks ∙ front_given ms c.args.role c.args.done (get_or c.args.roles.now c.args.role c.index-roles-role.result) s

pub returns-clause-table : goal.returns-clause-table
returns-clause-table c =
    let ms = c.args.marks.now in
    let y = get_or c.args.roles.now c.args.role c.index-roles-role.result in
    let s = c.requires.table.each c.args.role c.index-roles-role.result c.requires.role in
    let kept = c.split_at.ensures.front ∙ ap (take c.args.done) (c.positions.ensures ∙ c.copy-out.ensures ∙ s.out) in
    let rest = c.split_at.ensures.back ∙ ap (drop c.args.done) (c.positions.ensures ∙ c.copy-out.ensures ∙ s.out) in
    let marks : c.put_all-2.new.marks ≡ given_back c.args.role c.args.done ms =
    c.put_all-2.ensures ∙ ap (put c.split_at.result.1.now (Left c.args.role)) (c.put_all.ensures ∙ ap (λ ps. put ps Deposited ms) kept)
    ∙ ap (λ ps. put ps (Left c.args.role) (put (take c.args.done (out_of ms c.args.role)) Deposited ms)) rest ∙ put_given c.args.role c.args.done ms in
    let len : c.len.result ≡ length (out_of ms c.args.role) = c.len.ensures.len ∙ ap length (c.copy-out.ensures ∙ s.out) in
    let next = next_given ms c.args.role y s c.first_or-next.result (c.first_or-next.ensures ∙ ap (λ xs. get_or xs 0 y.next) s.out) in
    rw (marks, len, c.new.ensures) (IsTable-given ms c.args.roles.now c.args.role c.first_or-next.result c.args.done y c.requires.table c.requires.role s c.requires.done next.0 next.1)
