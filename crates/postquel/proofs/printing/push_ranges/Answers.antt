use Rattle.postquel.proofs.Texts.{on_ok, ranges_behind}
use Rattle.postquel.proofs.printing.push_ranges.Goals as goal

pub returns-in_ok-extend_from_slice-in-len1-up : goal.returns-in_ok-extend_from_slice-in-len1-up
returns-in_ok-extend_from_slice-in-len1-up c = on_ok c.push_range_list.result c.push_range_list.ensures
    (λ p. ranges_behind c.args.ranges.now c.args.out.now.items c.extend_from_slice.new.self.items c.push_range_list.new.out.items c.in-len1-up.len_at_least c.in_ok-extend_from_slice-in-len1-up.ensures.items p)
