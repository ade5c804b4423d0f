use Rattle.std.proofs.Common.{rules, ◌≡◌, length}
use Rattle.buffer_pool.proofs.Lists.{none_left}
use Rattle.buffer_pool.proofs.Sharing.{handed_back}
use Rattle.buffer_pool.proofs.opening.hand_back.Goals as goal

pub returns : goal.returns
returns g c =
    let zero : length c.rest.drives.items ≡ 0 = search rules in
    handed_back g.D.Drive _ c.unlock_all-back.result.items _ c.rest.drives.items c.rest.back.items c.args.drives.items c.args.drive c.unlock_all-back.ensures.drives c.push_reserved.ensures.items c.rest.invariant.same (none_left c.rest.drives.items zero)
