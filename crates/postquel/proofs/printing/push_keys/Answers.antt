use Rattle.postquel.proofs.Texts.{on_ok, keys_behind}
use Rattle.postquel.proofs.printing.push_keys.Goals as goal

pub returns-in_ok-extend_from_slice-in-len1-up : goal.returns-in_ok-extend_from_slice-in-len1-up
returns-in_ok-extend_from_slice-in-len1-up c = on_ok c.push_key_list.result c.push_key_list.ensures
    (λ p. keys_behind c.args.keys.now c.args.out.now.items c.extend_from_slice.new.self.items c.push_key_list.new.out.items c.in-len1-up.len_at_least c.in_ok-extend_from_slice-in-len1-up.ensures.items p)
