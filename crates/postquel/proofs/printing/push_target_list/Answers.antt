use Rattle.std.proofs.Common.{map}
use Rattle.std.specs.Prelude.{codes}
use Rattle.postquel_tokens.specs.Forms.{wish_of}
use Rattle.postquel.specs.Print.{wish_text}
use Rattle.postquel.proofs.Texts.{between}
use Rattle.postquel.proofs.printing.push_target_list.Goals as goal

pub returns : goal.returns
returns c = between wish_text (map wish_of c.args.targets.now) c.args.out.now.items (codes "(") (codes ")") c.extend_from_slice.new.self.items c.push_targets.new.out.items c.extend_from_slice-2.new.self.items
    c.in_ok-extend_from_slice.ensures.items c.in_ok-push_targets.ensures c.in_ok-extend_from_slice-2.ensures.items
