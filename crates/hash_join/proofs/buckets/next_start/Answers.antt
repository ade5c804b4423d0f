use Rattle.std.proofs.lemmas.List.{take_rest}
use Rattle.hash_join.proofs.Starts.{start_parts_in}
use Rattle.hash_join.proofs.buckets.next_start.Goals as goal

pub returns-clause-parted : goal.returns-clause-parted
returns-clause-parted c = start_parts_in c.args.count c.args.hashes.now c.args.number c.args.place c.count_before.result _ (take_rest c.args.hashes.now c.args.place) c.requires.rising c.requires.within c.requires.passed c.count_before.ensures.within c.count_before.ensures.before c.count_before.ensures.next
