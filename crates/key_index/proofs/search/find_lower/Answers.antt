use Rattle.key_index.proofs.search.find_lower.Goals as goal

pub returns-in-Equal-clause-told : goal.returns-in-Equal-clause-told
returns-in-Equal-clause-told g c = λ f entries is holds. rw c.in-Equal.is (c.rank_low.ensures.told f entries is holds)

pub returns-in-AtLeast-clause-told : goal.returns-in-AtLeast-clause-told
returns-in-AtLeast-clause-told g c = λ f entries is holds. rw c.in-AtLeast.is (c.rank_low-in-AtLeast.ensures.told f entries is holds)

pub returns-in-More-clause-told : goal.returns-in-More-clause-told
returns-in-More-clause-told g c = λ f entries is holds. rw c.in-More.is (c.rank_high.ensures.told f entries is holds)

pub returns-in-Equal-clause-path : goal.returns-in-Equal-clause-path
returns-in-Equal-clause-path g c = λ f is. rw c.in-Equal.is (c.rank_low.ensures.path f is)

pub returns-in-AtLeast-clause-path : goal.returns-in-AtLeast-clause-path
returns-in-AtLeast-clause-path g c = λ f is. rw c.in-AtLeast.is (c.rank_low-in-AtLeast.ensures.path f is)

pub returns-in-More-clause-path : goal.returns-in-More-clause-path
returns-in-More-clause-path g c = λ f is. rw c.in-More.is (c.rank_high.ensures.path f is)
