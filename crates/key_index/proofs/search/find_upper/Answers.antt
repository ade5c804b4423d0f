use Rattle.key_index.proofs.search.find_upper.Goals as goal

pub returns-in-Equal-clause-told : goal.returns-in-Equal-clause-told
returns-in-Equal-clause-told g c = λ f entries is holds. rw c.in-Equal.is (c.rank_high.ensures.told f entries is holds)

pub returns-in-AtMost-clause-told : goal.returns-in-AtMost-clause-told
returns-in-AtMost-clause-told g c = λ f entries is holds. rw c.in-AtMost.is (c.rank_high-in-AtMost.ensures.told f entries is holds)

pub returns-in-Less-clause-told : goal.returns-in-Less-clause-told
returns-in-Less-clause-told g c = λ f entries is holds. rw c.in-Less.is (c.rank_low.ensures.told f entries is holds)

pub returns-in-Equal-clause-path : goal.returns-in-Equal-clause-path
returns-in-Equal-clause-path g c = λ f is. rw c.in-Equal.is (c.rank_high.ensures.path f is)

pub returns-in-AtMost-clause-path : goal.returns-in-AtMost-clause-path
returns-in-AtMost-clause-path g c = λ f is. rw c.in-AtMost.is (c.rank_high-in-AtMost.ensures.path f is)

pub returns-in-Less-clause-path : goal.returns-in-Less-clause-path
returns-in-Less-clause-path g c = λ f is. rw c.in-Less.is (c.rank_low.ensures.path f is)
