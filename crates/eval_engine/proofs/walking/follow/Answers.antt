use Rattle.eval_engine.proofs.walking.follow.Goals as goal

pub returns-in-Allow : goal.returns-in-Allow
returns-in-Allow c = λ searched. rw c.in-Allow.is (c.decided.ensures searched)

pub returns-in-Deny : goal.returns-in-Deny
returns-in-Deny c = λ searched. rw c.in-Deny.is (c.decided-in-Deny.ensures searched)

pub returns-in-Reset : goal.returns-in-Reset
returns-in-Reset c = λ searched. rw c.in-Reset.is (c.decided-in-Reset.ensures searched)

pub returns-in-Unreach : goal.returns-in-Unreach
returns-in-Unreach c = λ searched. rw c.in-Unreach.is (c.decided-in-Unreach.ensures searched)
