-- `requests::field_accessor` meets its contract for a group; for a slot the check finds it. Assumes nothing.
use Rattle.requests.proofs.field_accessor.Goals as goal

pub returns-in-Group-clause-text : goal.returns-in-Group-clause-text
returns-in-Group-clause-text c = λ nodes x at e h. c.group_accessor.ensures.text _ nodes x at e (rw c.in-Group.is at h)
