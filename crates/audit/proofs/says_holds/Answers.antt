use Rattle.audit.proofs.Audits.{holds-said, other-said, differs-not, refused_not}
use Rattle.audit.proofs.says_holds.Goals as goal

pub returns-in-Holds : goal.returns-in-Holds
returns-in-Holds c = holds-said c.args.d c.in-Holds.is

pub returns-in-Differs : goal.returns-in-Differs
returns-in-Differs c = other-said c.args.d (differs-not c.args.d c.in-Differs.is)

pub returns-in-Refused : goal.returns-in-Refused
returns-in-Refused c = other-said c.args.d (refused_not c.args.d _ c.in-Refused.is)
