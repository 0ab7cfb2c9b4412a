use Rattle.reg_report.proofs.OneReport as reports
use Rattle.reg_report.proofs.laws.one_first_report.Goals as goal

pub returns : goal.returns
returns c h a b y p q =
    reports.one_first_report h (c.names_are_unique.ensures.one h y)
    (c.accepted_is_history.ensures h y) a b p q
