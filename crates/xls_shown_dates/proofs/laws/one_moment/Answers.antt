use Rattle.xls_shown_dates.proofs.LawLemmas.{one_date, one_time}
use Rattle.xls_shown_dates.proofs.laws.one_moment.Goals as goal

pub returns-clause-date : goal.returns-clause-date
returns-clause-date c = one_date

pub returns-clause-moment : goal.returns-clause-moment
returns-clause-moment c = one_time
