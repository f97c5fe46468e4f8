use Rattle.std.proofs.Common.{refl}
use Rattle.xls_view.proofs.survey.place_of.Goals as goal

pub returns-in-Number : goal.returns-in-Number
returns-in-Number c = λ none. rw c.in-Number.is (_, refl)

pub returns-in-Rk : goal.returns-in-Rk
returns-in-Rk c = λ none. rw c.in-Rk.is (_, refl)

pub returns-in-BoolErr : goal.returns-in-BoolErr
returns-in-BoolErr c = λ none. rw c.in-BoolErr.is (_, refl)

pub returns-in-Label : goal.returns-in-Label
returns-in-Label c = λ none. rw c.in-Label.is (_, refl)
