use Rattle.xls_data.proofs.EqualityLemmas.{data_decides}
use Rattle.xls_csv.proofs.BoxLemmas.{dense_box}
use Rattle.xls_csv.proofs.laws.dense_boxes.Goals as goal

pub returns : goal.returns
returns c = dense_box _ (λ a b. (data_decides a b).0)
