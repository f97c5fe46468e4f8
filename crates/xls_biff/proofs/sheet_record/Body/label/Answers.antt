use Rattle.std.proofs.Common.{rules}
use Rattle.xls_stream.specs.declared.types.TheConstants as types
use Rattle.xls_biff.specs.Records.Label.{label_at}
use Rattle.xls_biff.specs.SheetTable.{cell_record}
use Rattle.xls_biff.proofs.TableLemmas.{line_is, refused}
use Rattle.xls_biff.proofs.sheet_record.Body.label.Goals as goal

pub returns-in_err-position-clause-label : goal.returns-in_err-position-clause-label
returns-in_err-position-clause-label c = refused types.LABEL c.args.self.now.biff _ _ _ c.from_residual.ensures.1 (λ s same. rw same (c.in_err-position.ensures s.page))

pub returns-in_err-position-clause-r_string : goal.returns-in_err-position-clause-r_string
returns-in_err-position-clause-r_string c = refused types.R_STRING c.args.self.now.biff _ _ _ c.from_residual.ensures.1 (λ s same. rw same (c.in_err-position.ensures s.page))

pub returns-clause-label : goal.returns-clause-label
returns-clause-label c = record {
  exact = λ s same. rw same (line_is cell_record (label_at s.page c.args.self.now.biff c.args.self.now.bytes.now) _ (c.in_ok-position.ensures s.page));
  items = search rules;
}

pub returns-clause-r_string : goal.returns-clause-r_string
returns-clause-r_string c = record {
  exact = λ s same. rw same (line_is cell_record (label_at s.page c.args.self.now.biff c.args.self.now.bytes.now) _ (c.in_ok-position.ensures s.page));
  items = search rules;
}
