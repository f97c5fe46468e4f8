use Rattle.std.proofs.Common.{rules}
use Rattle.xls_strings.specs.Strings.{string_at}
use Rattle.xls_stream.specs.declared.types.TheConstants as types
use Rattle.xls_biff.specs.SheetTable.{string_record}
use Rattle.xls_biff.proofs.TableLemmas.{line_is, refused}
use Rattle.xls_biff.proofs.sheet_record.Body.string.Goals as goal

pub returns-in_err-read_string : goal.returns-in_err-read_string
returns-in_err-read_string c = refused types.STRING c.args.self.now.biff _ _ _ c.from_residual.ensures.1 (λ s same. rw same (c.in_err-read_string.ensures s.page))

pub returns : goal.returns
returns c = record {
  exact = λ s same. rw same (line_is string_record (string_at s.page c.args.self.now.biff c.args.self.now.bytes.now) _ (c.in_ok-read_string.ensures s.page));
  items = search rules;
}
