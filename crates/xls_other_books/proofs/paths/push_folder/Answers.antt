use Rattle.std.proofs.Common.{rules}
use Rattle.std.specs.Str.{chars}
use Rattle.xls_strings.specs.Texts.{text_of}
use Rattle.xls_other_books.proofs.PathLemmas.{went_on, folder_6, folder_7, folder_8}
use Rattle.xls_other_books.proofs.paths.push_folder.Goals as goal

pub returns-in_ok-push_text-in-Some-eq6-default : goal.returns-in_ok-push_text-in-Some-eq6-default
returns-in_ok-push_text-in-Some-eq6-default c =
    went_on (text_of c.args.out.now) (text_of c.push_text.new.out) _ _ _ c.in_ok-push_text-in-Some-eq6-default.ensures (folder_6 c.in-Some-eq6-default.field-0-0 (chars c.args.coded.now) (chars c.in-Some-eq6-default.rest.now) (search rules) (search rules))

pub returns-in_ok-push_text-in-Some-eq7-default : goal.returns-in_ok-push_text-in-Some-eq7-default
returns-in_ok-push_text-in-Some-eq7-default c =
    went_on (text_of c.args.out.now) (text_of c.push_text-in-Some-eq7-default.new.out) _ _ _ c.in_ok-push_text-in-Some-eq7-default.ensures (folder_7 c.in-Some-eq7-default.field-0-0 (chars c.args.coded.now) (chars c.in-Some-eq7-default.rest.now) (search rules) (search rules))

pub returns-in_ok-push_text-in-Some-eq8-default : goal.returns-in_ok-push_text-in-Some-eq8-default
returns-in_ok-push_text-in-Some-eq8-default c =
    went_on (text_of c.args.out.now) (text_of c.push_text-in-Some-eq8-default.new.out) _ _ _ c.in_ok-push_text-in-Some-eq8-default.ensures (folder_8 c.in-Some-eq8-default.field-0-0 (chars c.args.coded.now) (chars c.in-Some-eq8-default.rest.now) (search rules) (search rules))
