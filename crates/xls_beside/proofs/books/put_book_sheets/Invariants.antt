use Rattle.std.specs.Prelude.{String}
use Rattle.std.specs.Global.{Global}
use Rattle.xls_strings.specs.Texts.{text_of}
use Rattle.xls_beside.specs.Books.{book_sheet}
use Rattle.std.proofs.Common.{◌∷◌, [], take}
use Rattle.std.specs.List.{flat_map}
use Rattle.xls_output.specs.Each.{GathersEach, text_output}
use Rattle.xls_beside.specs.Lines.{IsLineText}
use Rattle.xls_beside.proofs.books.put_book_sheets.Given as goal

-- the lines of the sheets so far are put
abbrev pub invariant-loop-name : goal.invariant-loop-name
invariant-loop-name g l =
    GathersEach (IsLineText l.form) (flat_map (λ (s : String Global). book_sheet (text_of s) ∷ []) (take l.name-index l.sheets))
    (text_output g.K.Sink.state l.fn.out) (text_output g.K.Sink.state l.out)
