-- What the formulas of a view may name.
use Rattle.xls_formula.specs.Context.{Context}
use Rattle.xls_view.specs.declared.naming.ViewNaming.{ViewNaming}

-- the context that this lends
abbrev pub context_in : ViewNaming → Context
context_in n =
    record {
      sheets = n.sheets.now;
      names = n.names.now;
      refs = n.refs.now;
      page = n.page;
      biff = n.biff;
      functions = n.functions.now;
      numbers = n.numbers;
    }
