-- The functions of BIFF8 from index 72 on, in their order ([MS-XLS] Ftab 2.5.198.17): the name, as a
-- list of characters, and the count of arguments in a call with a fixed count. 255 stands for any
-- number of them, for the functions of macro sheets, and where the count isn't known. Index 255
-- calls a function by its name, which is the first argument; 217 and 218 have no known name.
use Rattle.std.specs.Prelude.{ℕ, List, [], ◌∷◌, codes}
use Rattle.std.specs.Str.{chars}
use Rattle.std.specs.Borrow.{Bor}
use Rattle.xls_formula.specs.Functions.{Function}

-- a name and a count as the code has them
abbrev pub table_function : Bor (List ℕ) × ℕ → Function
table_function entry = (chars entry.0.now, entry.1)

-- the functions from index 72 to 380
abbrev pub from_index_72 : List Function
from_index_72 =
    (codes "MINUTE", 1) ∷ (codes "SECOND", 1) ∷ (codes "NOW", 0) ∷ (codes "AREAS", 1) ∷
    (codes "ROWS", 1) ∷ (codes "COLUMNS", 1) ∷ (codes "OFFSET", 5) ∷ (codes "ABSREF", 255) ∷
    (codes "RELREF", 255) ∷ (codes "ARGUMENT", 255) ∷ (codes "SEARCH", 3) ∷ (codes "TRANSPOSE", 1) ∷
    (codes "ERROR", 255) ∷ (codes "STEP", 255) ∷ (codes "TYPE", 1) ∷ (codes "ECHO", 255) ∷
    (codes "SETNAME", 255) ∷ (codes "CALLER", 255) ∷ (codes "DEREF", 255) ∷ (codes "WINDOWS", 255) ∷
    (codes "SERIES", 4) ∷ (codes "DOCUMENTS", 255) ∷ (codes "ACTIVE.CELL", 255) ∷
    (codes "SELECTION", 255) ∷ (codes "RESULT", 255) ∷ (codes "ATAN2", 2) ∷ (codes "ASIN", 1) ∷
    (codes "ACOS", 1) ∷ (codes "CHOOSE", 255) ∷ (codes "HLOOKUP", 4) ∷ (codes "VLOOKUP", 4) ∷
    (codes "LINKS", 255) ∷ (codes "INPUT", 255) ∷ (codes "ISREF", 1) ∷ (codes "GET.FORMULA", 1) ∷
    (codes "GET.NAME", 1) ∷ (codes "SET.VALUE", 255) ∷ (codes "LOG", 2) ∷ (codes "EXEC", 255) ∷
    (codes "CHAR", 1) ∷ (codes "LOWER", 1) ∷ (codes "UPPER", 1) ∷ (codes "PROPER", 1) ∷
    (codes "LEFT", 2) ∷ (codes "RIGHT", 2) ∷ (codes "EXACT", 2) ∷ (codes "TRIM", 1) ∷
    (codes "REPLACE", 4) ∷ (codes "SUBSTITUTE", 4) ∷ (codes "CODE", 1) ∷ (codes "NAMES", 255) ∷
    (codes "DIRECTORY", 255) ∷ (codes "FIND", 3) ∷ (codes "CELL", 2) ∷ (codes "ISERR", 1) ∷
    (codes "ISTEXT", 1) ∷ (codes "ISNUMBER", 1) ∷ (codes "ISBLANK", 1) ∷ (codes "T", 1) ∷
    (codes "N", 1) ∷ (codes "FOPEN", 255) ∷ (codes "FCLOSE", 255) ∷ (codes "FSIZE", 255) ∷
    (codes "FREADLN", 255) ∷ (codes "FREAD", 255) ∷ (codes "FWRITELN", 255) ∷
    (codes "FWRITE", 255) ∷ (codes "FPOS", 255) ∷ (codes "DATEVALUE", 1) ∷ (codes "TIMEVALUE", 1) ∷
    (codes "SLN", 3) ∷ (codes "SYD", 4) ∷ (codes "DDB", 5) ∷ (codes "GET.DEF", 255) ∷
    (codes "REFTEXT", 255) ∷ (codes "TEXTREF", 255) ∷ (codes "INDIRECT", 2) ∷
    (codes "REGISTER", 255) ∷ (codes "CALL", 255) ∷ (codes "ADD.BAR", 255) ∷
    (codes "ADD.MENU", 255) ∷ (codes "ADD.COMMAND", 255) ∷ (codes "ENABLE.COMMAND", 255) ∷
    (codes "CHECK.COMMAND", 255) ∷ (codes "RENAME.COMMAND", 255) ∷ (codes "SHOW.BAR", 255) ∷
    (codes "DELETE.MENU", 255) ∷ (codes "DELETE.COMMAND", 255) ∷ (codes "GET.CHART.ITEM", 255) ∷
    (codes "DIALOG.BOX", 255) ∷ (codes "CLEAN", 1) ∷ (codes "MDETERM", 1) ∷ (codes "MINVERSE", 1) ∷
    (codes "MMULT", 2) ∷ (codes "FILES", 255) ∷ (codes "IPMT", 6) ∷ (codes "PPMT", 6) ∷
    (codes "COUNTA", 255) ∷ (codes "CANCELKEY", 255) ∷ (codes "FOR", 255) ∷ (codes "WHILE", 255) ∷
    (codes "BREAK", 255) ∷ (codes "NEXT", 255) ∷ (codes "INITIATE", 255) ∷ (codes "REQUEST", 255) ∷
    (codes "POKE", 255) ∷ (codes "EXECUTE", 255) ∷ (codes "TERMINATE", 255) ∷
    (codes "RESTART", 255) ∷ (codes "HELP", 255) ∷ (codes "GET.BAR", 255) ∷ (codes "PRODUCT", 255) ∷
    (codes "FACT", 1) ∷ (codes "GET.CELL", 255) ∷ (codes "GET.WORKSPACE", 255) ∷
    (codes "GET.WINDOW", 255) ∷ (codes "GET.DOCUMENT", 255) ∷ (codes "DPRODUCT", 3) ∷
    (codes "ISNONTEXT", 1) ∷ (codes "GET.NOTE", 255) ∷ (codes "NOTE", 255) ∷ (codes "STDEVP", 255) ∷
    (codes "VARP", 255) ∷ (codes "DSTDEVP", 3) ∷ (codes "DVARP", 3) ∷ (codes "TRUNC", 2) ∷
    (codes "ISLOGICAL", 1) ∷ (codes "DCOUNTA", 3) ∷ (codes "DELETE.BAR", 255) ∷
    (codes "UNREGISTER", 255) ∷ (codes "EXCELFUNC202", 255) ∷ (codes "EXCELFUNC203", 255) ∷
    (codes "USDOLLAR", 2) ∷ (codes "FINDB", 3) ∷ (codes "SEARCHB", 3) ∷ (codes "REPLACEB", 4) ∷
    (codes "LEFTB", 2) ∷ (codes "RIGHTB", 2) ∷ (codes "MIDB", 3) ∷ (codes "LENB", 1) ∷
    (codes "ROUNDUP", 2) ∷ (codes "ROUNDDOWN", 2) ∷ (codes "ASC", 1) ∷ (codes "DBCS", 1) ∷
    (codes "RANK", 3) ∷ (codes "FUNC217", 255) ∷ (codes "FUNC218", 255) ∷ (codes "ADDRESS", 5) ∷
    (codes "DAYS360", 3) ∷ (codes "TODAY", 0) ∷ (codes "VDB", 7) ∷ (codes "ELSE", 255) ∷
    (codes "ELSE.IF", 255) ∷ (codes "END.IF", 255) ∷ (codes "FOR.CELL", 255) ∷
    (codes "MEDIAN", 255) ∷ (codes "SUMPRODUCT", 255) ∷ (codes "SINH", 1) ∷ (codes "COSH", 1) ∷
    (codes "TANH", 1) ∷ (codes "ASINH", 1) ∷ (codes "ACOSH", 1) ∷ (codes "ATANH", 1) ∷
    (codes "DGET", 3) ∷ (codes "CREATE.OBJECT", 255) ∷ (codes "VOLATILE", 255) ∷
    (codes "LAST.ERROR", 255) ∷ (codes "CUSTOM.UNDO", 255) ∷ (codes "CUSTOM.REPEAT", 255) ∷
    (codes "FORMULA.CONVERT", 255) ∷ (codes "GET.LINK.INFO", 255) ∷ (codes "TEXT.BOX", 255) ∷
    (codes "INFO", 1) ∷ (codes "GROUP", 255) ∷ (codes "GET.OBJECT", 255) ∷ (codes "DB", 5) ∷
    (codes "PAUSE", 255) ∷ (codes "EXCELFUNC249", 255) ∷ (codes "EXCELFUNC250", 255) ∷
    (codes "RESUME", 255) ∷ (codes "FREQUENCY", 2) ∷ (codes "ADD.TOOLBAR", 255) ∷
    (codes "DELETE.TOOLBAR", 255) ∷ (codes "USER.DEFINED", 255) ∷ (codes "RESET.TOOLBAR", 255) ∷
    (codes "EVALUATE", 255) ∷ (codes "GET.TOOLBAR", 255) ∷ (codes "GET.TOOL", 255) ∷
    (codes "SPELLING.CHECK", 255) ∷ (codes "ERROR.TYPE", 1) ∷ (codes "APP.TITLE", 255) ∷
    (codes "WINDOW.TITLE", 255) ∷ (codes "SAVE.TOOLBAR", 255) ∷ (codes "ENABLE.TOOL", 255) ∷
    (codes "PRESS.TOOL", 255) ∷ (codes "REGISTER.ID", 255) ∷ (codes "GET.WORKBOOK", 255) ∷
    (codes "AVEDEV", 255) ∷ (codes "BETADIST", 5) ∷ (codes "GAMMALN", 1) ∷ (codes "BETAINV", 5) ∷
    (codes "BINOMDIST", 4) ∷ (codes "CHIDIST", 2) ∷ (codes "CHIINV", 2) ∷ (codes "COMBIN", 2) ∷
    (codes "CONFIDENCE", 3) ∷ (codes "CRITBINOM", 3) ∷ (codes "EVEN", 1) ∷ (codes "EXPONDIST", 3) ∷
    (codes "FDIST", 3) ∷ (codes "FINV", 3) ∷ (codes "FISHER", 1) ∷ (codes "FISHERINV", 1) ∷
    (codes "FLOOR", 2) ∷ (codes "GAMMADIST", 4) ∷ (codes "GAMMAINV", 3) ∷ (codes "CEILING", 2) ∷
    (codes "HYPGEOMDIST", 4) ∷ (codes "LOGNORMDIST", 3) ∷ (codes "LOGINV", 3) ∷
    (codes "NEGBINOMDIST", 3) ∷ (codes "NORMDIST", 4) ∷ (codes "NORMSDIST", 1) ∷
    (codes "NORMINV", 3) ∷ (codes "NORMSINV", 1) ∷ (codes "STANDARDIZE", 3) ∷ (codes "ODD", 1) ∷
    (codes "PERMUT", 2) ∷ (codes "POISSON", 3) ∷ (codes "TDIST", 3) ∷ (codes "WEIBULL", 4) ∷
    (codes "SUMXMY2", 2) ∷ (codes "SUMX2MY2", 2) ∷ (codes "SUMX2PY2", 2) ∷ (codes "CHITEST", 2) ∷
    (codes "CORREL", 2) ∷ (codes "COVAR", 2) ∷ (codes "FORECAST", 3) ∷ (codes "FTEST", 2) ∷
    (codes "INTERCEPT", 2) ∷ (codes "PEARSON", 2) ∷ (codes "RSQ", 2) ∷ (codes "STEYX", 2) ∷
    (codes "SLOPE", 2) ∷ (codes "TTEST", 4) ∷ (codes "PROB", 4) ∷ (codes "DEVSQ", 255) ∷
    (codes "GEOMEAN", 255) ∷ (codes "HARMEAN", 255) ∷ (codes "SUMSQ", 255) ∷ (codes "KURT", 255) ∷
    (codes "SKEW", 255) ∷ (codes "ZTEST", 3) ∷ (codes "LARGE", 2) ∷ (codes "SMALL", 2) ∷
    (codes "QUARTILE", 2) ∷ (codes "PERCENTILE", 2) ∷ (codes "PERCENTRANK", 3) ∷
    (codes "MODE", 255) ∷ (codes "TRIMMEAN", 2) ∷ (codes "TINV", 2) ∷ (codes "EXCELFUNC333", 255) ∷
    (codes "MOVIE.COMMAND", 255) ∷ (codes "GET.MOVIE", 255) ∷ (codes "CONCATENATE", 255) ∷
    (codes "POWER", 2) ∷ (codes "PIVOT.ADD.DATA", 255) ∷ (codes "GET.PIVOT.TABLE", 255) ∷
    (codes "GET.PIVOT.FIELD", 255) ∷ (codes "GET.PIVOT.ITEM", 255) ∷ (codes "RADIANS", 1) ∷
    (codes "DEGREES", 1) ∷ (codes "SUBTOTAL", 255) ∷ (codes "SUMIF", 3) ∷ (codes "COUNTIF", 2) ∷
    (codes "COUNTBLANK", 1) ∷ (codes "SCENARIO.GET", 255) ∷ (codes "OPTIONS.LISTS.GET", 255) ∷
    (codes "ISPMT", 4) ∷ (codes "DATEDIF", 3) ∷ (codes "DATESTRING", 1) ∷
    (codes "NUMBERSTRING", 2) ∷ (codes "ROMAN", 2) ∷ (codes "OPEN.DIALOG", 255) ∷
    (codes "SAVE.DIALOG", 255) ∷ (codes "VIEW.GET", 255) ∷ (codes "GETPIVOTDATA", 255) ∷
    (codes "HYPERLINK", 2) ∷ (codes "PHONETIC", 1) ∷ (codes "AVERAGEA", 255) ∷ (codes "MAXA", 255) ∷
    (codes "MINA", 255) ∷ (codes "STDEVPA", 255) ∷ (codes "VARPA", 255) ∷ (codes "STDEVA", 255) ∷
    (codes "VARA", 255) ∷ (codes "BAHTTEXT", 1) ∷ (codes "THAIDAYOFWEEK", 1) ∷
    (codes "THAIDIGIT", 1) ∷ (codes "THAIMONTHOFYEAR", 1) ∷ (codes "THAINUMSOUND", 1) ∷
    (codes "THAINUMSTRING", 1) ∷ (codes "THAISTRINGLENGTH", 1) ∷ (codes "ISTHAIDIGIT", 1) ∷
    (codes "ROUNDBAHTDOWN", 1) ∷ (codes "ROUNDBAHTUP", 1) ∷ (codes "THAIYEAR", 1) ∷
    (codes "RTD", 5) ∷ (codes "ISHYPERLINK", 1) ∷ []
