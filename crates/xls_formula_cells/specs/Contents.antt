-- The tokens of a Formula record ([MS-XLS] 2.4.127), by its body with those of its Continue records: 20 bytes, and behind them
-- CellParsedFormula (2.5.198.3), which begins with the count of the tokens' bytes (cce).
use Rattle.std.specs.Prelude.{ℕ, ◌+◌, List, length, take, drop, nat_lt, if◌then◌else◌, Result, Ok, Err}
use Rattle.xls_stream.specs.declared.part.Part.TheVariants as parts
use Rattle.xls_ptg.specs.Fields.{word_at}
use Rattle.xls_shown_ptg.specs.declared.fault.Fault.{Fault}
use Rattle.xls_shared_formulas.specs.Contents.{short}

-- CellParsedFormula, of which the count has two bytes: the tokens, and the extra bytes behind them, up to the end
abbrev pub rgce_contents : List ℕ → Result (List ℕ × List ℕ) Fault
rgce_contents rgce =
    if nat_lt (length rgce) 2 then Err (short parts.Rgce 2 (length rgce))
    else if nat_lt (length rgce) (2 + word_at 0 rgce) then Err (short parts.Rgce (2 + word_at 0 rgce) (length rgce))
    else Ok (take (word_at 0 rgce) (drop 2 rgce), drop (2 + word_at 0 rgce) rgce)

abbrev pub formula_contents : List ℕ → Result (List ℕ × List ℕ) Fault
formula_contents body =
    if nat_lt (length body) 0x14 then Err (short parts.Formula 0x14 (length body)) else rgce_contents (drop 0x14 body)
