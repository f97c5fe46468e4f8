-- Sizes of fonts in points, from twentieths of a point: with one or two decimals where they aren't whole.
use Rattle.std.specs.Prelude.{ℕ, ◌*◌, ◌/◌, ◌%◌, List, [], ◌∷◌, ◌++◌, ◌==◌, if◌then◌else◌}
use Rattle.std.specs.Fmt.{decimal}
use Rattle.xls_styles.specs.declared.sizes.Size.{Size}

-- the decimals of so many twentieths: none, one, or two
abbrev pub decimals : ℕ → List ℕ
decimals n =
    if n == 0 then []
    else if n % 2 == 0 then 0x2E ∷ decimal (n / 2)
    else 0x2E ∷ decimal (n * 5 / 10) ++ decimal (n * 5 % 10)

abbrev pub size_text : Size → List ℕ
size_text s = decimal (s.twentieths / 20) ++ decimals (s.twentieths % 20)
