-- Values in order of their positions.
use Rattle.std.specs.Prelude.{List, [], ◌∷◌, Bool, true, false, ◌&&◌, nat_lt, if◌then◌else◌, Option, Some, None}
use Rattle.xls_range.specs.Positions.{Position}

-- one position comes before another
abbrev pub precedes : Position → Position → Bool
precedes p q = if nat_lt p.0 q.0 then true else if nat_lt q.0 p.0 then false else nat_lt p.1 q.1

-- a value put among those that ascend, unless its position has one
abbrev pub put_under : {X : Type 0} → Position × X → List (Position × X) → List (Position × X)
put_under c [] = c ∷ []
put_under c (x ∷ xs) =
    if precedes c.0 x.0 then c ∷ x ∷ xs else if precedes x.0 c.0 then x ∷ put_under c xs else x ∷ xs

-- by position, of those of one position the last
abbrev pub settled : {X : Type 0} → List (Position × X) → List (Position × X)
settled [] = []
settled (c ∷ cs) = put_under c (settled cs)

-- ---- positions that ascend

-- a position comes after the last one, if there is one
abbrev pub follows : Option Position → Position → Bool
follows None p = true
follows (Some last) p = precedes last p

-- each position comes after the one before it, the first after the last one of others, if there is one
abbrev pub ascends : Option Position → List Position → Bool
ascends last [] = true
ascends last (p ∷ ps) = follows last p && ascends (Some p) ps
