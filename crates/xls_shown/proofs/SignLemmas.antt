-- Words as their characters.
use Rattle.std.proofs.Common.{◌≡◌, [], codes, refl}
use Rattle.std.specs.Str.{chars}

pub no_chars : chars [] ≡ []
unfolding chars
no_chars = refl

pub minus_alone : chars (codes "-") ≡ codes "-"
unfolding chars
minus_alone = refl

pub hashes_alone : chars (codes "########") ≡ codes "########"
unfolding chars
hashes_alone = refl
