use Rattle.std.proofs.Common.{◌≡◌, ◌∙◌, rules, false, Some, string_bytes}
use Rattle.xls_vba.specs.Libids.{says_nothing, at_last_hash, after_last_hash, text_of}
use Rattle.xls_vba.proofs.RefusalLemmas.{says_path}
use Rattle.xls_vba.proofs.libids.libid_of.Goals as goal

pub returns : goal.returns
returns c =
    let path : string_bytes c.in_ok-path.path ≡ after_last_hash c.in-Some.before.now = c.in_ok-path.ensures.ok ∙ c.after_last_hash.ensures in
    let says : says_nothing c.args.libid.now ≡ false = search rules in
    let parts : at_last_hash (text_of c.args.page c.args.libid.now) ≡ Some (c.in-Some.before.now, c.in-Some.following.now) = search rules in
    rw (path, c.in_ok-description.ensures.ok) (says_path c.args.page c.args.libid.now c.in-Some.before.now c.in-Some.following.now says parts)
