use Rattle.std.proofs.Common.{rules, encode_utf8_all, ap, ◌∙◌}
use Rattle.std.specs.Char.{IsScalar}
use Rattle.std.specs.Str.{IsAscii}
use Rattle.std.proofs.lemmas.Str.{encodes-IsAscii}
use Rattle.xls_text.specs.Pages.{byte_character}
use Rattle.xls_bytes.proofs.GrownLemmas.{IsGrown-push, IsGrown-trans}
use Rattle.xls_text.proofs.PageLemmas.{stretch_more, byte_character-IsAscii}
use Rattle.xls_text.proofs.append.append_single.Goals as goal

pub returns-in_err-append_ascii-clause-grown : goal.returns-in_err-append_ascii-clause-grown
returns-in_err-append_ascii-clause-grown c =
    IsGrown-trans _ _ _ c.stretches.invariant.grown c.append_ascii.ensures.grown

pub returns-in_err-push-clause-grown : goal.returns-in_err-push-clause-grown
returns-in_err-push-clause-grown c =
    rw c.in_err-push.ensures.bytes (IsGrown-trans _ _ _ c.stretches.invariant.grown c.append_ascii.ensures.grown)

pub stretches-preserved : goal.stretches-preserved
stretches-preserved c =
    let ascii : IsAscii c.in-Some.ascii.now = c.in-Some.ensures.ascii in
    let char : IsScalar c.character.result = search rules in
    let longer = IsGrown-trans _ _ _ c.stretches.invariant.grown c.append_ascii.ensures.grown in
    record {
      so_far = stretch_more (byte_character c.args.is_windows_1252) _ _ _ _ _ _ _ _ _
          (byte_character-IsAscii c.args.is_windows_1252 _ ascii) (encodes-IsAscii _ ascii)
          c.in-Some.ensures.whole c.in_ok-append_ascii.ensures.ok c.in_ok-push.ensures.bytes
          c.character.ensures c.stretches.invariant.so_far;
      grown = IsGrown-push _ _ _ _ longer char c.in_ok-push.ensures.bytes;
    }

pub returns-clause-ok : goal.returns-clause-ok
returns-clause-ok c =
    let ascii : IsAscii c.stretches.rest.now = search rules in
    let whole = ap encode_utf8_all (byte_character-IsAscii c.args.is_windows_1252 _ ascii) ∙ encodes-IsAscii _ ascii in
    rw (← c.stretches.invariant.so_far, whole) c.append_ascii-2.ensures.ok

pub returns-clause-grown : goal.returns-clause-grown
returns-clause-grown c =
    IsGrown-trans _ _ _ c.stretches.invariant.grown c.append_ascii-2.ensures.grown
