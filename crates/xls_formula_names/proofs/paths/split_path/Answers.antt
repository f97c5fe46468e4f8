use Rattle.std.proofs.Common.{refl, rules, sym, ap, ◌∙◌, ◌++◌, [], encode_utf8}
use Rattle.std.specs.Str.{chars}
use Rattle.xls_formula_names.specs.Paths.{split}
use Rattle.xls_formula_names.proofs.PathLemmas.{all_left, end_after, last_after, last_file, split_whole}
use Rattle.xls_bytes.proofs.CharacterLemmas.{ends-trans, front_chars, seam}
use Rattle.xls_formula_names.proofs.paths.split_path.Goals as goal

pub characters-init : goal.characters-init
characters-init c = record {
  left_text = search rules;
  file_text = search rules;
  left_end = ([], refl);
  file_end = ([], refl);
  file = all_left c.args.has_slashes (chars c.args.text.now);
}

pub characters-preserved : goal.characters-preserved
characters-preserved c =
    let rest_end = ends-trans _ _ _ c.characters.invariant.left_end (encode_utf8 c.in-Some.c, c.in-Some.ensures.whole) in
    record {
      left_text = search rules;
      file_text = c.file_after-file.utf8;
      left_end = rest_end;
      file_end = end_after c.is_separator.result _ _ _ _ rest_end c.characters.invariant.file_end c.file_after-file.ensures;
      file = c.characters.invariant.file ∙ last_after c.args.has_slashes c.is_separator.result c.in-Some.c _ _ _ _ (sym c.is_separator.ensures) c.in-Some.ensures.exact c.file_after-file.ensures;
    }

pub split_at-requires : goal.split_at-requires
split_at-requires c = seam _ _ c.characters.invariant.file_end c.characters.invariant.file_text

pub returns-clause-folder : goal.returns-clause-folder
returns-clause-folder c =
    let cs = chars c.args.text.now in
    let file = c.characters.invariant.file ∙ ap (λ left. last_file c.args.has_slashes left (chars c.characters.file.now)) c.in_default.ensures.exact in
    ap chars c.split_at.ensures.front ∙ front_chars c.args.text.now c.characters.file.now (split c.args.has_slashes cs).0 c.characters.invariant.file_end c.utf8.text c.characters.invariant.file_text
    (ap (λ xs. (split c.args.has_slashes cs).0 ++ xs) (sym file) ∙ split_whole c.args.has_slashes cs)
