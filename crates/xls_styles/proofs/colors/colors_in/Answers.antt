use Rattle.std.proofs.Common.{rules}
use Rattle.xls_styles.specs.Colors.{colors_in}
use Rattle.xls_styles.proofs.ColorLemmas.{colors_more}
use Rattle.xls_styles.proofs.colors.colors_in.Goals as goal

pub colors-preserved : goal.colors-preserved
colors-preserved c =
    let l = c.colors in
    colors_more l.left l.rest.now c.split_at.result.1.now l.found.items c.push.new.self.items (colors_in c.args.count c.args.bytes.now) c.rgb_at.result
    (search rules) (search rules) c.split_at.ensures.back c.rgb_at.ensures c.in_ok-push.ensures.items l.invariant
