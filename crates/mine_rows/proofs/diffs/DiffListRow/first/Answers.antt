use Rattle.std.proofs.Common.{ap, ◌∙◌}
use Rattle.std.specs.List.{range_with_len}
use Rattle.mine_rows.specs.Cover.{lacking}
use Rattle.mine_rows.proofs.CoverLemmas.{all_cover, within_all}
use Rattle.mine_rows.proofs.diffs.DiffListRow.first.Goals as goal

pub returns : goal.returns
returns c = record {
  above = all_cover c.args.weights.now;
  covers = record { rises = c.requires.rises; below = c.requires.below };
  inside = within_all c.args.weights.now c.args.cover.now (record { rises = c.requires.rises; below = c.requires.below });
  missing = c.in_ok-missing_tids.ensures ∙ ap (λ n. lacking (range_with_len 0 n) c.args.cover.now) c.count.ensures;
  count = c.weight.ensures.sum;
}
