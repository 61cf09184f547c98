use Rattle.std.proofs.Common.{subst, sym, ◌∙◌}
use Rattle.mine_supports.specs.TidWord.{AreKept}
use Rattle.mine_supports.proofs.prefixes.Prefixes.push_kept.Goals as goal

pub returns : goal.returns
returns c = record {
  kept = c.put_kept.new.kept;
  pushed = c.in_ok-push.ensures.items;
  keeps = λ tids last.
      let kept = c.put_kept.new.kept in
      subst (λ l. AreKept c.args.row.now l kept.items) (c.last.ensures kept ∙ sym (last kept)) c.in_ok-put_kept.ensures;
}
