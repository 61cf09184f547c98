use Rattle.std.proofs.Common.{subst}
use Rattle.std.specs.Prelude.{IfOk}
use Rattle.std.specs.List.{flat_map}
use Rattle.basket_read.specs.Cut.{cut_at}
use Rattle.basket_read.specs.Fimi.{is_line_feed, basket_of}
use Rattle.basket_read.specs.Text.{IsSomeText}
use Rattle.basket_read.proofs.JoinedLemmas.{texts_joined}
use Rattle.basket_read.proofs.text.Text.append.Goals as goal

pub returns-clause-text : goal.returns-clause-text
returns-clause-text c = λ counting lines more t whole is _.
    let (apart, o) = subst (λ r. IfOk r (IsSomeText more)) c.in-Ok.is is in
    texts_joined c.args.self.now _ _ counting apart lines more t whole o (rw c.in_ok-self.ensures.ok_part at c.checked_add.ensures).1 c.in_ok-copy_from.ensures
    (c.in_ok-append.ensures.baskets counting apart (flat_map basket_of (cut_at is_line_feed lines).ended) (flat_map basket_of (cut_at is_line_feed more).ended) t.gathered o.gathered c.if-not-branch.false)
