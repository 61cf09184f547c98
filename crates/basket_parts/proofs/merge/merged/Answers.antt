use Rattle.std.proofs.Common.{◌++◌, ◌∷◌, [], sym, ap, ◌∙◌, arith, subst, All}
use Rattle.std.specs.Vec.Iter.{into_iter_items}
use Rattle.std.proofs.lemmas.List.Elements.{All-push}
use Rattle.basket_read.specs.declared.counted_line.CountedLine.{CountedLine}
use Rattle.basket_parts.specs.Merge.{IsLight, merged}
use Rattle.basket_parts.proofs.StableLemmas.{apart_more}
use Rattle.basket_parts.proofs.merge.merged.Goals as goal

pub loop-line-preserved : goal.loop-line-preserved
loop-line-preserved c =
    let kept = c.loop-line.kept in
    let line = c.in-Some-line.line in
    let list = c.loop-line.list.items in
    let more = c.in_ok-push.ensures.items ∙ ap (λ (l : CountedLine). list ++ l ∷ []) c.replace.ensures.value in
    let light = c.if-line-gt-MAX_WEIGHT.false in
    let same = c.replace.ensures.after in
    record {
      can = tt;
      ends = tt;
      whole = apart_more list c.push.new.self.items kept c.replace.new.dest line (into_iter_items c.loop-line.line-iterator) (into_iter_items c.next-in-loop-line.new.self)
          (merged c.args.lines.items) (sym c.eq.ensures ∙ c.if-eq.false) c.in-Some-line.ensures.steps.0 more same c.loop-line.invariant.whole;
      light = subst (All IsLight) (sym more) (All-push IsLight list kept c.loop-line.invariant.light c.loop-line.invariant.kept);
      kept = let e = ap (λ (l : CountedLine). l.count) same in omega arith;
    }
