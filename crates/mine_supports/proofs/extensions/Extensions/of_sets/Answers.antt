use Rattle.std.proofs.Common.{◌≡◌, ◌<◌, ◌≤◌, ◌∷◌, ◌++◌, ℕ, List, [], filter, length, take, get_or, not, ap, sym, subst, ◌∙◌, arith}
use Rattle.std.proofs.lemmas.Grind.{common_steps}
use Rattle.std.specs.Cmp.Lexicographic.{bytes_decides, pointwise}
use Rattle.std.specs.List.{All}
use Rattle.std.specs.Prelude.{nat_eq}
use Rattle.std.proofs.lemmas.Bool.{not-false, true≢false}
use Rattle.std.proofs.lemmas.List.{nil_from_length, take_all}
use Rattle.std.proofs.lemmas.List.Elements.{All-filter, All-more, All-nil, All-take}
use Rattle.std.proofs.lemmas.Result.{IfOk-weaker}
use Rattle.basket_sets.specs.Itemset.{IsRising}
use Rattle.basket_sets.proofs.theory.Rising.{front_rises, nil_rises}
use Rattle.mine_supports.specs.Extensions.{Group, extend, has_items, is_some, sets_of}
use Rattle.mine_supports.specs.Sizes.{IsRegular}
use Rattle.mine_supports.proofs.theory.Extensions.{item_more, none_more, sets_with, some_more}
use Rattle.mine_supports.proofs.theory.Grouped.{AreBefore, all_some, are_before, begun_as, item_begun, item_rises, next_begun, none_begun, one_rises}
use Rattle.mine_supports.proofs.extensions.Extensions.of_sets.Goals as goal
use Rattle.mine_supports.proofs.extensions.Extensions.of_sets.Goals.{in-Some+in_ok-push, then-ne+in_ok-found, then-ne-via-then-ne, then-ne-via-else-ne+then-not-rises, else-ne+else-not-rises, in_default}

-- the set after sets of one size
after : (sets : List (List ℕ)) (i : ℕ) (set first : List ℕ) (last : ℕ) (before ends : List (List ℕ)) → IsRegular sets → i < length sets → set ≡ get_or sets i set → set ≡ first ++ last ∷ []
    → before ++ ends ≡ filter is_some (take i sets) → AreBefore ends (first ++ last ∷ [])
after sets i set first last before ends regular here is parts are =
    let size = regular.0.0 in
    subst (AreBefore ends) parts
    (are_before sets i set before ends regular here is
    (are ∙ all_some (take i sets) (size, regular.0.1, All-take (λ s. length s ≡ size) i sets regular.0.2)))

pub loop-set-init : goal.loop-set-init
loop-set-init c = grind (arith, common_steps, nil_rises, All-nil, begun_as, none_begun)

pub loop-set-preserved : goal.loop-set-preserved
loop-set-preserved c =
    let sets = c.args.sets.now in
    let i = c.loop-set.set-index in
    let set = c.set-item.result in
    let here = c.loop-set-test.true in
    let inv = c.loop-set.invariant in
    let found = c.loop-set.found in
    let prefix = c.loop-set.prefix.now in
    let items = c.loop-set.items.items in
    let rising = All-more IsRising sets i set here inv.rising (subst IsRising c.set-item.is c.items.ensures.rising) in
    elim c.match-split_last.branch [
      | in-Some+in_ok-push w ↦
          (let first = w.in-Some.first.now in
          let last = w.in-Some.last.now in
          let parts = sym c.items.ensures.items ∙ w.in-Some.ensures.cases.0 in
          let pushed = ap (λ v. v.items) w.items-is ∙ w.in_ok-push.ensures.items in
          let before = λ (regular : IsRegular sets). after sets i set first last (sets_of found) (extend prefix items) regular here c.set-item.is parts inv.sets in
          elim w.if-ne.branch [
            | then-ne+in_ok-found v ↦
                (let flushed = w.found-is ∙ v.found-is ∙ v.in_ok-found.ensures ∙ ap (λ l. found ++ filter has_items (record { prefix = prefix; items = l } ∷ [])) v.deref-then-ne.ensures.value in
                let begun = ap (λ b. b.now) (w.prefix-is ∙ v.prefix-is) in
                let one = pushed ∙ ap (λ l. l ++ last ∷ []) (ap (λ a. a.items) v.items-is ∙ v.clear.ensures.items) in
                let differ : IsRegular sets → prefix ≡ first → ⊥ = λ regular same. elim v.then-ne.branch [
                  | then-ne-via-then-ne u ↦ true≢false (sym u.if-ne.true ∙ w.ne.ensures ∙ ap not ((bytes_decides first prefix).1 (sym same)))
                  | then-ne-via-else-ne+then-not-rises u ↦
                      (let up = item_rises prefix items last (subst (λ p. AreBefore (extend prefix items) (p ++ last ∷ [])) (sym same) (before regular)) inv.items in
                      true≢false (sym (u.rises.ensures.1 (subst IsRising (ap (λ l. l ++ last ∷ []) (sym u.deref.ensures.value)) up)) ∙ u.if-not-rises.true))
                ] in
                record {
                  sets = (λ k. sets_of (flushed k) ++ extend (begun k) (one k)) ∙ ap (λ l. l ++ (first ++ last ∷ []) ∷ []) (sets_with found prefix items)
                      ∙ some_more sets i set first last (sets_of found ++ extend prefix items) here c.set-item.is parts inv.sets;
                  prefix = subst IsRising (sym begun) (front_rises first last (subst IsRising parts c.items.ensures.rising));
                  items = subst IsRising (sym one) (one_rises last);
                  rising = rising;
                  begun = λ regular. begun_as (found ++ filter has_items (record { prefix = prefix; items = items } ∷ [])) _ first _ (last ∷ []) _ flushed begun one
                      (next_begun found prefix items first last (before regular) (inv.begun regular) (differ regular));
                })
            | else-ne+else-not-rises v ↦
                (let same = w.found-is ∙ v.found-is in
                let kept = ap (λ b. b.now) (w.prefix-is ∙ v.prefix-is) in
                let shared : first ≡ prefix = (bytes_decides first prefix).0 (not-false (pointwise nat_eq first prefix) (sym w.ne.ensures ∙ v.if-ne.false)) in
                let more = pushed ∙ ap (λ l. l ++ last ∷ []) (ap (λ a. a.items) v.items-is) in
                record {
                  sets = (λ k. sets_of (same k) ++ extend (kept k) (more k)) ∙ item_more (sets_of found) prefix items last
                      ∙ ap (λ l. (sets_of found ++ extend prefix items) ++ (l ++ last ∷ []) ∷ []) (sym shared)
                      ∙ some_more sets i set first last (sets_of found ++ extend prefix items) here c.set-item.is parts inv.sets;
                  prefix = subst IsRising (sym kept) inv.prefix;
                  items = subst IsRising (ap (λ l. l ++ last ∷ []) v.deref.ensures.value ∙ sym more) (v.rises.ensures.0 v.if-not-rises.false);
                  rising = rising;
                  begun = λ regular. begun_as found _ prefix _ (items ++ last ∷ []) _ same kept more (item_begun found prefix items last (inv.begun regular));
                })
          ])
      | in_default w ↦
          (let none : set ≡ [] = sym c.items.ensures.items ∙ nil_from_length c.items.result.now w.in_default.ensures.cases in
          record {
            sets = (λ k. sets_of (w.found-is k) ++ extend ((w.prefix-is k).now) ((w.items-is k).items)) ∙ none_more sets i set (sets_of found ++ extend prefix items) here c.set-item.is none inv.sets;
            prefix = subst IsRising (sym (ap (λ b. b.now) w.prefix-is)) inv.prefix;
            items = subst IsRising (sym (ap (λ a. a.items) w.items-is)) inv.items;
            rising = rising;
            begun = λ regular. begun_as found _ prefix _ items _ w.found-is (ap (λ b. b.now) w.prefix-is) (ap (λ a. a.items) w.items-is) (inv.begun regular);
          })
    ]

-- the sets once all are added
listed : (sets : List (List ℕ)) (i : ℕ) (found : List Group) (prefix items given : List ℕ) → length sets ≤ i → given ≡ items → sets_of found ++ extend prefix items ≡ filter is_some (take i sets)
    → (extensions : List Group) → extensions ≡ found ++ filter has_items (record { prefix = prefix; items = given } ∷ []) → sets_of extensions ≡ filter is_some sets
listed sets i found prefix items given past same are extensions is = grind (arith, common_steps)

pub returns-clause-rising : goal.returns-clause-rising
returns-clause-rising c =
    let sets = c.args.sets.now in
    let rise = All-filter is_some IsRising sets (subst (All IsRising) (take_all c.loop-set.set-index sets c.loop-set-test.false) c.loop-set.invariant.rising) in
    IfOk-weaker c.with_items-2.result _ _
    (λ extensions is. subst (All IsRising) (sym (listed sets c.loop-set.set-index c.loop-set.found c.loop-set.prefix.now c.loop-set.items.items c.deref-2.result.now c.loop-set-test.false c.deref-2.ensures.value c.loop-set.invariant.sets extensions is)) rise)
    c.with_items-2.ensures

pub returns-clause-all : goal.returns-clause-all
returns-clause-all c sized = grind (arith, common_steps, IfOk-weaker, listed, all_some)
