-- Consequents level by level.
use Rattle.std.specs.Prelude.{bit_or}
use Rattle.std.proofs.lemmas.Grind.{common_steps}
use Rattle.std.proofs.Common.{◌≡◌, ℕ, ◌+◌, ◌-◌, ◌<◌, ◌≤◌, ◌^◌, ◌&&◌, Bool, true, cond, ltb, List, [], ◌∷◌, ◌++◌, length, take, get_or, map, filter, Some, None, sym, ap, ◌∙◌, subst, arith, add-one}
use Rattle.std.specs.List.{AllByRecursion, flat_map}
use Rattle.std.proofs.lemmas.Bool.{lt-ltb}
use Rattle.std.proofs.lemmas.List.{append_assoc, append-nil, map-append, take_more}
use Rattle.std.proofs.lemmas.List.Concat.{flat_map-append}
use Rattle.basket_core.specs.Listing.{Listing}
use Rattle.basket_sets.specs.declared.counted.Counted.{Counted}
use Rattle.basket_sets.specs.Itemset.{IsRising}
use Rattle.basket_sets.specs.Subsets.{subsets_of, subsets_up_to}
use Rattle.std.proofs.lemmas.Simd.{map-map}
use Rattle.basket_sets.proofs.theory.Items.{filter-map}
use Rattle.basket_sets.proofs.theory.Members.{Member, Member-filter, Member-map, All-from_Member, at_Member}
use Rattle.basket_sets.proofs.theory.Rising.{contains_each}
use Rattle.basket_sets.proofs.theory.Subsets.{IsSubset-from_Member}
use Rattle.basket_rules.specs.declared.association.Rule.{Rule}
use Rattle.basket_rules.specs.declared.consequents.Consequent.{Consequent}
use Rattle.basket_rules.specs.declared.consequents.TheConstants.{MOST_BITS}
use Rattle.basket_rules.specs.Consistency.{IsConsistent}
use Rattle.basket_rules.specs.Listed.{set_at}
use Rattle.basket_rules.specs.Consequents.{has_bit, longer, no_bits, side_of, with_bit}
use Rattle.basket_rules.specs.Rules.{is_confident_among, rule_among, rules_among_with, rules_among, consequents_of, IsConsequent, IsRuleFor, KeepsConfident}
use Rattle.basket_rules.proofs.SearchLemmas.{none, set_is}
use Rattle.basket_sets.proofs.theory.Ranges.{filter_members}
use Rattle.basket_rules.proofs.RuleLemmas.{is_met, met_falls}
use Rattle.basket_rules.proofs.ConsequentLemmas.{sides_of, sides_are_subsets, all_longer, chosen_rises, first_longer, kept_longer, fewer_longer, side_grows}
use Rattle.basket_rules.proofs.SizeLemmas.{joined, consequents_are}
use Rattle.basket_rules.proofs.theory.Consistency.{set_nonempty}

-- ---- what is kept of a level

module _ (listing : Listing) (confidence : ℕ × ℕ) (number : ℕ) where
  -- the same of the first of the consequents that are tried
  abbrev pub IsKeptUpTo : ℕ → List Consequent → List Consequent → List Rule → List Rule → Type 0
  IsKeptUpTo count tried met old new = IsConsistent listing.sets
      → AllByRecursion (λ consequent. IsConsequent listing number (side_of (set_at listing.sets number) consequent)) tried
      → (met ≡ filter (λ consequent. is_confident_among listing confidence (set_at listing.sets number) (side_of (set_at listing.sets number) consequent)) (take count tried))
      × (new ≡ old ++ map (λ consequent. rule_among listing (set_at listing.sets number) (side_of (set_at listing.sets number) consequent)) met)

  some_rule : (b : Bool) (rule expected : Rule) → Some rule ≡ cond b (Some expected) None → (b ≡ true) × (rule ≡ expected)
  some_rule h1 h2 h3 h4 = grind (arith, common_steps)

  module _ (count : ℕ) (tried : List Consequent) (consequent : Consequent) (below : count < length tried) (here : consequent ≡ get_or tried count consequent) where
    tried_one : AllByRecursion (λ r. IsConsequent listing number (side_of (set_at listing.sets number) r)) tried → IsConsequent listing number (side_of (set_at listing.sets number) consequent)
    tried_one all = grind (arith, common_steps)

    filtered : (test : Consequent → Bool) (b : Bool) → test consequent ≡ b → filter test (take (count + 1) tried) ≡ filter test (take count tried) ++ cond b (consequent ∷ []) []
    filtered test b e = grind (arith, common_steps)

    pub kept_one : (met : List Consequent) (old new : List Rule) (rule : Rule) → IsRuleFor listing confidence number (side_of (set_at listing.sets number) consequent) (Some rule)
        → IsKeptUpTo count tried met old new → IsKeptUpTo (count + 1) tried (met ++ consequent ∷ []) old (new ++ rule ∷ [])
    kept_one met old new rule for so consistent all =
        let h = so consistent all in
        let union = set_at listing.sets number in
        let test : Consequent → Bool = λ r. is_confident_among listing confidence union (side_of union r) in
        let made : Consequent → Rule = λ r. rule_among listing union (side_of union r) in
        let found = some_rule (test consequent) rule (made consequent) (for consistent (tried_one all)) in (
          ap (λ l. l ++ consequent ∷ []) h.0 ∙ sym (filtered test true found.0),
          ap (λ l. l ++ rule ∷ []) h.1 ∙ append_assoc old (map made met) (rule ∷ []) ∙ ap (λ r. old ++ (map made met ++ r ∷ [])) found.1
              ∙ ap (λ l. old ++ l) (sym (map-append made met (consequent ∷ []))),
        )

    pub kept_none : (met : List Consequent) (old new : List Rule) → IsRuleFor listing confidence number (side_of (set_at listing.sets number) consequent) None
        → IsKeptUpTo count tried met old new → IsKeptUpTo (count + 1) tried met old new
    kept_none met old new for so consistent all = grind (arith, common_steps)

-- ---- the rules of a union, up to a size of their consequents

-- the consequents of a size that are tried, and the rules with smaller ones
pub record IsLevel (listing : Listing) (confidence : ℕ × ℕ) (union : List ℕ) (size : ℕ) (consequents : List Consequent) (rules : List Rule) : Type 0 where
  pub within : (consequent : Consequent) → Member consequent consequents → Member consequent (sides_of size 0 union)
  pub all : filter (λ consequent. is_met listing confidence union (side_of union consequent)) consequents ≡ filter (λ consequent. is_met listing confidence union (side_of union consequent)) (sides_of size 0 union)
  pub smaller : rules ≡ map (rule_among listing union) (filter (is_met listing confidence union) (subsets_up_to (size - 1) union))

abbrev pub IsLevelAt : Listing → ℕ × ℕ → ℕ → ℕ → List Consequent → List Rule → Type 0
IsLevelAt listing confidence number size consequents rules = IsConsistent listing.sets → IsLevel listing confidence (set_at listing.sets number) size consequents rules

pub first_level : (listing : Listing) (confidence : ℕ × ℕ) (number : ℕ) → length (set_at listing.sets number) ≤ MOST_BITS
    → IsLevelAt listing confidence number 1 (longer (length (set_at listing.sets number)) (no_bits ∷ [])) []
first_level listing confidence number few consistent = grind (arith, common_steps, first_longer, Member, is_met)

right_sides : (listing : Listing) (number size : ℕ) (consequents : List Consequent) → IsRising (set_at listing.sets number) → length (set_at listing.sets number) ≤ MOST_BITS
    → 1 ≤ size → size < length (set_at listing.sets number)
    → ((consequent : Consequent) → Member consequent consequents → Member consequent (sides_of size 0 (set_at listing.sets number))) → AllByRecursion (λ consequent. IsConsequent listing number (side_of (set_at listing.sets number) consequent)) consequents
right_sides listing number size consequents up few some less within = All-from_Member (λ consequent. IsConsequent listing number (side_of (set_at listing.sets number) consequent)) consequents (λ consequent m.
    let union = set_at listing.sets number in
    let side = side_of union consequent in
    let s = IsSubset-from_Member size union side up
    (subst (Member side) (sides_are_subsets size union few) (Member-map (side_of union) consequent (sides_of size 0 union) (within consequent m))) in
    ((s.rises, (λ e. let z : length side ≡ 0 = ap length e in let k = s.sized in omega arith), contains_each union side s.within), (let k = s.sized in omega arith)))

-- a test of the sides, and what is made of those that pass
filtered_sides : {X : Type 0} (test : List ℕ → Bool) (made : List ℕ → X) (side : Consequent → List ℕ) (consequents : List Consequent)
    → map (λ r. made (side r)) (filter (λ r. test (side r)) consequents) ≡ map made (filter test (map side consequents))
filtered_sides test made side consequents = sym (map-map made side (filter (λ r. test (side r)) consequents)) ∙ sym (ap (map made) (filter-map side test consequents))

module _ (listing : Listing) (confidence : ℕ × ℕ) (number size : ℕ) (below : number < length listing.sets) (few : length (set_at listing.sets number) ≤ MOST_BITS) (some : 1 ≤ size)
    (less : size < length (set_at listing.sets number)) (consequents met : List Consequent) (rules more : List Rule) (keeps : KeepsConfident listing confidence number consequents met rules more)
    (level : IsLevelAt listing confidence number size consequents rules) (consistent : IsConsistent listing.sets) where
  rises : IsRising (set_at listing.sets number)
  rises = (set_nonempty listing.sets consistent number below).0

  -- the sides that are met
  abbrev test : Consequent → Bool
  test consequent = is_met listing confidence (set_at listing.sets number) (side_of (set_at listing.sets number) consequent)

  sides_fall : (index : ℕ) (consequent : Consequent) → test (with_bit index consequent) ≡ true → test consequent ≡ true
  sides_fall index consequent =
      let set = set_at listing.sets number in
      met_falls listing number below consistent confidence (side_of set (with_bit index consequent)) (side_of set consequent)
      (chosen_rises (has_bit (bit_or consequent.bits (2 ^ index))) 0 set rises) (chosen_rises (has_bit consequent.bits) 0 set rises)
      (contains_each (side_of set (with_bit index consequent)) (side_of set consequent) (side_grows set index consequent))

  kept : (met ≡ filter test (sides_of size 0 (set_at listing.sets number))) × (more ≡ rules ++ map (λ consequent. rule_among listing (set_at listing.sets number) (side_of (set_at listing.sets number) consequent)) met)
  kept =
      let set = set_at listing.sets number in
      let l = level consistent in
      let all = right_sides listing number size consequents rises few some less l.within in
      let k = keeps consistent all in
      grind (arith, common_steps, filter_members, lt-ltb, at_Member)

  pub next_level : IsLevel listing confidence (set_at listing.sets number) (size + 1) (longer (length (set_at listing.sets number)) met) more
  next_level =
      let set = set_at listing.sets number in
      let sides = sides_of size 0 set in
      let made = rule_among listing set in
      let p = is_met listing confidence set in
      let met_is = kept.0 in
      let next : longer (length set) sides ≡ sides_of (size + 1) 0 set = all_longer size set few ∙ ap (λ n. sides_of n 0 set) (sym (add-one size)) in
      record {
        within = λ consequent m. subst (Member consequent) next (fewer_longer test (length set) sides consequent (subst (λ r. Member consequent (longer (length set) r)) met_is m));
        all = ap (λ r. filter test (longer (length set) r)) met_is ∙ kept_longer test sides_fall (length set) sides ∙ ap (filter test) next;
        smaller = kept.1 ∙ (λ i. (level consistent).smaller i ++ map (λ consequent. made (side_of set consequent)) (met_is i))
            ∙ ap (λ r. map made (filter p (subsets_up_to (size - 1) set)) ++ r)
            (filtered_sides p made (side_of set) sides ∙ ap (λ s. map made (filter p s)) (sides_are_subsets size set few))
            ∙ joined made p set size some ∙ ap (λ n. map made (filter p (subsets_up_to n set))) (less_one size);
      }
    where
      less_one : (n : ℕ) → n ≡ n + 1 - 1
      less_one n = omega arith

-- ---- all sizes but the union's own

-- the consequents are those that are smaller than the union
met_sides : (listing : Listing) (confidence : ℕ × ℕ) (union : List ℕ) → filter (is_met listing confidence union) (consequents_of union) ≡ filter (is_confident_among listing confidence union) (consequents_of union)
met_sides listing confidence union = filter_members (is_met listing confidence union) (is_confident_among listing confidence union) (consequents_of union) (λ consequent m.
    ap (λ b. b && is_confident_among listing confidence union consequent) (Member-filter (λ r. ltb (length r) (length union)) consequent (subsets_of union) m).1)

pub all_levels : (listing : Listing) (confidence : ℕ × ℕ) (number size : ℕ) (consequents : List Consequent) (rules : List Rule) → number < length listing.sets
    → length (set_at listing.sets number) ≤ size → (1 ≤ length (set_at listing.sets number) → size ≤ length (set_at listing.sets number))
    → IsLevelAt listing confidence number size consequents rules → IsConsistent listing.sets → rules ≡ rules_among_with listing confidence (set_at listing.sets number)
all_levels listing confidence number size consequents rules below low high level consistent = grind (arith, common_steps, set_nonempty, is_met, consequents_are, met_sides)

-- ---- union after union

-- the rules of the sets before an index
abbrev pub AreRulesUpTo : Listing → ℕ × ℕ → ℕ → List Rule → Type 0
AreRulesUpTo listing confidence number rules =
    IsConsistent listing.sets → rules ≡ flat_map (λ c. rules_among_with listing confidence c.set) (take number listing.sets)

pub more_rules : (listing : Listing) (confidence : ℕ × ℕ) (number : ℕ) (rules more : List Rule) → number < length listing.sets → AreRulesUpTo listing confidence number rules
    → (IsConsistent listing.sets → more ≡ rules_among_with listing confidence (set_at listing.sets number)) → AreRulesUpTo listing confidence (number + 1) (rules ++ more)
more_rules listing confidence number rules more below so new consistent =
    let f = λ (c : Counted). rules_among_with listing confidence c.set in
    (λ i. so consistent i ++ (new consistent ∙ ap (rules_among_with listing confidence) (set_is listing.sets number none below) ∙ sym (append-nil (f (get_or listing.sets number none)))) i)
    ∙ sym (flat_map-append f (take number listing.sets) (get_or listing.sets number none ∷ []))
    ∙ ap (flat_map f) (sym (take_more listing.sets number none below))

pub all_rules : (listing : Listing) (confidence : ℕ × ℕ) (number : ℕ) (rules : List Rule) → length listing.sets ≤ number → AreRulesUpTo listing confidence number rules
    → IsConsistent listing.sets → rules ≡ rules_among listing confidence
all_rules listing confidence number rules whole so consistent = grind (arith, common_steps)
