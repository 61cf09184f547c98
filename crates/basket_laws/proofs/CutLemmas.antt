-- FIMI texts that are cut after line feeds.
use Rattle.std.proofs.Common.{◌≡◌, ◌∙◌, ◌≤◌, ◌++◌, ℕ, Bool, true, false, cond, List, [], ◌∷◌, Option, Some, None, Result, Ok, Err, ap, arith, length, refl, subst, sym, take}
use Rattle.std.proofs.lemmas.Grind.{common_steps}
use Rattle.std.specs.Prelude.{◌&&◌, nat_eq, nat_le, nat_lt}
use Rattle.std.specs.List.{flat_map, starts_with}
use Rattle.std.specs.Option.{option_map}
use Rattle.std.proofs.lemmas.Bool.Decides.{nat_tests}
use Rattle.std.proofs.lemmas.List.{append_assoc, append-nil, length-append, take_all}
use Rattle.std.proofs.lemmas.List.Sums.{fold-append}
use Rattle.basket_read.specs.declared.fault.ReadFault.{ReadFault}
use Rattle.basket_read.specs.declared.fault.ReadFault.TheVariants.{Heavy, TooLong}
use Rattle.basket_read.specs.Cut.{Cut, cut_at, cut_more}
use Rattle.basket_read.specs.Fimi.{MARK, MOST_BYTES, answer_of, baskets_of, fault_at, fimi_of, first_fault, is_good, is_line_feed, or_else, text_of}
use Rattle.basket_read.specs.Grammar.{PrefixesAreGood, GoodIsFaultless}
use Rattle.basket_read.specs.Laws.{LinesSayTheirs}
use Rattle.basket_sets.specs.declared.weighted.Weighted.{Weighted}
use Rattle.basket_sets.specs.Database.{MOST_WEIGHT}
use Rattle.basket_sets.specs.Support.{total_of}
use Rattle.basket_sets.proofs.theory.Support.{support-append}
use Rattle.basket_laws.specs.Cuts.{CutsAreParts, text_cut, with_line_feed}

both : (a b : Bool) → (a && b) ≡ true → (a ≡ true) × (b ≡ true)
both h1 h2 h3 = grind (arith, common_steps)

-- a front ends a line
ends : (front : List ℕ) → (cut_at is_line_feed (with_line_feed front)).last ≡ []
ends front = ap (λ (c : Cut). c.last) (fold-append (cut_more is_line_feed) (record { ended = []; last = [] }) front (10 ∷ []))

none_of_both : (first second : Option ReadFault) (counted : ReadFault → ReadFault) → or_else first (option_map counted second) ≡ None → (first ≡ None) × (second ≡ None)
none_of_both h1 h2 h3 h4 = grind (arith, common_steps)

-- ---- the mark

record HasText (front : List ℕ) : Type 0 where
  text : List ℕ
  alone : text_of (with_line_feed front) ≡ with_line_feed text
  before : (rest : List ℕ) → text_of (with_line_feed front ++ rest) ≡ with_line_feed text ++ rest

and_false : (b : Bool) → (b && false) ≡ false
and_false h1 = grind (arith, common_steps)

chosen : (bytes other : List ℕ) (b : Bool) → b ≡ false → cond b other bytes ≡ bytes
chosen h1 h2 h3 h4 = grind (arith, common_steps)

has_text : (front : List ℕ) → HasText front
has_text [] = record { text = []; alone = refl; before = λ rest. refl }
has_text (a ∷ []) = record {
  text = a ∷ [];
  alone = chosen _ _ _ (and_false _);
  before = λ rest. chosen _ _ _ (and_false _);
}
has_text (a ∷ b ∷ []) = record {
  text = a ∷ b ∷ [];
  alone = chosen _ _ _ (ap (λ e. nat_eq 239 a && e) (and_false (nat_eq 187 b)) ∙ and_false _);
  before = λ rest. chosen _ _ _ (ap (λ e. nat_eq 239 a && e) (and_false (nat_eq 187 b)) ∙ and_false _);
}
has_text (a ∷ b ∷ c ∷ front) = go (starts_with nat_eq (a ∷ b ∷ c ∷ []) MARK) refl
  where
    go : (m : Bool) → starts_with nat_eq (a ∷ b ∷ c ∷ []) MARK ≡ m → HasText (a ∷ b ∷ c ∷ front)
    go true is = record {
      text = front;
      alone = ap (λ m. cond m (with_line_feed front) (with_line_feed (a ∷ b ∷ c ∷ front))) is;
      before = λ rest. ap (λ m. cond m (with_line_feed front ++ rest) (with_line_feed (a ∷ b ∷ c ∷ front) ++ rest)) is;
    }
    go false is = record {
      text = a ∷ b ∷ c ∷ front;
      alone = ap (λ m. cond m (with_line_feed front) (with_line_feed (a ∷ b ∷ c ∷ front))) is;
      before = λ rest. ap (λ m. cond m (with_line_feed front ++ rest) (with_line_feed (a ∷ b ∷ c ∷ front) ++ rest)) is;
    }

module _ (prefixes_are_good : PrefixesAreGood is_good) (good_is_faultless : GoodIsFaultless is_good fault_at) (lines_say_theirs : LinesSayTheirs) where
  -- a good text has no mark
  unmarked : (bytes : List ℕ) → is_good bytes ≡ true → text_of bytes ≡ bytes
  unmarked h1 h2 = grind (arith, common_steps)

  -- ---- inputs

  pub record Says (bytes : List ℕ) (baskets : List Weighted) : Type 0 where
    pub few : length bytes ≤ MOST_BYTES
    pub good : is_good (text_of bytes) ≡ true
    pub said : baskets_of (text_of bytes) ≡ baskets
    pub light : total_of baskets ≤ MOST_WEIGHT

  pub from_ok : (bytes : List ℕ) (baskets : List Weighted) → fimi_of bytes ≡ Ok baskets → Says bytes baskets
  from_ok bytes baskets e = at (first_fault (text_of (take MOST_BYTES bytes))) refl (nat_lt MOST_BYTES (length bytes)) refl e
    where
      of_result : Result (List Weighted) ReadFault → List Weighted
      of_result (Ok b) = b
      of_result (Err fault) = []

      light_one : (b : Bool) → nat_le (total_of (baskets_of (text_of bytes))) MOST_WEIGHT ≡ b → cond b (Ok (baskets_of (text_of bytes))) (Err Heavy) ≡ Ok baskets
          → (baskets_of (text_of bytes) ≡ baskets) × (total_of (baskets_of (text_of bytes)) ≤ MOST_WEIGHT)
      light_one true is e = (ap of_result e, grind (arith, nat_tests, is))
      light_one false is e = absurd (let no : Err Heavy ≡ Ok baskets = e in cc)

      at : (fault : Option ReadFault) → first_fault (text_of (take MOST_BYTES bytes)) ≡ fault → (long : Bool) → nat_lt MOST_BYTES (length bytes) ≡ long
          → answer_of (or_else fault (cond long (Some TooLong) None)) (baskets_of (text_of bytes)) ≡ Ok baskets → Says bytes baskets
      at (Some fault) told long is e = absurd (let no : Err fault ≡ Ok baskets = e in cc)
      at None told true is e = absurd (let no : Err TooLong ≡ Ok baskets = e in cc)
      at None told false is e =
          let few : length bytes ≤ MOST_BYTES = grind (arith, nat_tests, is) in
          let none : first_fault (text_of bytes) ≡ None = ap (λ b. first_fault (text_of b)) (sym (take_all MOST_BYTES bytes few)) ∙ told in
          let q = light_one (nat_le (total_of (baskets_of (text_of bytes))) MOST_WEIGHT) refl e in
          record {
            few = few;
            good = (good_is_faultless (text_of bytes)).1 none;
            said = q.0;
            light = subst (λ b. total_of b ≤ MOST_WEIGHT) q.0 q.1;
          }

  into_ok : (bytes : List ℕ) → length bytes ≤ MOST_BYTES → is_good (text_of bytes) ≡ true → total_of (baskets_of (text_of bytes)) ≤ MOST_WEIGHT → fimi_of bytes ≡ Ok (baskets_of (text_of bytes))
  into_ok bytes few good light =
      let none : first_fault (text_of (take MOST_BYTES bytes)) ≡ None = ap (λ b. first_fault (text_of b)) (take_all MOST_BYTES bytes few) ∙ (good_is_faultless (text_of bytes)).0 good in
      let short : nat_lt MOST_BYTES (length bytes) ≡ false = grind (arith, nat_tests, few) in
      let weighs : nat_le (total_of (baskets_of (text_of bytes))) MOST_WEIGHT ≡ true = grind (arith, nat_tests, light) in
      grind (arith, common_steps)

  record Halves (front rest : List ℕ) (baskets : List Weighted) : Type 0 where
    first : List Weighted
    second : List Weighted
    of_first : fimi_of (with_line_feed front) ≡ Ok first
    of_second : fimi_of rest ≡ Ok second
    both_are : first ++ second ≡ baskets

  halves : (front rest : List ℕ) (baskets : List Weighted) → fimi_of (with_line_feed front ++ rest) ≡ Ok baskets → Halves front rest baskets
  halves front rest baskets e =
      let s = from_ok (with_line_feed front ++ rest) baskets e in
      let t = has_text front in
      let both = lines_say_theirs (with_line_feed t.text) rest (ends t.text) in
      let none = none_of_both (first_fault (with_line_feed t.text)) (first_fault rest) _ (sym both.fault ∙ (good_is_faultless (with_line_feed t.text ++ rest)).0 (ap is_good (sym (t.before rest)) ∙ s.good)) in
      let good : is_good rest ≡ true = (good_is_faultless rest).1 none.1 in
      let plain = unmarked rest good in
      let first = baskets_of (with_line_feed t.text) in
      let second = baskets_of rest in
      let whole : first ++ second ≡ baskets = sym both.baskets ∙ ap baskets_of (sym (t.before rest)) ∙ s.said in
      let long = length-append (with_line_feed front) rest in
      let weight = support-append first second [] in
      let all : total_of (first ++ second) ≤ MOST_WEIGHT = subst (λ b. total_of b ≤ MOST_WEIGHT) (sym whole) s.light in
      let few = s.few in
      record {
        first = first;
        second = second;
        of_first = into_ok (with_line_feed front) (omega (arith, long, few)) (ap is_good t.alone ∙ (good_is_faultless (with_line_feed t.text)).1 none.0)
            (subst (λ b. total_of b ≤ MOST_WEIGHT) (ap baskets_of (sym t.alone)) (omega (arith, weight, all))) ∙ ap (λ text. Ok (baskets_of text)) t.alone;
        of_second = into_ok rest (omega (arith, long, few)) (ap is_good plain ∙ good)
            (subst (λ b. total_of b ≤ MOST_WEIGHT) (ap baskets_of (sym plain)) (omega (arith, weight, all))) ∙ ap (λ text. Ok (baskets_of text)) plain;
        both_are = whole;
      }

  pub cuts_are_parts : CutsAreParts
  cuts_are_parts [] last baskets e = (baskets ∷ [], ap (λ r. r ∷ []) e, append-nil baskets)
  cuts_are_parts (front ∷ fronts) last baskets e =
      let h = halves front (text_cut fronts last) baskets (ap fimi_of (sym (append_assoc (with_line_feed front) (flat_map with_line_feed fronts) last)) ∙ e) in
      let more = cuts_are_parts fronts last h.second h.of_second in
      (h.first ∷ more.0, (λ i. h.of_first i ∷ more.1 i), ap (λ b. h.first ++ b) more.2 ∙ h.both_are)
