-- What rows of bits weigh.
use Rattle.std.proofs.Common.{◌≡◌, ◌≢◌, ℕ, zero, suc, ◌+◌, ◌*◌, ◌<◌, ◌≤◌, ◌^◌, ◌/◌, ◌%◌, Bool, true, false, ◌&&◌, ◌||◌, List, [], ◌∷◌, length, get_or, map, cond, eqb, ltb, sum, refl, sym, ap, ◌∙◌, subst, inl, inr, arith}
use Rattle.std.proofs.lemmas.Grind.{common_steps}
use Rattle.std.specs.Prelude.{All, bit_and, bit_or}
use Rattle.std.specs.Simd.Lanes.{zip2}
use Rattle.mine_rows.specs.declared.bit_rows.BitRow.{BitRow}
use Rattle.mine_rows.specs.Rows.{IsBitRow}
use Rattle.std.specs.List.{filter, list_any, range_with_len, sum_by}
use Rattle.std.proofs.lemmas.Bool.{and_parts, eqb-true, false_from_ne_true, lt-ltb, true≢false}
use Rattle.std.proofs.lemmas.Bool.Decides.{nat_tests}
use Rattle.std.proofs.lemmas.List.Folds.{list_any_at}
use Rattle.std.proofs.lemmas.Nat.{div_below, mod-pow-add, or_mod, or_shr}
use Rattle.std.proofs.lemmas.Grind.{div_ceil_times}
use Rattle.mine_rows.specs.Weights.{KeepsWeights}
use Rattle.mine_rows.specs.Bits.{MOST_WORDS, shared_bits, word_count, words_from, words_of}
use Rattle.std.proofs.lemmas.List.Elements.{Contains-get_or, All-head, All-tail, All-weaker}
use Rattle.std.proofs.lemmas.List.Sums.{get_or-le-sum_by, sum_by-append, sum_by-cons}
use Rattle.basket_sets.specs.Itemset.{has}
use Rattle.basket_sets.specs.Database.{MOST_WEIGHT}
use Rattle.basket_sets.proofs.theory.Members.{Member, Member-filter, Member-from_Contains, Member-from_filter, Member-map}
use Rattle.basket_sets.proofs.theory.Merging.{sum_by-add, sum_by-same}
use Rattle.basket_sets.proofs.theory.Tests.{Member-at, each_of}
use Rattle.basket_sets.proofs.theory.Rising.{Member-from_has, has-from_Member, same_test}
use Rattle.basket_sets.proofs.theory.Ranges.{Member-range, range_more}
use Rattle.mine_rows.specs.declared.plane.Plane.{Plane}
use Rattle.mine_rows.specs.Cover.{IsCover, common, cover_weight}
use Rattle.mine_rows.specs.Planes.{ArePlanes, IsPlane, are_ones, bits_of, has_bit, plane_weight}
use Rattle.mine_rows.proofs.CoverLemmas.{cover_in_range, cover_light}
use Rattle.mine_rows.proofs.WordLemmas.{length-words, words_and, words_same, words_share}

-- ---- the bits of a number

bit_value : (r : ℕ) → r < 2 → cond (eqb r 1) 1 0 ≡ r
bit_value r below = grind (arith, nat_tests)

-- what a bit of a number stands for
abbrev part : ℕ → ℕ → ℕ
part number bit = cond (has_bit bit number) 1 0 * 2 ^ bit

parts-add : (number m : ℕ) → sum_by (part number) (range_with_len 0 m) ≡ number % 2 ^ m
parts-add number zero = omega arith
parts-add number (suc m) =
    let more = ap (sum_by (part number)) (range_more 0 m) ∙ sum_by-append (part number) (range_with_len 0 m) ((0 + m) ∷ []) in
    let rest = parts-add number m in
    let one = mod-pow-add number 1 m in
    let e : 1 + m ≡ suc m = omega arith in
    let f : 0 + m ≡ m = omega arith in
    let value : cond (has_bit m number) 1 0 ≡ number / 2 ^ m % 2 = bit_value (number / 2 ^ m % 2) (omega arith) in
    let last : sum_by (part number) ((0 + m) ∷ []) ≡ (number / 2 ^ m % 2 ^ 1) * 2 ^ m =
    sum_by-cons (part number) (0 + m) [] ∙ ap (λ k. part number k + 0) f ∙ ap (λ v. v * 2 ^ m + 0) value ∙ omega arith in
    more ∙ ap (λ n. n + sum_by (part number) ((0 + m) ∷ [])) rest ∙ ap (λ n. number % 2 ^ m + n) last ∙ swap (number % 2 ^ m) ((number / 2 ^ m % 2 ^ 1) * 2 ^ m)
    ∙ sym one ∙ ap (λ k. number % 2 ^ k) e
  where
    swap : (a b : ℕ) → a + b ≡ b + a
    swap a b = omega arith

-- a sum over what a test keeps, where what it drops adds nothing
sum-kept : (f : ℕ → ℕ) (keeps : ℕ → Bool) (xs : List ℕ) → ((x : ℕ) → keeps x ≡ false → f x ≡ 0) → sum_by f (filter keeps xs) ≡ sum_by f xs
sum-kept f keeps [] none = refl
sum-kept f keeps (x ∷ xs) none = grind (arith, common_steps, sum-kept f keeps xs none)

-- a weight is the sum of its bits
pub bits-add : (weights : List ℕ) (tid : ℕ) → tid < length weights → sum weights ≤ MOST_WEIGHT → sum_by (part (get_or weights tid 0)) (bits_of weights) ≡ get_or weights tid 0
unfolding bits_of
bits-add weights tid here light =
    let number : ℕ = get_or weights tid 0 in
    let small : number < 2 ^ 40 = (let le = get_or-le-sum_by (λ x. x) weights tid 0 here in omega arith) in
    let all = sum-kept (part number) (λ bit. list_any (has_bit bit) weights) (range_with_len 0 40) (λ bit lost. lacks bit weights tid here lost) in
    all ∙ parts-add number 40 ∙ whole number small
  where
    whole : (n : ℕ) → n < 2 ^ 40 → n % 2 ^ 40 ≡ n
    whole n below = omega arith

    lacks : (bit : ℕ) (ws : List ℕ) (i : ℕ) → i < length ws → list_any (has_bit bit) ws ≡ false → part (get_or ws i 0) bit ≡ 0
    lacks bit ws i inside lost = ap (λ b. cond b 1 0 * 2 ^ bit) (false_from_ne_true _ (λ h. true≢false (sym (list_any_at (has_bit bit) ws i 0 inside h) ∙ lost))) ∙ omega arith

-- the bits of two numbers together
pub either_bit : (bit a b : ℕ) → has_bit bit (bit_or a b) ≡ (has_bit bit a || has_bit bit b)
either_bit bit a b = grind (arith, common_steps, or_shr a b bit, or_mod (a / 2 ^ bit) (b / 2 ^ bit) 1)

-- ---- planes tid by tid

pub tid_in : (test : ℕ → Bool) (i : ℕ) → test i ≡ true → (ltb i (i + 1) && test i) ≡ true
tid_in test i h = ap (λ b. b && test i) (lt-ltb i (i + 1) (omega arith)) ∙ h

pub tid_apart : (test : ℕ → Bool) (i t : ℕ) → t ≢ i → (ltb t (i + 1) && test t) ≡ (ltb t i && test t)
tid_apart test i t differ = grind (arith, common_steps)

pub tid_out : (test : ℕ → Bool) (i : ℕ) → test i ≡ false → (t : ℕ) → (ltb t (i + 1) && test t) ≡ (ltb t i && test t)
tid_out test i h t = grind (arith, common_steps)

pub plane_end : (weights : List ℕ) (bit n t : ℕ) → length weights ≤ n → (ltb t n && has_bit bit (get_or weights t 0)) ≡ has_bit bit (get_or weights t 0)
plane_end weights bit n t most = grind (arith, common_steps)

-- ---- rows of bits

pub filter_both : (p q : ℕ → Bool) (xs : List ℕ) → filter (λ t. p t && q t) xs ≡ filter q (filter p xs)
filter_both p q [] = refl
filter_both p q (x ∷ xs) = grind (arith, common_steps, filter_both p q xs)

pub room : (n : ℕ) → n ≤ word_count n * 64
room n = let most = (div_ceil_times n 64 (omega arith)).0 in omega arith

-- the word of a tid is there
pub word_is_there : (tid n : ℕ) → tid < n → tid / 64 < word_count n
word_is_there tid n below = let most = room n in div_below tid 64 (word_count n) (omega arith) (omega arith)

module _ (weights cover : List ℕ) (is : IsCover weights cover) where
  in_words : filter (has cover) (range_with_len 0 (word_count (length weights) * 64)) ≡ cover
  in_words = cover_in_range cover (word_count (length weights) * 64) is.rises
      (λ tid m. let low = is.below tid (has-from_Member cover tid m) in let wide = room (length weights) in omega arith)

  -- how many tids of a cover pass a test
  pub row_shares : (q : ℕ → Bool) → shared_bits (words_of (length weights) cover) (words_from q 0 (word_count (length weights))) ≡ length (filter q cover)
  row_shares q = words_share (has cover) q 0 (word_count (length weights))
      ∙ ap length (filter_both (has cover) q (range_with_len 0 (word_count (length weights) * 64)) ∙ ap (filter q) in_words)

-- the words that two covers share are those of what they share
pub share_is_common : (n : ℕ) (first second : List ℕ) → words_from (λ t. has first t && has second t) 0 (word_count n) ≡ words_of n (common first second)
share_is_common n first second = grind (arith, common_steps, words_same, same_test, and_parts, has-from_Member, Member-from_filter, Member-from_has, Member-filter)

-- ---- what the tids of a row weigh

ones-weigh : (weights cover : List ℕ) → are_ones weights ≡ true → ((tid : ℕ) → Member tid cover → tid < length weights) → cover_weight weights cover ≡ length cover
ones-weigh weights [] ones below = refl
ones-weigh weights (x ∷ cover) ones below =
    let rest = ones-weigh weights cover ones (λ tid m. below tid (inr m)) in
    let one = eqb-true (get_or weights x 0) 1 (each_of (λ weight. eqb weight 1) weights ones (get_or weights x 0) (Member-at weights x (below x (inl refl)))) in
    let all = sum_by-cons (λ tid. get_or weights tid 0) x cover in omega arith

pub ones_weigh : (weights cover : List ℕ) → are_ones weights ≡ true → IsCover weights cover → length cover ≡ cover_weight weights cover
ones_weigh weights cover ones is = sym (ones-weigh weights cover ones (λ tid m. is.below tid (has-from_Member cover tid m)))

sum-of_none : (xs : List ℕ) → sum_by (λ x. 0 * 2 ^ x) xs ≡ 0
sum-of_none [] = refl
sum-of_none (x ∷ xs) = let rest = sum-of_none xs in let all = sum_by-cons (λ y. 0 * 2 ^ y) x xs in omega arith

-- the weights of a cover, bit by bit
by_bits : (weights cover : List ℕ) → sum weights ≤ MOST_WEIGHT → ((tid : ℕ) → Member tid cover → tid < length weights)
    → sum_by (λ bit. length (filter (λ tid. has_bit bit (get_or weights tid 0)) cover) * 2 ^ bit) (bits_of weights) ≡ cover_weight weights cover
by_bits weights [] light below = sum-of_none (bits_of weights)
by_bits weights (x ∷ cover) light below =
    let number : ℕ = get_or weights x 0 in
    let many : ℕ → ℕ = λ bit. length (filter (λ tid. has_bit bit (get_or weights tid 0)) cover) * 2 ^ bit in
    let rest = by_bits weights cover light (λ tid m. below tid (inr m)) in
    let one = bits-add weights x (below x (inl refl)) light in
    let all = sum_by-cons (λ tid. get_or weights tid 0) x cover in
    sum_by-same (λ bit. length (filter (λ tid. has_bit bit (get_or weights tid 0)) (x ∷ cover)) * 2 ^ bit) (λ bit. part number bit + many bit) (bits_of weights)
    (λ bit. at (has_bit bit number) (filter (λ tid. has_bit bit (get_or weights tid 0)) cover) (2 ^ bit))
    ∙ sym (sum_by-add (part number) many (bits_of weights))
    ∙ ap (λ n. n + sum_by many (bits_of weights)) one ∙ ap (λ n. number + n) rest ∙ sym all
  where
    at : (b : Bool) (l : List ℕ) (power : ℕ) → length (cond b (x ∷ l) l) * power ≡ cond b 1 0 * power + length l * power
    at true l power = spread (length l) power
      where
        spread : (a p : ℕ) → suc a * p ≡ 1 * p + a * p
        spread a p = omega arith
    at false l power = omega arith

-- the planes of weights count them
sum-planes : (f : ℕ → ℕ) (g : Plane → ℕ) (planes : List Plane) → All (λ plane. g plane ≡ f plane.bit) planes → sum_by g planes ≡ sum_by f (map (λ plane. plane.bit) planes)
sum-planes f g [] all = refl
sum-planes f g (p ∷ planes) all =
    let rest = sum-planes f g planes (All-tail (λ (plane : Plane). g plane ≡ f plane.bit) p planes all) in
    let one = All-head (λ (plane : Plane). g plane ≡ f plane.bit) p planes all in
    let a = sum_by-cons g p planes in
    let b = sum_by-cons f p.bit (map (λ (plane : Plane). plane.bit) planes) in omega arith

pub planes_weigh : (weights cover : List ℕ) (planes : List Plane) → IsCover weights cover → sum weights ≤ MOST_WEIGHT
    → map (λ plane. plane.bit) planes ≡ bits_of weights → All (IsPlane weights) planes
    → sum_by (plane_weight (words_of (length weights) cover)) planes ≡ cover_weight weights cover
planes_weigh weights cover planes is light bits are =
    let many : ℕ → ℕ = λ bit. length (filter (λ tid. has_bit bit (get_or weights tid 0)) cover) * 2 ^ bit in
    sum-planes many (plane_weight (words_of (length weights) cover)) planes
    (λ i d here. let plane = get_or planes i d in
    ap (λ l. shared_bits (words_of (length weights) cover) l * 2 ^ plane.bit) (are i d here)
    ∙ ap (λ n. n * 2 ^ plane.bit) (row_shares weights cover is (λ tid. has_bit plane.bit (get_or weights tid 0))))
    ∙ ap (sum_by many) bits
    ∙ by_bits weights cover light (λ tid m. is.below tid (has-from_Member cover tid m))

low_bits : (weights : List ℕ) (bit : ℕ) → Member bit (bits_of weights) → bit < 40
unfolding bits_of
low_bits weights bit m = let r = Member-range 0 40 bit (Member-filter (λ b. list_any (has_bit b) weights) bit (range_with_len 0 40) m).0 in let high = r.1 in grind (arith, common_steps)

pub planes_narrow : (weights : List ℕ) (planes : List Plane) → map (λ plane. plane.bit) planes ≡ bits_of weights → All (λ plane. plane.bit < 40) planes
planes_narrow weights planes bits k d here =
    let plane = get_or planes k d in
    low_bits weights plane.bit (subst (Member plane.bit) bits (Member-map (λ (p : Plane). p.bit) plane planes (Member-from_Contains plane planes (Contains-get_or planes k d here))))

pub planes_wide : (weights : List ℕ) (planes : List Plane) → All (IsPlane weights) planes → All (λ plane. length plane.words.items ≡ word_count (length weights)) planes
planes_wide weights planes are = grind (arith, common_steps, All-weaker, length-words)

-- ---- two rows of bits

module _ (weights parent first second : List ℕ) (x y : BitRow) (p : IsBitRow weights parent first x) (q : IsBitRow weights parent second y) where
  pub row_words : zip2 bit_and x.words.items y.words.items ≡ words_of (length weights) (common first second)
  row_words = ap (λ l. zip2 bit_and l y.words.items) p.words ∙ ap (zip2 bit_and (words_of (length weights) first)) q.words
      ∙ words_and (has first) (has second) 0 (word_count (length weights)) ∙ share_is_common (length weights) first second

  pub row_ones : shared_bits x.words.items y.words.items ≡ length (common first second)
  row_ones = ap (λ l. shared_bits l y.words.items) p.words ∙ ap (shared_bits (words_of (length weights) first)) q.words ∙ row_shares weights first p.covers (has second)

-- ---- weights and their planes

module _ (weights : List ℕ) (ones : Bool) (planes : List Plane) (keeps : KeepsWeights weights ones) (planes_are : ArePlanes weights (are_ones weights) planes) (cover words : List ℕ) (is : IsCover weights cover) (are : words ≡ words_of (length weights) cover) where
  long : length words ≡ word_count (length weights)
  long = ap length are ∙ length-words (has cover) 0 (word_count (length weights))

  pub kept_few : length words ≤ MOST_WORDS
  kept_few = let most = keeps.few in let l = long in omega arith

  module _ (weighs : ones ≡ false) where
    bits : map (λ plane. plane.bit) planes ≡ bits_of weights
    bits = planes_are.bits ∙ ap (λ b. cond b [] (bits_of weights)) (sym keeps.ones_are ∙ weighs)

    pub kept_narrow : All (λ plane. plane.bit < 40) planes
    kept_narrow = planes_narrow weights planes bits

    pub kept_wide : All (λ plane. length plane.words.items ≡ length words) planes
    kept_wide = grind (arith, common_steps, All-weaker, long, planes_wide)

    pub kept_weigh : sum_by (plane_weight words) planes ≡ cover_weight weights cover
    kept_weigh = ap (λ l. sum_by (plane_weight l) planes) are ∙ planes_weigh weights cover planes is keeps.light bits planes_are.words

    pub kept_light : sum_by (plane_weight words) planes ≤ MOST_WEIGHT
    kept_light = let most = cover_light weights cover is.rises is.below in let all = kept_weigh in let top = keeps.light in omega arith
