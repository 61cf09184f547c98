-- The lines of the rules of a listing, union after union.
use Rattle.std.proofs.Common.{◌≡◌, ◌∙◌, suc, add-one, arith, ◌+◌, ◌<◌, ◌≤◌, ◌++◌, ℕ, List, [], ◌∷◌, get_or, length, take, refl, ap, subst, sym}
use Rattle.std.proofs.lemmas.Grind.{common_steps}
use Rattle.std.specs.Prelude.{Vec}
use Rattle.std.specs.Global.{Global}
use Rattle.std.specs.List.{flat_map}
use Rattle.std.proofs.lemmas.List.{append-nil, get_or-map}
use Rattle.basket_core.specs.Listing.{Listing}
use Rattle.basket_sets.specs.declared.counted.Counted.{Counted}
use Rattle.basket_ranks.specs.Shards.{shard_start}
use Rattle.basket_ranks.proofs.theory.Shards.{shard_start-all, shard_start-zero}
use Rattle.basket_rules.specs.declared.association.Rule.{Rule}
use Rattle.basket_rules.specs.Consistency.{IsConsistent}
use Rattle.basket_rules.specs.Listed.{set_at}
use Rattle.basket_rules.specs.Rules.{rules_among, rules_among_with}
use Rattle.basket_rules.proofs.theory.Consistency.{frequent_is_consistent}
use Rattle.basket_rules.proofs.theory.Rules.{rules_of_baskets}
use Rattle.mine_pieces.specs.Pieces.{HasEach}
use Rattle.basket_report.specs.Bytes.{joined}
use Rattle.basket_report.specs.Report.{rules_report_of}
use Rattle.basket_report.specs.Rules.{ReportsRules, ReportsUnions, first_rules}
use Rattle.basket_report.specs.Style.{Wording}

none : Counted
none = record { set = []; count = 0 }

module _ (wording : Wording) (listing : Listing) (confidence : ℕ × ℕ) where
  abbrev Reports : ℕ → ℕ → List ℕ → Type 0
  Reports = ReportsUnions wording listing confidence

  pub no_rules : (from : ℕ) → Reports from from []
  no_rules from consistent = append-nil (first_rules wording listing confidence from)

  pub more_rules : (from number : ℕ) (text : List ℕ) (more : List Rule) → number < length listing.sets → Reports from number text
      → (IsConsistent listing.sets → more ≡ rules_among_with listing confidence (set_at listing.sets number)) → Reports from (number + 1) (text ++ rules_report_of wording more)
  more_rules from number text more below so new consistent =
      let f = λ (c : Counted). rules_among_with listing confidence c.set in
      let before = flat_map f (take number listing.sets) in
      let set = get_or listing.sets number none in
      let here : more ≡ f set = new consistent ∙ ap (rules_among_with listing confidence) (get_or-map (λ (c : Counted). c.set) listing.sets number none [] below) in
      grind (arith, common_steps)

  both : (from middle to : ℕ) (front rest : List ℕ) → Reports from middle front → Reports middle to rest → Reports from to (front ++ rest)
  both from middle to front rest before after consistent = grind (arith, common_steps)

  -- the texts between cuts
  cut_texts : (cut : ℕ → ℕ) (texts : List (Vec ℕ Global)) → ((i : ℕ) (text : Vec ℕ Global) → i < length texts → Reports (cut i) (cut (suc i)) (get_or texts i text).items)
      → Reports (cut 0) (cut (length texts)) (joined texts)
  cut_texts cut [] each = no_rules (cut 0)
  cut_texts cut (text ∷ texts) each =
      both (cut 0) (cut 1) (cut (suc (length texts))) text.items (joined texts) (each 0 text (omega arith))
      (cut_texts (λ i. cut (suc i)) texts (λ i other below. each (suc i) other (omega (arith, below))))

  all_rules : (number : ℕ) (text : List ℕ) → length listing.sets ≤ number → Reports 0 number text → IsConsistent listing.sets → text ≡ rules_report_of wording (rules_among listing confidence)
  all_rules number text whole so consistent = grind (arith, common_steps)

  -- the texts of all parts, one after another
  pub part_texts : (parts : ℕ) (texts : List (Vec ℕ Global)) → 1 ≤ parts
      → HasEach (λ part text. Reports (shard_start part parts (length listing.sets)) (shard_start (part + 1) parts (length listing.sets)) text.items) parts texts
      → IsConsistent listing.sets → joined texts ≡ rules_report_of wording (rules_among listing confidence)
  part_texts parts texts some has =
      let start : ℕ → ℕ = λ part. shard_start part parts (length listing.sets) in
      let all : Reports (start 0) (start (length texts)) (joined texts) =
      cut_texts start texts (λ i text below. subst (λ to. Reports (start i) (start to) (get_or texts i text).items) (add-one i) (has.each i text (omega (arith, below, has.count)))) in
      let end : start (length texts) ≡ length listing.sets = ap start has.count ∙ shard_start-all parts (length listing.sets) some in
      all_rules (start (length texts)) (joined texts) (omega (arith, end)) (subst (λ from. Reports from (start (length texts)) (joined texts)) (shard_start-zero parts (length listing.sets)) all)

  -- so is that of the rules of baskets whose listing it is
  pub report_of_baskets : (text : List ℕ) → (IsConsistent listing.sets → text ≡ rules_report_of wording (rules_among listing confidence)) → ReportsRules wording listing confidence text
  report_of_baskets text so baskets minimum is =
      so (subst IsConsistent (sym is.sets) (frequent_is_consistent baskets minimum))
      ∙ ap (rules_report_of wording) (rules_of_baskets listing confidence (rules_among listing confidence) (λ consistent. refl) baskets minimum is)
