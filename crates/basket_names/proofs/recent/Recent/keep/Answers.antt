use Rattle.std.proofs.Common.{◌<◌, length, refl, sym, subst, arith}
use Rattle.std.proofs.lemmas.List.Elements.{All-get_or, All-set}
use Rattle.basket_names.specs.declared.recent.Bucket.{Bucket}
use Rattle.basket_names.specs.Recent.{HasKnown}
use Rattle.basket_names.proofs.recent.Recent.keep.Goals as goal

pub returns-in-Some : goal.returns-in-Some
returns-in-Some c = λ names is h.
    let recent = c.args.self.now in
    let index = c.index-index.result in
    let bucket = c.in-Some.bucket.now in
    let known : Bucket → Type 0 = λ bucket. HasKnown names bucket.newer × HasKnown names bucket.older in
    let test = c.in-Some.ensures.variant.0 refl in
    let below : index < length recent.buckets.items = omega (arith, test, recent.buckets.ok.0) in
    let old : HasKnown names bucket.newer = subst (λ b. HasKnown names b.newer) (sym c.in-Some.ensures.value) (All-get_or known recent.buckets.items index bucket below h).0 in
    let new : HasKnown names c.new.result = subst (HasKnown names) (sym c.new.ensures) is in
    All-set known recent.buckets.items index (record { newer = c.new.result; older = bucket.newer }) (new, old) h
