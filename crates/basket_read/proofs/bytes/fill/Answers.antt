use Rattle.std.proofs.Common.{◌≡◌, ◌≤◌, ◌+◌, ◌-◌, ◌++◌, ℕ, List, take, drop, length, ap, sym, ◌∙◌, subst, arith}
use Rattle.std.proofs.lemmas.List.{length-append, length-drop, length-take, take_all, take-take, take-append-le}
use Rattle.std.proofs.lemmas.Grind.{common_steps}
use Rattle.std.specs.Prelude.{Vec}
use Rattle.std.specs.declared.alloc.Global.{Global}
use Rattle.std.specs.Io.KnownBytes.{Consumes}
use Rattle.basket_read.proofs.InputLemmas.{take_after}
use Rattle.std.proofs.KnownBytes.{Consumes-trans}
use Rattle.basket_read.proofs.bytes.fill.Goals as goal
use Rattle.basket_read.proofs.bytes.fill.Goals.{then-filled-len+in_ok-resize, else-filled-len}

-- what is filled stays as the buffer grows
kept : (old new : List ℕ) (filled n : ℕ) → filled ≡ length old → filled ≤ n → take filled (take n old ++ new) ≡ take filled old
kept old new filled n full more = ap (λ l. take filled (l ++ new)) (take_all n old (omega arith)) ∙ take-append-le filled old new (omega arith)

-- what is read comes after what was filled
read_after : (buffer read after more : List ℕ) (filled count len : ℕ) → filled ≤ length buffer → count ≤ length read → filled + count ≤ len
    → (take (filled + count) (take len ((take filled buffer ++ (read ++ after)) ++ more)) ≡ take filled buffer ++ take count read)
    × (filled + count ≤ length (take len ((take filled buffer ++ (read ++ after)) ++ more)))
read_after buffer read after more filled count len within some fits =
    let whole = take filled buffer ++ (read ++ after) in
    let prefix = length-take filled buffer in
    let all = length-append (take filled buffer) (read ++ after) in
    let later = length-append read after in
    let longer = length-append whole more in
    let cut = length-take len (whole ++ more) in (
      take-take (filled + count) len (whole ++ more) fits ∙ take-append-le (filled + count) whole more (omega arith)
          ∙ take_after (take filled buffer) (read ++ after) (filled + count) count (omega arith) ∙ ap (λ l. take filled buffer ++ l) (take-append-le count read after some),
      omega arith,
    )

pub loop-filled-preserved : goal.loop-filled-preserved
loop-filled-preserved g c =
    let filled = c.loop-filled.filled in
    let count = c.in-Ok.count in
    let old = c.loop-filled.buffer in
    let buffer = c.if-filled-len.buffer in
    let grown : (take filled buffer.items ≡ take filled old.items) × (filled ≤ length buffer.items) =
    elim c.if-filled-len.branch [
      | then-filled-len+in_ok-resize w ↦
          let full = w.if-filled-len.true in
          let long = ap (λ (v : Vec ℕ Global). length v.items) w.buffer-is in
          let items = w.in_ok-resize.ensures.items in (
            ap (λ (v : Vec ℕ Global). take filled v.items) w.buffer-is ∙ ap (take filled) items
                ∙ kept old.items _ filled w.min.result (let l = c.len.ensures in let k = old.ok in omega arith) (let m = w.min.ensures in let t = c.loop-filled-test.true in omega arith),
            (let l = c.len.ensures in let k = old.ok in let m = w.min.ensures in let t = c.loop-filled-test.true in let e = w.in_ok-resize.ensures.len in let n = w.resize.new.self.ok in omega arith),
          )
      | else-filled-len w ↦ (ap (λ (v : Vec ℕ Global). take filled v.items) w.buffer-is, let long = ap (λ (v : Vec ℕ Global). length v.items) w.buffer-is in omega (arith, c.loop-filled.invariant.within))
    ] in
    let bound = c.in-Ok.ensures.bound.0 in
    let later = read_after c.deref_mut.result.now c.read.new.buf _ _ filled count buffer.len (let v = ap length c.deref_mut.ensures.value in omega (arith, grown.1)) bound (let l = c.deref_mut.ensures.len in let d = length-drop filled c.deref_mut.result.now in let t = length-take (length c.deref_mut.result.now - filled) (drop filled c.deref_mut.result.now) in omega (arith, c.read.auto.buf, bound, grown.1, buffer.ok)) in
    record {
      unfailed = c.in-Ok.ensures.failed;
      «open» = grind (arith, common_steps);
      within = later.1;
      given = subst (Consumes (g.S.Source.left c.args.reader.now) (g.S.Source.left c.read.new.self))
          (sym (later.0 ∙ ap (λ l. l ++ take count c.read.new.buf) (ap (take filled) c.deref_mut.ensures.value ∙ grown.0)))
          (Consumes-trans _ _ _ (take filled old.items) (take count c.read.new.buf) c.loop-filled.invariant.given c.in-Ok.ensures.bytes.0);
    }
