use Rattle.std.proofs.Common.{◌≡◌, length, map, refl, ap, subst, ◌∙◌, arith}
use Rattle.std.proofs.lemmas.Grind.{common_steps}
use Rattle.std.specs.Str.{bytes_eq}
use Rattle.std.specs.String.{string_bytes}
use Rattle.std.proofs.lemmas.Option.{slice_get_read}
use Rattle.basket_names.specs.Names.{IsKnown}
use Rattle.basket_names.proofs.theory.Names.{place_if_same}
use Rattle.basket_names.proofs.names.Numbering.recent_number.Goals as goal

pub returns : goal.returns
returns c =
    let names = c.args.self.now in
    let name = c.args.name.now in
    let keys = c.as_slice.result.now in
    let number = c.in_ok-number.number in
    let key = c.in_ok-known.known.now in
    let at = slice_get_read keys (length keys) number key refl c.in_ok-known.ensures.lookup.3.0 c.in_ok-known.ensures.lookup.1 in
    let text : c.as_str.result.now ≡ string_bytes key = c.as_str.ensures.value in
    let equal : c.eq.result ≡ bytes_eq (string_bytes key) name = c.eq.ensures ∙ ap (λ t. bytes_eq t name) (c.as_bytes.ensures.value ∙ text) in
    grind (arith, common_steps, place_if_same)

pub returns-then-is_whole : goal.returns-then-is_whole
returns-then-is_whole c =
    let number = c.in_ok-number.number in
    let whole = c.is_whole.ensures.0 c.if-is_whole.true in
    let known = c.in_ok-number.ensures _ c.self.invariant whole in
    subst (λ names. IsKnown names c.args.name.now number) c.self.view_is (subst (λ name. IsKnown (map string_bytes c.self.inside.names.keys) name number) (c.requires whole) known)
