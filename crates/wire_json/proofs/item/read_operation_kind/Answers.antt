use Rattle.std.proofs.Common.{ℕ, List, sym, ap, subst, ◌∙◌}
use Rattle.serde_json.specs.View.{view}
use Rattle.zone_core.specs.Kinds.{operation_word, operation_named}
use Rattle.wire_json.specs.declared.body_fault.BodyFault.TheVariants.{BadField}
use Rattle.wire_json.specs.declared.field.Field.TheVariants.{Op}
use Rattle.wire_json.specs.Bodies.{IsText}
use Rattle.zone_core.proofs.KindLemmas.{operation_is}
use Rattle.wire_json.proofs.ListLemmas.{or_found}
use Rattle.wire_json.proofs.item.read_operation_kind.Goals as goal

pub returns-clause-found : goal.returns-clause-found
returns-clause-found c =
    let word = c.in_ok-word.word.now in
    let d = view c.args.value.now in
    or_found (λ kind. IsText Op (operation_word kind) d) c.read.result BadField c.ok_or.result c.ok_or.ensures.value
    (λ kind e. subst (λ (w : List ℕ). IsText Op w d) (sym ((operation_is word kind).0 (sym (c.read.ensures.exact ∙ ap operation_named c.as_bytes.ensures.value) ∙ e))) c.in_ok-word.ensures.found)
