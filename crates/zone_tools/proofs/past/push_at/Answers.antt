use Rattle.std.proofs.Common.{[], ◌++◌, Option, map, sym, ap, ◌∙◌, append-nil}
use Rattle.std.specs.Option.{option_map_or}
use Rattle.std.specs.BTreeMap.{BTreeMap}
use Rattle.std.proofs.lemmas.Result.{on_ok_weaker}
use Rattle.dns_data.specs.declared.record.Record.{Record}
use Rattle.zone_core.specs.Sets.{Key}
use Rattle.zone_tools.proofs.past.push_at.Goals as goal

pub returns-in-Some : goal.returns-in-Some
returns-in-Some c =
    on_ok_weaker c.push_node.result
    (λ f. f ∙ ap (λ (o : Option (BTreeMap Key Record)). c.args.rows.now.items ++ map (λ e. e.1) (option_map_or (λ (n : BTreeMap Key Record). n.entries) o [])) c.in-Some.ensures.value) c.push_node.ensures

pub returns-in-None : goal.returns-in-None
returns-in-None c =
    sym (append-nil c.args.rows.now.items) ∙ ap (λ (o : Option (BTreeMap Key Record)). c.args.rows.now.items ++ map (λ e. e.1) (option_map_or (λ (n : BTreeMap Key Record). n.entries) o [])) c.in-None.ensures.value
