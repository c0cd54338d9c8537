use Rattle.std.proofs.Common.{rules}
use Rattle.dns_data.specs.declared.record.Record.{Record}
use Rattle.zone_core.specs.Sets.{key_of}
use Rattle.zone_core.specs.Effects.{is_guarded}
use Rattle.zone_core.proofs.RetainLemmas.{retain_is}
use Rattle.zone_core.proofs.effect.guarded.Goals as goal

pub returns : goal.returns
returns c = retain_is _ (λ (r : Record). is_guarded (key_of r).1) _ (λ x b g k. search rules) c.args.node.items c.retain.new.self.items c.retain.ensures.filtered
