use Rattle.std.proofs.Common.{◌≡◌, ◌==◌, false, not, rules, sym}
use Rattle.std.specs.List.{list_any}
use Rattle.dns_data.specs.declared.record.Record.{Record}
use Rattle.zone_core.specs.Sets.{key_of, rank_of}
use Rattle.zone_core.proofs.RetainLemmas.{retain_is}
use Rattle.zone_core.proofs.SeekLemmas.{filter_others}
use Rattle.zone_core.proofs.effect.without_type.Goals as goal

pub returns-then-not-has_some_at : goal.returns-then-not-has_some_at
returns-then-not-has_some_at c =
    let none : list_any (λ (r : Record). (key_of r).1 == rank_of c.args.record_type) c.args.node.items ≡ false = rw (sym c.deref.ensures.value, sym c.has_some_at.ensures) c.if-not-has_some_at.true in
    sym (filter_others (λ (r : Record). (key_of r).1 == rank_of c.args.record_type) c.args.node.items none)

pub returns : goal.returns
returns c = retain_is _ (λ (r : Record). not ((key_of r).1 == rank_of c.args.record_type)) _ (λ x b g k. search rules) c.args.node.items c.retain.new.self.items c.retain.ensures.filtered
