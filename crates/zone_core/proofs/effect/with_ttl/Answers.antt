use Rattle.std.proofs.Common.{rules, ◌≡◌, ◌≤◌, ◌++◌, List, map, take, drop, set, sym, ap, subst, ◌∙◌, arith}
use Rattle.std.proofs.lemmas.List.{get_or_default}
use Rattle.std.proofs.lemmas.List.Edits.{map_over_more}
use Rattle.dns_data.specs.declared.record.Record.{Record}
use Rattle.zone_core.specs.Sets.{at, key_of}
use Rattle.zone_core.specs.Nodes.{with_type_ttl}
use Rattle.zone_core.specs.Views.{IsRun}
use Rattle.zone_core.proofs.SeekLemmas.{ttl_begun, ttl_done, ttl_in_run, ttl_over}
use Rattle.zone_core.proofs.effect.with_ttl.Goals as goal

pub loop-i-init : goal.loop-i-init
loop-i-init c =
    let run = subst (λ (rs : List Record). IsRun (λ r. at c.args.name.now c.args.record_type (key_of r)) rs c.set_bounds-start.result.0 c.set_bounds-start.result.1) c.deref.ensures.value c.set_bounds-start.ensures in
    sym (ttl_begun c.args.name.now c.args.record_type c.args.ttl c.args.node.items c.requires c.set_bounds-start.result.0 c.set_bounds-start.result.1 run)

pub loop-i-preserved : goal.loop-i-preserved
loop-i-preserved c =
    let run = subst (λ (rs : List Record). IsRun (λ r. at c.args.name.now c.args.record_type (key_of r)) rs c.set_bounds-start.result.0 c.set_bounds-start.result.1) c.deref.ensures.value c.set_bounds-start.ensures in
    ttl_over c.args.name.now c.args.record_type c.args.ttl c.args.node.items c.requires c.set_bounds-start.result.0 c.set_bounds-start.result.1 run
    c.loop-i.i c.loop-i.node.items c.index_mut.result.now c.loop-i.auto.i c.loop-i-test.true c.loop-i.invariant c.index_mut.ensures.value

pub returns : goal.returns
returns c =
    let run = subst (λ (rs : List Record). IsRun (λ r. at c.args.name.now c.args.record_type (key_of r)) rs c.set_bounds-start.result.0 c.set_bounds-start.result.1) c.deref.ensures.value c.set_bounds-start.ensures in
    let there : c.loop-i.i ≡ c.set_bounds-start.result.1 = omega (arith, c.loop-i.auto.i-end run.order, c.loop-i-test.false) in
    c.loop-i.invariant
    ∙ ap (λ k. map (with_type_ttl c.args.record_type c.args.ttl) (take k c.args.node.items) ++ drop k c.args.node.items) there
    ∙ ttl_done c.args.name.now c.args.record_type c.args.ttl c.args.node.items c.requires c.set_bounds-start.result.0 c.set_bounds-start.result.1 run
