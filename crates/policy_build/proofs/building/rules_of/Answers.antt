use Rattle.std.proofs.Common.{◌<◌, ◌∙◌, length, map, arith}
use Rattle.std.proofs.lemmas.Result.{err_from_is_err_and}
use Rattle.grant_policy.proofs.ReadLemmas.{mapped_here}
use Rattle.policy_build.specs.Entries.{entry_of}
use Rattle.policy_build.specs.Making.{made_of}
use Rattle.policy_build.proofs.LoopLemmas.{Refuses-on, made_more, made_stop}
use Rattle.policy_build.proofs.building.rules_of.Goals as goal

pub loop-i-preserved : goal.loop-i-preserved
loop-i-preserved c =
    let entries = c.args.entries.now in
    let i = c.loop-i.i in
    let entry = c.index-entries-i.result in
    let lt : i < length entries = omega arith in
    let at = mapped_here entry_of entries i entry lt c.index-entries-i.is in
    record {
      read = c.loop-i.invariant.read ∙ made_more c.args.groups.now.callers.items c.args.groups.now.names.items (map entry_of entries) (map made_of c.loop-i.rules.items) i (entry_of entry) (map made_of c.push_entry.new.rules.items) at c.in_ok-push_entry.ensures.exact;
      few = c.in_ok-push_entry.ensures.few;
    }

pub returns-in_err-push_entry : goal.returns-in_err-push_entry
returns-in_err-push_entry c =
    let p = err_from_is_err_and c.from_residual.result c.from_residual.ensures.1 in
    let entries = c.args.entries.now in
    let i = c.loop-i.i in
    let entry = c.index-entries-i.result in
    let lt : i < length entries = omega arith in
    let at = mapped_here entry_of entries i entry lt c.index-entries-i.is in
    rw (p.1, p.2) (Refuses-on _ _ _ (λ fault e. c.loop-i.invariant.read ∙ made_stop c.args.groups.now.callers.items c.args.groups.now.names.items (map entry_of entries) (map made_of c.loop-i.rules.items) i (entry_of entry) fault at e) c.in_err-push_entry.ensures.exact)
