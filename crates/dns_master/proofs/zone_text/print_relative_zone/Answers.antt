use Rattle.std.proofs.Common.{List, ℕ, refl, subst}
use Rattle.std.proofs.lemmas.Result.{err_from_is_err_and}
use Rattle.dns_master.specs.Device.{TextWritten}
use Rattle.dns_master.proofs.DeviceLemmas.{none_went}
use Rattle.dns_master.proofs.ZoneTextLemmas.{relative_none, relative_some}
use Rattle.dns_master.proofs.zone_text.print_relative_zone.Goals as goal

pub returns-in_default : goal.returns-in_default
returns-in_default g c =
    let none = relative_none c.args.origin.now c.args.records.now c.in_default.ensures.value in
    subst (λ (text : List ℕ). TextWritten (g.W.Sink.contents c.args.writer.now) (g.W.Sink.contents c.print_zone.new.writer) text c.print_zone.result (g.W.FaultCount.failures c.args.writer.now) (g.W.FaultCount.failures c.print_zone.new.writer)) none c.print_zone.ensures

pub returns-in_err-relative_head : goal.returns-in_err-relative_head
returns-in_err-relative_head g c =
    let p = err_from_is_err_and c.from_residual.result c.from_residual.ensures.1 in
    rw (p.1, p.2) (none_went _ _, refl)

pub returns : goal.returns
returns g c =
    let some = relative_some (record { origin = c.args.origin; ttl = c.in-Some.first.now.ttl }) c.args.records.now c.in-Some.first.now _ c.in-Some.ensures.value refl c.in_ok-relative_head.ensures in
    subst (λ (text : List ℕ). TextWritten (g.W.Sink.contents c.args.writer.now) (g.W.Sink.contents c.print_behind.new.writer) text c.print_behind.result (g.W.FaultCount.failures c.args.writer.now) (g.W.FaultCount.failures c.print_behind.new.writer)) some c.print_behind.ensures
