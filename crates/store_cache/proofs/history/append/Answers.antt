use Rattle.std.proofs.Common.{◌≡◌, Some, length, take, drop, ap, sym, subst, ◌∙◌, arith}
use Rattle.dns_names.proofs.NameLemmas.{same_name-Decides}
use Rattle.office_model.specs.States.{Held}
use Rattle.store_cache.specs.History.{AreTouched, Remembers}
use Rattle.store_cache.proofs.history.append.Goals as goal

pub returns-then-len-count : goal.returns-then-len-count
returns-then-len-count c = λ s held there read remembers other at.
    let zone = c.in-Some.zone in
    let own : zone.origin ≡ c.args.origin.now = (same_name-Decides zone.origin c.args.origin.now).0 (sym c.if-eq.ensures) in
    let many : length zone.changes.items ≡ c.args.count = omega (arith, c.if-len-count.true, c.len.ensures, zone.changes.ok.0) in
    let before = (subst (Remembers s) c.in-Some.is remembers) held (ap s.zones own ∙ there) in
    let touched = c.push.ensures.touched held.changes before (read ∙ ap (λ n. take (length c.args.changes.now) (drop n held.changes)) (sym many)) in
    let one : held ≡ other = (let both : Some held ≡ Some other = sym there ∙ ap s.zones (sym (c.push.ensures.origin ∙ own)) ∙ at in cc) in
    subst (λ (h : Held). AreTouched c.push.new.self.origin c.push.new.self.changes.items h.changes) one touched
