use Rattle.std.proofs.Common.{◌≡◌, ◌∙◌, ◌-◌, ap, ℕ, length, take, map, vec_len, rules}
use Rattle.office_core.specs.Footprints.{footprint}
use Rattle.wire_json.specs.Json.{listed}
use Rattle.cli_updates.specs.PointObjects.{point_object}
use Rattle.cli_updates.proofs.PlanObjectLemmas.{without_last, items_made}
use Rattle.cli_updates.proofs.plan.all_items.Goals as goal

pub returns : goal.returns
returns c =
    let asker = c.args.asker.now in
    let points = footprint c.args.asked.now.zone.origin c.args.asked.now.update in
    let items = c.in_ok-items.items.items in
    let long : vec_len c.in_ok-items.items ≡ length items = search rules in
    let count = c.saturating_sub.ensures ∙ (ap (λ (n : ℕ). n - 1) c.len.ensures ∙ ap (λ (n : ℕ). n - 1) long) in
    let bare = without_last (point_object asker.policy asker.caller) points items c.in_ok-items.ensures in
    let rest = c.deref.ensures.value ∙ (c.truncate.ensures.items ∙ (ap (λ (n : ℕ). take n items) count ∙ bare)) in
    items_made (listed (map (point_object asker.policy asker.caller) points)) c.in_ok-text.text.items c.extend_from_slice.new.self.items c.extend_from_slice-2.new.self.items
    (c.in_ok-text.ensures.items ∙ c.as_bytes.ensures.value) (rw rest at c.in_ok-extend_from_slice.ensures.items) c.in_ok-extend_from_slice-2.ensures.items
