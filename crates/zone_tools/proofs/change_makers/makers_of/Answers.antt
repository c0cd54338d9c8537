use Rattle.std.proofs.Common.{◌≡◌, ℕ, List, true, false, get_or, refl, sym, ap, subst, ◌∙◌}
use Rattle.std.proofs.lemmas.List.{take_all}
use Rattle.zone_core.specs.Changes.{change_in}
use Rattle.zone_tools.specs.Makers.{zone_read}
use Rattle.zone_tools.specs.Past.{actors_from, touched_name}
use Rattle.zone_tools.proofs.ActorLemmas.{Chosen, Makes, actor_within, chosen_in, chosen_out, makes_at, makers_are}
use Rattle.zone_tools.proofs.change_makers.makers_of.Goals.{then-made+in_ok-push, else-made}
use Rattle.zone_tools.proofs.change_makers.makers_of.Goals as goal

pub update_at-update-requires : goal.update_at-update-requires
update_at-update-requires c =
    let name = c.touched_name.result.now in
    actor_within name c.args.updates.now c.actors_at-candidates.result.now (c.actors_at-candidates.ensures ∙ c.requires.actors name) c.loop-index.index-index c.loop-index-test.true

pub loop-index-preserved : goal.loop-index-preserved
loop-index-preserved c = λ set is.
    let updates = c.args.updates.now in
    let change = change_in c.args.change.now in
    let zone = zone_read c.args.origin.now set in
    let name = c.touched_name.result.now in
    let cands = c.actors_at-candidates.result.now in
    let i = c.loop-index.index-index in
    let below = c.loop-index-test.true in
    let within = actor_within name updates cands (c.actors_at-candidates.ensures ∙ c.requires.actors name) i below in
    let told = makes_at zone updates change (get_or cands i 0) c.update_at-update.result.now c.in_ok-made.made within c.update_at-update.ensures (c.in_ok-made.ensures set is) in
    elim c.if-made.branch [
      | then-made+in_ok-push w ↦
          rw w.indexes-is (chosen_in (Makes zone updates change) cands c.loop-index.indexes.items w.push.new.self.items i below (told.0 w.if-made.true) w.in_ok-push.ensures.items (c.loop-index.invariant set is))
      | else-made w ↦
          rw w.indexes-is
          (chosen_out (Makes zone updates change) cands c.loop-index.indexes.items i below (λ makes. let bad : true ≡ false = sym (told.1 makes) ∙ w.if-made.false in cc) (c.loop-index.invariant set is))
    ]

pub returns : goal.returns
returns c = λ set is.
    let updates = c.args.updates.now in
    let change = change_in c.args.change.now in
    let zone = zone_read c.args.origin.now set in
    let name = c.touched_name.result.now in
    let cands = c.actors_at-candidates.result.now in
    let all : cands ≡ actors_from (touched_name c.args.origin.now change) 0 updates =
    c.actors_at-candidates.ensures ∙ c.requires.actors name ∙ ap (λ q. actors_from q 0 updates) c.touched_name.ensures in
    makers_are zone c.args.origin.now updates change cands c.loop-index.indexes.items (λ u. refl) c.requires.updates all
    (subst (λ (xs : List ℕ). Chosen (Makes zone updates change) xs c.loop-index.indexes.items) (take_all c.loop-index.index-index cands c.loop-index-test.false) (c.loop-index.invariant set is))
