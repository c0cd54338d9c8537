use Rattle.std.proofs.Common.{◌∙◌, ◌++◌, List, ap, sym, subst, map, append-nil}
use Rattle.zone_core.specs.Sets.{listing}
use Rattle.zone_core.specs.Zones.{IsZone}
use Rattle.answer_reach.specs.ReachTests.{RowOf, row_of}
use Rattle.answer_reach.proofs.MadeLemmas.{zone_rows}
use Rattle.answer_reach.proofs.SkippedLemmas.{no_rows}
use Rattle.answer_reach.proofs.asker.Asker.push_rows.Goals as goal

pub returns-then-not-branch : goal.returns-then-not-branch
returns-then-not-branch c =
    let rows = map row_of c.args.rows.now.items in
    let z = c.args.self.now.index.now in
    let whole : IsZone z = subst IsZone c.zone.ensures c.records.ensures.zone in
    sym (append-nil rows)
    ∙ ap (λ (l : List RowOf). rows ++ l)
    (sym (no_rows c.args.self.now.rights.now.rules c.args.self.now.rights.now.caller c.args.self.now.index.now.origin (listing c.args.self.now.index.now.records) (zone_rows c.args.self.now.rights.now.rules c.args.self.now.rights.now.caller z whole z whole) c.args.lists.now c.requires.stays c.args.name.now (sym c.in_ok-may_have_rows.ensures ∙ c.if-not-branch.true)))
