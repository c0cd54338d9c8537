use Rattle.std.proofs.Common.{◌≡◌, List, ◌++◌, ap, sym, subst, ◌∙◌}
use Rattle.std.specs.List.{flat_map}
use Rattle.zone_core.specs.Sets.{listing}
use Rattle.zone_core.specs.Zones.{ZoneOf, IsZone}
use Rattle.zone_core.specs.Delegations.{AreNamesOf}
use Rattle.zone_answers.specs.Answers.{Name}
use Rattle.zone_answers.specs.ChangeTests.{known_by}
use Rattle.zone_answers.proofs.ChangeLemmas.{result_exact, result_order, result_groups, result_types}
use Rattle.zone_answers.proofs.changes.changed_answers.Goals as goal

pub returns-clause-exact : goal.returns-clause-exact
returns-clause-exact c =
    let o : c.origin.result.now ≡ c.args.old.now.origin = c.origin.ensures.value ∙ ap (λ (z : ZoneOf). z.origin) c.zone-before.ensures in
    let a : c.records.result.now ≡ listing c.args.old.now.records = c.records.ensures.value ∙ ap (λ (z : ZoneOf). listing z.records) c.zone-before.ensures in
    let b : c.records-2.result.now ≡ listing c.args.new.now.records = c.records-2.ensures.value ∙ ap (λ (z : ZoneOf). listing z.records) c.zone-after.ensures in
    let all : flat_map (known_by c.origin.result.now) (c.records.result.now ++ c.records-2.result.now)
    ≡ flat_map (known_by c.args.old.now.origin) (listing c.args.old.now.records ++ listing c.args.new.now.records) = λ i. flat_map (known_by (o i)) (a i ++ b i) in
    let known : AreNamesOf c.deref.result.now (flat_map (known_by c.args.old.now.origin) (listing c.args.old.now.records ++ listing c.args.new.now.records)) =
    subst (λ (names : List Name). AreNamesOf names (flat_map (known_by c.args.old.now.origin) (listing c.args.old.now.records ++ listing c.args.new.now.records))) (sym c.deref.ensures.value)
    (subst (λ (l : List Name). AreNamesOf c.in_ok-names.names.items l) all c.in_ok-names.ensures) in
    result_exact c.args.old.now c.args.new.now (subst IsZone c.zone-before.ensures c.records.ensures.zone) (subst IsZone c.zone-after.ensures c.records-2.ensures.zone) c.records.result.now c.records-2.result.now
    c.records.ensures.order c.records-2.ensures.order (c.records.ensures.set ∙ ap (λ (z : ZoneOf). z.records) c.zone-before.ensures)
    (c.records-2.ensures.set ∙ ap (λ (z : ZoneOf). z.records) c.zone-after.ensures) a b c.deref.result.now known _ c.rows_for.result c.rows_for.ensures

pub returns-clause-order : goal.returns-clause-order
returns-clause-order c =
    let o : c.origin.result.now ≡ c.args.old.now.origin = c.origin.ensures.value ∙ ap (λ (z : ZoneOf). z.origin) c.zone-before.ensures in
    let a : c.records.result.now ≡ listing c.args.old.now.records = c.records.ensures.value ∙ ap (λ (z : ZoneOf). listing z.records) c.zone-before.ensures in
    let b : c.records-2.result.now ≡ listing c.args.new.now.records = c.records-2.ensures.value ∙ ap (λ (z : ZoneOf). listing z.records) c.zone-after.ensures in
    let all : flat_map (known_by c.origin.result.now) (c.records.result.now ++ c.records-2.result.now)
    ≡ flat_map (known_by c.args.old.now.origin) (listing c.args.old.now.records ++ listing c.args.new.now.records) = λ i. flat_map (known_by (o i)) (a i ++ b i) in
    let known : AreNamesOf c.deref.result.now (flat_map (known_by c.args.old.now.origin) (listing c.args.old.now.records ++ listing c.args.new.now.records)) =
    subst (λ (names : List Name). AreNamesOf names (flat_map (known_by c.args.old.now.origin) (listing c.args.old.now.records ++ listing c.args.new.now.records))) (sym c.deref.ensures.value)
    (subst (λ (l : List Name). AreNamesOf c.in_ok-names.names.items l) all c.in_ok-names.ensures) in
    result_order c.args.old.now c.args.new.now (subst IsZone c.zone-before.ensures c.records.ensures.zone) (subst IsZone c.zone-after.ensures c.records-2.ensures.zone) c.records.result.now c.records-2.result.now
    c.records.ensures.order c.records-2.ensures.order (c.records.ensures.set ∙ ap (λ (z : ZoneOf). z.records) c.zone-before.ensures)
    (c.records-2.ensures.set ∙ ap (λ (z : ZoneOf). z.records) c.zone-after.ensures) a b c.deref.result.now known _ c.rows_for.result c.rows_for.ensures

pub returns-clause-groups : goal.returns-clause-groups
returns-clause-groups c =
    let o : c.origin.result.now ≡ c.args.old.now.origin = c.origin.ensures.value ∙ ap (λ (z : ZoneOf). z.origin) c.zone-before.ensures in
    let a : c.records.result.now ≡ listing c.args.old.now.records = c.records.ensures.value ∙ ap (λ (z : ZoneOf). listing z.records) c.zone-before.ensures in
    let b : c.records-2.result.now ≡ listing c.args.new.now.records = c.records-2.ensures.value ∙ ap (λ (z : ZoneOf). listing z.records) c.zone-after.ensures in
    let all : flat_map (known_by c.origin.result.now) (c.records.result.now ++ c.records-2.result.now)
    ≡ flat_map (known_by c.args.old.now.origin) (listing c.args.old.now.records ++ listing c.args.new.now.records) = λ i. flat_map (known_by (o i)) (a i ++ b i) in
    let known : AreNamesOf c.deref.result.now (flat_map (known_by c.args.old.now.origin) (listing c.args.old.now.records ++ listing c.args.new.now.records)) =
    subst (λ (names : List Name). AreNamesOf names (flat_map (known_by c.args.old.now.origin) (listing c.args.old.now.records ++ listing c.args.new.now.records))) (sym c.deref.ensures.value)
    (subst (λ (l : List Name). AreNamesOf c.in_ok-names.names.items l) all c.in_ok-names.ensures) in
    result_groups c.args.old.now c.args.new.now (subst IsZone c.zone-before.ensures c.records.ensures.zone) (subst IsZone c.zone-after.ensures c.records-2.ensures.zone) c.records.result.now c.records-2.result.now
    c.records.ensures.order c.records-2.ensures.order (c.records.ensures.set ∙ ap (λ (z : ZoneOf). z.records) c.zone-before.ensures)
    (c.records-2.ensures.set ∙ ap (λ (z : ZoneOf). z.records) c.zone-after.ensures) a b c.deref.result.now known _ c.rows_for.result c.rows_for.ensures

pub returns-clause-types : goal.returns-clause-types
returns-clause-types c =
    let o : c.origin.result.now ≡ c.args.old.now.origin = c.origin.ensures.value ∙ ap (λ (z : ZoneOf). z.origin) c.zone-before.ensures in
    let a : c.records.result.now ≡ listing c.args.old.now.records = c.records.ensures.value ∙ ap (λ (z : ZoneOf). listing z.records) c.zone-before.ensures in
    let b : c.records-2.result.now ≡ listing c.args.new.now.records = c.records-2.ensures.value ∙ ap (λ (z : ZoneOf). listing z.records) c.zone-after.ensures in
    let all : flat_map (known_by c.origin.result.now) (c.records.result.now ++ c.records-2.result.now)
    ≡ flat_map (known_by c.args.old.now.origin) (listing c.args.old.now.records ++ listing c.args.new.now.records) = λ i. flat_map (known_by (o i)) (a i ++ b i) in
    let known : AreNamesOf c.deref.result.now (flat_map (known_by c.args.old.now.origin) (listing c.args.old.now.records ++ listing c.args.new.now.records)) =
    subst (λ (names : List Name). AreNamesOf names (flat_map (known_by c.args.old.now.origin) (listing c.args.old.now.records ++ listing c.args.new.now.records))) (sym c.deref.ensures.value)
    (subst (λ (l : List Name). AreNamesOf c.in_ok-names.names.items l) all c.in_ok-names.ensures) in
    result_types c.args.old.now c.args.new.now (subst IsZone c.zone-before.ensures c.records.ensures.zone) (subst IsZone c.zone-after.ensures c.records-2.ensures.zone) c.records.result.now c.records-2.result.now
    c.records.ensures.order c.records-2.ensures.order (c.records.ensures.set ∙ ap (λ (z : ZoneOf). z.records) c.zone-before.ensures)
    (c.records-2.ensures.set ∙ ap (λ (z : ZoneOf). z.records) c.zone-after.ensures) a b c.deref.result.now known _ c.rows_for.result c.rows_for.ensures
