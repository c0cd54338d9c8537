use Rattle.std.proofs.Common.{◌≡◌, true, false, ℤ, [], ◌∷◌, map, sym, ap, subst, ◌∙◌, w64}
use Rattle.std.proofs.lemmas.Int.{to_z-of_z}
use Rattle.std.proofs.lemmas.List.Sorted.{IsPermutation-refl}
use Rattle.sqlite.specs.Effect.{Database}
use Rattle.sqlite.specs.Held.{state}
use Rattle.store_sql.specs.Tables.{stored_version}
use Rattle.store_sql.specs.Stores.{Stores}
use Rattle.office_store.specs.Holds.{IsOfVersion}
use Rattle.store_sql.specs.Holds.{Holds}
use Rattle.office_store.proofs.QueryLemmas.{asked_more, asks_refused, only_of}
use Rattle.office_store.proofs.VersionLemmas.{one_version}
use Rattle.office_store.proofs.opening.check_version.Goals as goal

pub returns-then-not-is_alone-clause-wrong : goal.returns-then-not-is_alone-clause-wrong
returns-then-not-is_alone-clause-wrong g c = λ clean is has.
    let version = c.args.version in
    let mid = state g.S.Store c.check_tables.new.conn in
    let has_one = subst (λ h. IsOfVersion version (state g.S.Store h)) (sym c.in_ok-check_tables.ensures.same) has in
    let kept = subst (λ (d : Database). Stores (d.trees 0) (map stored_version c.in_ok-versions.versions.items)) (c.in_ok-versions.ensures.same clean).now_is (c.in_ok-versions.ensures.found clean).1 in
    let only = one_version (mid.now.trees 0) version (version ∷ []) c.in_ok-versions.versions.items (IsPermutation-refl (version ∷ [])) has_one.1 kept in
    let passed = ap (λ (v : ℤ). v ∷ []) (sym (to_z-of_z w64 version c.ranges.version)) in
    let both : true ≡ false = sym (c.is_alone.ensures.1 (c.deref.ensures.value ∙ only ∙ passed)) ∙ c.if-not-is_alone.true in
    cc

pub returns-then-not-is_alone-clause-good : goal.returns-then-not-is_alone-clause-good
returns-then-not-is_alone-clause-good g c = λ clean rows one held.
    let version = c.args.version in
    let mid = state g.S.Store c.check_tables.new.conn in
    let shows = c.in_ok-versions.ensures.same clean in
    let reads = (c.check_tables.ensures.asked.rows rows held shows.was_open).0 in
    let kept = subst (λ (d : Database). Stores (d.trees 0) (map stored_version c.in_ok-versions.versions.items)) shows.now_is (c.in_ok-versions.ensures.found clean).1 in
    let only = one_version (mid.now.trees 0) version rows.versions c.in_ok-versions.versions.items one reads.tables.versions kept in
    let passed = ap (λ (v : ℤ). v ∷ []) (sym (to_z-of_z w64 version c.ranges.version)) in
    let both : true ≡ false = sym (c.is_alone.ensures.1 (c.deref.ensures.value ∙ only ∙ passed)) ∙ c.if-not-is_alone.true in
    cc

pub returns-clause-asks : goal.returns-clause-asks
returns-clause-asks g c =
    let old = state g.S.Store c.args.conn.now in
    let mid = state g.S.Store c.check_tables.new.conn in
    let new = state g.S.Store c.versions.new.conn in (
      asked_more old mid new c.check_tables.ensures.asked c.versions.ensures.asks,
      λ clean. only_of old new (c.in_ok-versions.ensures.same clean).is_open (λ rows h. subst (λ q. Holds (state g.S.Store q) rows) c.in_ok-check_tables.ensures.same (c.in_ok-versions.ensures.only clean rows h)),
    )

pub returns-in_err-versions-clause-asks : goal.returns-in_err-versions-clause-asks
returns-in_err-versions-clause-asks g c =
    let old = state g.S.Store c.args.conn.now in
    let mid = state g.S.Store c.check_tables.new.conn in
    let new = state g.S.Store c.versions.new.conn in
    asks_refused old new c.from_residual-in_err-versions.result c.from_residual-in_err-versions.ensures.0 (asked_more old mid new c.check_tables.ensures.asked c.versions.ensures.asks)

pub returns-then-not-is_alone-clause-asks : goal.returns-then-not-is_alone-clause-asks
returns-then-not-is_alone-clause-asks g c =
    (asked_more (state g.S.Store c.args.conn.now) (state g.S.Store c.check_tables.new.conn) (state g.S.Store c.versions.new.conn) c.check_tables.ensures.asked c.versions.ensures.asks, λ clean. tt)
