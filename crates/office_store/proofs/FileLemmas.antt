-- What the files of a path held, and what an open connection shows of it.
use Rattle.std.proofs.Common.{◌≡◌, [], ◌∷◌, map, pos, IsTrue, ◌∙◌, ap, sym, subst}
use Rattle.sqlite_trees.specs.Tree.{Trees}
use Rattle.sqlite.specs.Recovery.{Image}
use Rattle.sqlite.specs.Effect.{Database}
use Rattle.sqlite.specs.Files.{AreFoundIn, HoldsDatabase}
use Rattle.sqlite.specs.Start.{FindsIn}
use Rattle.sqlite.specs.State.{State as Shown, IsLive, Opens}
use Rattle.office_model.specs.States.{State}
use Rattle.store_sql.specs.Holds.{AreRows, Keeps, Leaves}
use Rattle.store_sql.specs.Stores.{Stores}
use Rattle.store_sql.specs.Tables.{stored_version}
use Rattle.store_sql.proofs.Layouts.{reads_so}
use Rattle.office_store.specs.Queries.{Only}
use Rattle.office_store.specs.Files.{AreOfVersion, HoldStateIn, HoldVersionIn, ShowsStill}
use Rattle.office_store.specs.Holds.{HasVersion, HoldsState, IsStateIn}

module _ (image : Image) (first : Shown) (opens : Opens first) (finds : FindsIn image first) where
  -- an open connection shows the trees that the files recover to
  trees_are : (trees : Trees) → HoldsDatabase image trees → first.now.trees ≡ trees
  trees_are trees recovered = ap (λ (db : Database). db.trees) opens.clean ∙ finds.holds trees recovered

  -- a state of the files is shown
  pub shows : IsLive first → (s : State) → HoldStateIn image s → HoldsState first s
  shows live s held =
      let now = trees_are held.trees held.recovered in
      record {
        rows = held.rows.0;
        are = held.rows.1;
        held = λ is_open. (reads_so first.now held.rows.0 (live is_open).0 (held.tables first.now (live is_open).0 now) (subst (λ trees. AreRows trees held.rows.0) (sym now) held.rows.2), sym opens.clean);
      }

  -- a state that is shown after it was asked for is one of the files
  pub is_of_files : (last : Shown) → Only first last → (s : State) → HoldsState last s → (trees : Trees) → HoldsDatabase image trees → IsStateIn trees s
  is_of_files last only s held trees recovered =
      let before : HoldsState first s = only.same s held in
      (before.rows, before.are, subst (λ t. AreRows t before.rows) (trees_are trees recovered) (before.held opens.is_open).0.tables)

  -- tables of version 2 in the files are shown
  pub shows_version : IsLive first → HoldVersionIn image → HasVersion first
  shows_version live held =
      let now = trees_are held.trees held.recovered in
      (held.tables first.now (live opens.is_open).0 now, subst (λ (trees : Trees). Stores (trees 0) (map stored_version (pos 2 ∷ []))) (sym now) held.version)

  -- and those that are shown are in the files
  pub version_of_files : IsLive first → HasVersion first → (trees : Trees) → HoldsDatabase image trees → AreOfVersion trees
  version_of_files live has trees recovered =
      let now = trees_are trees recovered in
      record {
        tables = (first.now, (live opens.is_open).0, now, has.0);
        version = subst (λ (trees : Trees). Stores (trees 0) (map stored_version (pos 2 ∷ []))) now has.1;
      }

  -- what is kept of what was shown is what the files held
  pub shows_still : (last : Shown) → Keeps first last → ShowsStill image last
  shows_still last keeps up =
      let k = keeps up in
      let same : last.committed.trees ≡ first.committed.trees = ap (λ (db : Database). db.trees) k.1 in (
        record { holds = λ trees recovered. same ∙ finds.holds trees recovered; reads = subst (AreFoundIn image) (sym same) finds.reads },
        k.2 (sym opens.clean) ∙ opens.clean ∙ sym k.1,
      )

  -- and so is what a crash leaves
  pub leaves_still : (last : Shown) → (IsTrue first.is_open → Leaves last (λ db. db ≡ first.committed.trees)) → (trees : Trees) → HoldsDatabase image trees → Leaves last (λ db. db ≡ trees)
  leaves_still last left trees recovered clean db may = left opens.is_open clean db may ∙ finds.holds trees recovered
