use Rattle.std.proofs.Common.{arith, ap, sym, subst, ◌∙◌}
use Rattle.std.proofs.Common.{le_refl}
use Rattle.std.proofs.lemmas.Result.{err_from_is_err_and}
use Rattle.sqlite_trees.specs.declared.error.StoreError.TheVariants.{Io}
use Rattle.sqlite_trees.proofs.Doubt.{clean_of as sure, no_doubt}
use Rattle.sqlite_store.specs.FileStore.{view}
use Rattle.sqlite.specs.Files.{IsEmpty}
use Rattle.sqlite.proofs.FileLemmas.{from_connection}
use Rattle.sqlite.proofs.ListingLemmas.{empty_is_sound}
use Rattle.store_sql.proofs.BlankLaws.{blank_holds_none, fails_before}
use Rattle.store_sql.proofs.files.new.Goals as goal

pub over-requires : goal.over-requires
over-requires g c none = (c.in_ok-store.ensures.made (sure _ none)).fresh

pub returns-in-Ok-clause-shows : goal.returns-in-Ok-clause-shows
returns-in-Ok-clause-shows g c now =
    let store = c.in_ok-store.store in
    let made = c.in_ok-store.ensures.made (sure (view store).is_clean (omega (arith, c.in-Ok.ensures.clean))) in
    let trees = sym (ap (λ d. d.trees) (c.in-Ok.ensures.opens now).0.clean) ∙ c.in-Ok.ensures.trees now in
    record {
      honest = made.honest;
      shows = record {
        held = λ db holds. absurd (blank_holds_none _ _ db (omega (arith, c.args.size.smallest)) holds (c.requires.blank made.honest));
        empty = λ _. subst IsEmpty (sym trees) made.empty;
      };
    }

pub returns-in-Ok-clause-guarded : goal.returns-in-Ok-clause-guarded
returns-in-Ok-clause-guarded g c now =
    c.in-Ok.ensures.shield (c.in_ok-store.ensures.guarded (sure (view c.in_ok-store.store).is_clean (omega (arith, c.in-Ok.ensures.clean))))

pub returns-in_err-store-clause-honest : goal.returns-in_err-store-clause-honest
returns-in_err-store-clause-honest g c =
    let p = err_from_is_err_and c.from_residual.result c.from_residual.ensures.1 in
    rw (p.1, p.2) (c.in_err-store.ensures.honest)

pub returns-in-Err-clause-honest : goal.returns-in-Err-clause-honest
returns-in-Err-clause-honest g c late =
    let now = no_doubt _ late in
    (c.in_ok-store.ensures.made (sure (view c.in_ok-store.store).is_clean (omega (arith, c.in-Err.ensures.unharmed.clean)))).honest

pub returns-in_err-store-clause-cause : goal.returns-in_err-store-clause-cause
returns-in_err-store-clause-cause g c =
    let p = err_from_is_err_and c.from_residual.result c.from_residual.ensures.1 in
    rw (p.1, p.2) (λ clean. fails_before Io _ _ _ _ _ _ _ (le_refl _) (λ _. c.requires.blank (c.in_err-store.ensures.honest clean)) (c.in_err-store.ensures.cause clean))

pub returns-in-Err-clause-cause : goal.returns-in-Err-clause-cause
returns-in-Err-clause-cause g c late =
    let now = no_doubt _ late in
    let made = c.in_ok-store.ensures.made (sure (view c.in_ok-store.store).is_clean (omega (arith, c.in-Err.ensures.unharmed.clean))) in
    rw c.blurred.ensures.value (from_connection _ _ _ _ _ c.in-Err.error made.counts c.in-Err.ensures.unharmed.counts (λ _. (_, empty_is_sound _ made.empty.1)) (c.in-Err.ensures.err now))
