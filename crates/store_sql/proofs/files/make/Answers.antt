use Rattle.std.proofs.Common.{◌≡◌, ◌+◌, refl, ap, sym, subst, subst₂, ◌∙◌, inl, inr, arith}
use Rattle.std.proofs.lemmas.List.Elements.{All-nil}
use Rattle.std.proofs.Math.Logic.{∥∥₁_map}
use Rattle.sqlite_wal.specs.Files.{seen_image}
use Rattle.sqlite_wal.specs.PageSize.{bytes_of}
use Rattle.sqlite_pool.specs.Opening.{IsBlankFile}
use Rattle.sqlite_store.specs.Build.{CanBuild}
use Rattle.sqlite_store.specs.Unopened.{image, state_of}
use Rattle.sqlite_store.proofs.StoreLemmas.{limit_wider}
use Rattle.sqlite.specs.Files.{image_of}
use Rattle.sqlite.proofs.FileLemmas.{from_store}
use Rattle.sqlite_trees.proofs.Doubt.{no_doubt}
use Rattle.sqlite_wal.specs.Reads.{are_clean}
use Rattle.sqlite_store.specs.Listed.{catalog_rows}
use Rattle.sqlite_store.specs.Listing.{listed_from}
use Rattle.sqlite.proofs.OpenLemmas.{pool_files}
use Rattle.store_sql.proofs.files.make.Goals as goal

pub returns-in-Ok-create-clause-made : goal.returns-in-Ok-create-clause-made
returns-in-Ok-create-clause-made g c clean =
    let unopened = c.in-Ok-with_sums.unopened in
    let made = c.in-Ok-create.ensures in
    let stand = c.in-Ok-with_sums.ensures.files ∙ c.in-Ok.ensures.files in
    record {
      honest = sym ((pool_files unopened.pool).1 ∙ ap (λ f. are_clean g.D.Disk f.0 f.1) stand) ∙ made.honest clean;
      fresh = record { sound = made.ready.sound (no_doubt _ clean); numbered = made.numbered; clean = made.ready.clean; unmarked = made.ready.unmarked };
      counts = omega (arith, (pool_files unopened.pool).0, ap (λ f. g.D.Disk.faults f.0 + g.D.Disk.faults f.1) stand, (made.kept clean).counts, made.counted);
      empty = (
        λ tree low. ap (λ d. d tree) made.ready.clean ∙ made.empty clean tree low,
        rw clean (catalog_rows _ _ _ ∙ ap (listed_from 0) (made.schema ∙ c.in-Ok-with_sums.ensures.schema)),
      );
    }

pub returns-in-Err-create-clause-cause : goal.returns-in-Err-create-clause-cause
returns-in-Err-create-clause-cause g c clean =
    let unopened = c.in-Ok-with_sums.unopened in
    let failed = c.in-Err-create.ensures in
    let stand = c.in-Ok-with_sums.ensures.files ∙ c.in-Ok.ensures.files in
    let none = c.in-Ok-with_sums.ensures.schema in
    let size : (state_of unopened).page_size ≡ bytes_of c.args.size = c.in-Ok-with_sums.ensures.size ∙ c.in-Ok.ensures.size in
    let seen : image unopened ≡ image_of g.D.Disk c.args.files = ap (λ f. seen_image g.D.Disk f.0 f.1) stand in
    rw c.unmade.ensures.value (from_store _ _ _ _ _ _ c.in-Err-create.error
    (omega (arith, (pool_files unopened.pool).0, ap (λ f. g.D.Disk.faults f.0 + g.D.Disk.faults f.1) stand))
    (failed.unharmed clean).counts
    (λ blank. record {
      few = rw none (omega arith);
      files = inl (subst₂ IsBlankFile (sym size) (sym seen) blank);
      schema = subst CanBuild (sym none) (record { distinct = refl; shaped = All-nil _; short = All-nil _ });
    })
    (limit_wider _ _ _ _ _ c.in-Err-create.error (λ stop. ∥∥₁_map stop (λ why. elim why [ inl full ↦ full | inr deep ↦ absurd (deep.0 (failed.back ∙ none)) ])) (failed.cause clean)))
