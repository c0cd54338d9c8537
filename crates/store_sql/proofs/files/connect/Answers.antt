use Rattle.std.proofs.Common.{rules, ◌≡◌, sym, subst, inl, inr, le_refl}
use Rattle.std.proofs.lemmas.Bool.{iff_false}
use Rattle.std.proofs.lemmas.Result.{IfOk-weaker, IfErr-weaker}
use Rattle.sqlite_wal.specs.PageSize.{bytes_of}
use Rattle.sqlite_wal.specs.Reads.{AreClean}
use Rattle.sqlite_pool.specs.Opening.{IsBlankFile}
use Rattle.sqlite.specs.Files.{FailsToOpenAs, FailsToOpenFiles, Finds, HoldsDatabase, IsCleanLeft, IsFullLeft, IsNothing, IsTooLong, LeavesFiles, faults_left, faults_of, file_state, image_of}
use Rattle.sqlite.specs.State.{HasCleanDisk}
use Rattle.sqlite.specs.Opening.{FailsFor}
use Rattle.sqlite.proofs.FileLemmas.{fails_wider, same_image}
use Rattle.sqlite_trees.specs.declared.error.StoreError.{StoreError}
use Rattle.sqlite_trees.specs.declared.error.StoreError.TheVariants.{Io}
use Rattle.std.specs.Prelude.{⊤}
use Rattle.store_sql.specs.Files.{IsBlank, ShowsThose, new_size}
use Rattle.store_sql.proofs.BlankLaws.{fails_before, leaves_before, shows_before}
use Rattle.store_sql.proofs.files.connect.Goals as goal

pub new-requires-in-Ok-true-clause-blank : goal.new-requires-in-Ok-true-clause-blank
new-requires-in-Ok-true-clause-blank g c clean =
    let read = c.are_blank.ensures in
    subst (IsBlankFile (bytes_of c.unwrap-size.result)) (sym (same_image read.log read.db)) ((c.in-Ok-true.ensures.answer clean).0 c.in-Ok-true.field-0-test)

pub returns-in-Ok-true-clause-shows : goal.returns-in-Ok-true-clause-shows
returns-in-Ok-true-clause-shows g c =
    let read = c.are_blank.ensures in
    IfOk-weaker c.new-in-Ok-true.result
    (λ conn. HasCleanDisk (file_state conn) → ShowsThose c.are_blank.new.files conn)
    (λ conn. HasCleanDisk (file_state conn) → ShowsThose c.args.files conn)
    (λ conn shown clean. shows_before _ _ conn read.log read.db (shown clean)) c.new-in-Ok-true.ensures.shows

pub returns-in-Ok-true-clause-unharmed : goal.returns-in-Ok-true-clause-unharmed
returns-in-Ok-true-clause-unharmed g c =
    let size : bytes_of c.unwrap-size.result ≡ new_size = search rules in
    IfErr-weaker c.new-in-Ok-true.result
    (λ e. IsCleanLeft e.1 → AreClean g.D.Disk c.are_blank.new.files.log c.are_blank.new.files.db)
    (λ e. IsCleanLeft e.1 → ¬ IsBlank (image_of g.D.Disk c.args.files) → LeavesFiles c.args.files e.1)
    (λ e honest clean held. absurd (held (subst (λ n. IsBlankFile n (image_of g.D.Disk c.args.files)) size ((c.in-Ok-true.ensures.answer (honest clean)).0 c.in-Ok-true.field-0-test))))
    c.new-in-Ok-true.ensures.honest

pub returns-in-Ok-false-clause-shows : goal.returns-in-Ok-false-clause-shows
returns-in-Ok-false-clause-shows g c =
    let read = c.are_blank.ensures in
    let size : bytes_of c.unwrap-size.result ≡ new_size = search rules in
    let image = same_image read.log read.db in
    let blank : AreClean g.D.Disk c.are_blank.new.files.log c.are_blank.new.files.db → ¬ IsBlank (image_of g.D.Disk c.args.files) =
    (λ clean is. iff_false (c.in-Ok-false.ensures.answer clean) c.in-Ok-false.field-0-test (subst (λ n. IsBlankFile n (image_of g.D.Disk c.args.files)) (sym size) is)) in
    IfOk-weaker c.open_files.result
    (λ conn. HasCleanDisk (file_state conn) → Finds c.are_blank.new.files conn)
    (λ conn. HasCleanDisk (file_state conn) → ShowsThose c.args.files conn)
    (λ conn finds clean. let found = finds clean in
    shows_before _ _ conn read.log read.db (record {
      honest = found.honest;
      shows = record { held = found.holds; empty = λ is. absurd (blank found.honest (subst IsBlank image is)) };
    }))
    c.open_files.ensures.found

pub returns-in-Ok-false-clause-unharmed : goal.returns-in-Ok-false-clause-unharmed
returns-in-Ok-false-clause-unharmed g c =
    let read = c.are_blank.ensures in
    IfErr-weaker c.open_files.result
    (λ e. IsCleanLeft e.1 → LeavesFiles c.are_blank.new.files e.1)
    (λ e. IsCleanLeft e.1 → ¬ IsBlank (image_of g.D.Disk c.args.files) → LeavesFiles c.args.files e.1)
    (λ e leaves clean _. leaves_before _ _ e.1 read.log read.db (leaves clean))
    c.open_files.ensures.unharmed

pub returns-in-Ok-true-clause-cause : goal.returns-in-Ok-true-clause-cause
returns-in-Ok-true-clause-cause g c =
    let read = c.are_blank.ensures in
    IfErr-weaker c.new-in-Ok-true.result
    (λ e. IsCleanLeft e.1 → FailsFor (faults_of g.D.Disk c.are_blank.new.files) (faults_left e.1) (IsFullLeft e.1) ⊤ e.0)
    (λ e. IsCleanLeft e.1 → (kind : StoreError) × FailsToOpenAs kind c.args.files e.1 e.0)
    (λ e fails clean. (Io, fails_before Io _ _ _ _ _ _ e.0 read.counts (λ _. tt) (fails clean)))
    c.new-in-Ok-true.ensures.cause

pub returns-in-Ok-false-clause-cause : goal.returns-in-Ok-false-clause-cause
returns-in-Ok-false-clause-cause g c =
    let read = c.are_blank.ensures in
    let seen = same_image read.log read.db in
    IfErr-weaker c.open_files.result
    (λ e. IsCleanLeft e.1 → FailsToOpenFiles c.are_blank.new.files e.1 e.0)
    (λ e. IsCleanLeft e.1 → (kind : StoreError) × FailsToOpenAs kind c.args.files e.1 e.0)
    (λ e fails clean. (
      _,
      fails_before _ _ _ _ _ _ _ e.0 read.counts
          (λ w. elim w [ inl held ↦ inl (held.0, subst (λ i. HoldsDatabase i held.0) (sym seen) held.1) | inr nothing ↦ inr (subst IsNothing (sym seen) nothing) ])
          (fails clean),
    ))
    c.open_files.ensures.cause

pub returns-in-Err-clause-cause : goal.returns-in-Err-clause-cause
returns-in-Err-clause-cause g c clean =
    let read = c.are_blank.ensures in
    (Io, fails_wider _ _ _ _ _ _ _ c.in-Err.error (le_refl _) (subst IsTooLong (sym (same_image read.log read.db))) (λ _. tt) (c.in-Err.ensures.cause clean))
