-- What blank files hold, and what is shown of files.
use Rattle.std.proofs.Common.{ℕ, ◌<◌, ◌≤◌, arith, sym, subst, inl, inr}
use Rattle.sqlite_disk.specs.declared.Disk.{Ghosts}
use Rattle.sqlite_disk.specs.declared.Files.{Files}
use Rattle.sqlite_wal.specs.Recovery.{Image}
use Rattle.sqlite_wal.specs.Files.{outcomes}
use Rattle.sqlite_wal.specs.Reads.{OnlyReads}
use Rattle.sqlite_wal.proofs.CleanLemmas.{both_clean}
use Rattle.sqlite_pool.specs.Stored.{IsUnreadable, StandsAs, reserved, stored_size}
use Rattle.sqlite_pool.specs.Opening.{IsBlankFile}
use Rattle.sqlite_pool.proofs.ProbeLemmas.{not_blank}
use Rattle.sqlite_trees.specs.Tree.{Trees}
use Rattle.sqlite_trees.specs.declared.error.StoreError.{StoreError}
use Rattle.sqlite.specs.declared.error.Error.{Error}
use Rattle.sqlite.specs.Opening.{FailsAs}
use Rattle.sqlite_store.specs.declared.store.FileStore.{FileStore}
use Rattle.sqlite_store.specs.Unopened.{state_of}
use Rattle.sqlite_store.proofs.StoreLemmas.{pair}
use Rattle.sqlite.specs.declared.file.Leftover.{Leftover}
use Rattle.sqlite.specs.declared.file.Leftover.TheVariants as left
use Rattle.sqlite.specs.Files.{AreFoundIn, BeginsWell, HoldsDatabase, IsKept, IsNothing, LeavesFiles, NamesSize, SaysSums, file_state}
use Rattle.sqlite.specs.Held.{Held}
use Rattle.sqlite.proofs.FileLemmas.{same_image}
use Rattle.store_sql.specs.Files.{Shows, ShowsThose}

pub blank_holds_none : (size : ℕ) (image : Image) (db : Trees) → 0 < size → HoldsDatabase image db → ¬ IsBlankFile size image
blank_holds_none size image db some held =
    let large : 504 ≤ held.0 = (let few : reserved held.0 ≤ 8 = grind arith in omega (arith, held.1.0)) in
    not_blank held.0 image held.2.pages held.2.found large held.2.ours.file.sound size some

-- What a connection shows of files that were only looked at, it shows of them as they were before.
module _ {D : Type 0} {g : Ghosts D} where
  pub shows_before : (before after : Files D) (conn : Held (FileStore D g)) → OnlyReads g before.log after.log → OnlyReads g before.db after.db
      → ShowsThose after conn → ShowsThose before conn
  shows_before before after conn log db those = record {
    honest = both_clean _ _ _ _ log.clean db.clean those.honest;
    shows = subst (λ i. Shows i (file_state conn)) (same_image log db) those.shows;
  }

  -- What is left of files that were only looked at is left of them as they were before.
  kept_before : (before after : Files D) (size : ℕ) (image : Image) → OnlyReads g before.log after.log → OnlyReads g before.db after.db
      → IsKept g after size image → IsKept g before size image
  kept_before before after size image log db kept =
      let seen = same_image log db in
      let back = λ (was : outcomes g after.log after.db image). pair (log.crash _ was.0) (db.crash _ was.1) in
      record {
        same = elim kept.same [ inl was ↦ inl (back was) | inr same ↦ inr (subst (λ i. StandsAs size i image) seen same) ];
        unread = λ unreadable. back (kept.unread (subst (IsUnreadable size) (sym seen) unreadable));
        something = λ new. kept.something (λ was. new (back was));
      }

  pub leaves_before : (before after : Files D) (rest : Leftover D g) → OnlyReads g before.log after.log → OnlyReads g before.db after.db
      → LeavesFiles after rest → LeavesFiles before rest
  leaves_before before after (left.Files now) log db leaves = λ image may. let was = leaves image may in pair (log.crash _ was.0) (db.crash _ was.1)
  leaves_before before after (left.Unopened now) log db (inl (nothing, leaves)) =
      let seen = same_image log db in
      inl (subst IsNothing seen nothing, λ image may. elim (leaves image may) [ inl was ↦ inl (pair (log.crash _ was.0) (db.crash _ was.1)) | inr way ↦ inr way ])
  leaves_before before after (left.Unopened now) log db (inr (something, size, begins, sums, leaves)) =
      let seen = same_image log db in
      inr (
        (λ nothing. something (subst IsNothing (sym seen) nothing)),
        subst (λ i. NamesSize i (stored_size (state_of now).page_size)) seen size,
        subst (BeginsWell (stored_size (state_of now).page_size)) seen begins,
        (λ summed. subst (SaysSums (stored_size (state_of now).page_size)) seen (sums summed)),
        (λ image may. kept_before before after _ image log db (leaves image may)),
      )
  leaves_before before after (left.Store now) log db leaves =
      let seen = same_image log db in
      λ found is. let those = leaves found is in (subst (λ i. AreFoundIn i found) seen those.0, λ trees holds. those.1 trees (subst (λ i. HoldsDatabase i trees) (sym seen) holds))

-- What a refusal says of files that were only looked at, it says of them as they were before.
pub fails_before : (kind : StoreError) (a b c : ℕ) (Limit W W' : Type 0) (e : Error) → a ≤ b → (W' → W) → FailsAs kind b c Limit W e → FailsAs kind a c Limit W' e
fails_before kind a b c Limit W W' e p want (inl memory) = inl memory
fails_before kind a b c Limit W W' e p want (inr (inl refused)) = inr (inl (refused.0, λ w. refused.1 (want w)))
fails_before kind a b c Limit W W' e p want (inr (inr (inl fault))) = inr (inr (inl (fault.0, omega (arith, fault.1))))
fails_before kind a b c Limit W W' e p want (inr (inr (inr full))) = inr (inr (inr full))
