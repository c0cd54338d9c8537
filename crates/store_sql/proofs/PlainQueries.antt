-- A query of a plain text outside a transaction, which writes nothing.
use Rattle.std.proofs.Common.{◌≡◌, ◌⊎◌, false, inl, inr, ◌∙◌, refl, sym, subst, arith, ℕ, List, Ok, IsTrue, None}
use Rattle.sqlite_value.specs.Order.{Row}
use Rattle.sqlite_trees.specs.Tree.{Trees}
use Rattle.sqlite.specs.declared.error.Error.{Error}
use Rattle.sqlite.specs.Clock.{timed}
use Rattle.sqlite.specs.Effect.{Database}
use Rattle.sqlite.specs.Listing.{understood, reads_listing, IsSourceOf}
use Rattle.sqlite.specs.State.{State, HasCleanDisk, Survives, CommitsShowing, IsStatement, IsUnchanged, IsRolledBack, IsNotRun, FailsToQuery, FailsToShow, ShowsRows, Shown}
use Rattle.sqlite.proofs.Callers.{IsPlain, never_commits, unchanged_then}
use Rattle.sqlite.proofs.StateLemmas.{survives_then, survives_weaker}
use Rattle.store_sql.specs.Holds.{IsSettled, Keeps, OnlyAsks, Stays, WritesNothing}
use Rattle.store_sql.proofs.Commits.{only_asks, unchanged_keeps_all, rolled_keeps_all}
use Rattle.store_sql.proofs.Queries.{unchanged_keeps, rolled_keeps}

module _ (old new : State) where
  -- what a query leaves that fails
  pub plain_left : (sql : List ℕ) (params : Row) (e : Error) → IsPlain (understood old.now.schema sql) → FailsToQuery sql params old new e → IsUnchanged old new ⊎ IsRolledBack old new
  unfolding FailsToQuery IsNotRun
  plain_left sql params e plain (inl (inl h)) = inl h.1
  plain_left sql params e plain (inl (inr h)) = inr h.3
  plain_left sql params e plain (inr h) = inl (subst (FailsToShow old new sql h.0 (timed params h.0.formats h.1.now) e) (subst IsPlain h.1.is plain).0 h.2).3

  writes_stay : WritesNothing old new → Stays old new
  writes_stay h = record { survives = h.survives; kept = λ clean. elim (h.left clean) [ inl same ↦ unchanged_keeps old new same | inr back ↦ rolled_keeps old new back ] }

  writes_keep : (IsTrue new.is_open → HasCleanDisk new) → WritesNothing old new → Keeps old new
  writes_keep clean_now h up = elim (h.left (clean_now up)) [ inl same ↦ unchanged_keeps_all old new same up | inr back ↦ rolled_keeps_all old new back up ]

-- a connection that is open is as it is
pub unchanged_self : (s : State) → IsTrue s.is_open → IsUnchanged s s
unchanged_self s up = (record { was_open = up; is_open = up; now_is = refl; committed_is = refl; mode = refl }, record { changes = refl; last_rowid = refl }, refl)

unchanged_rolled : (a b c : State) → IsUnchanged a b → IsRolledBack b c → IsRolledBack a c
unchanged_rolled a b c p q = record {
  was_open = λ up. p.0.was_open;
  undone = λ up. let u = q.undone up in (u.0 ∙ p.0.committed_is, u.1 ∙ p.0.committed_is);
  autocommit = q.autocommit;
  unmarked = q.unmarked;
  counts = record { changes = q.counts.changes ∙ p.1.changes; last_rowid = q.counts.last_rowid ∙ p.1.last_rowid };
}

left_then : (a b c : State) → IsUnchanged a b → IsUnchanged b c ⊎ IsRolledBack b c → IsUnchanged a c ⊎ IsRolledBack a c
left_then a b c p (inl q) = inl (unchanged_then a b c p q)
left_then a b c p (inr q) = inr (unchanged_rolled a b c p q)

-- a call that wrote nothing, after one that left all as it was
pub writes_on : (a b c : State) → Survives a b (λ _. ⊥) → (HasCleanDisk b → IsUnchanged a b) → Survives b c (λ _. ⊥) → c.in_transaction ≡ false → (HasCleanDisk c → IsUnchanged b c ⊎ IsRolledBack b c) → WritesNothing a c
writes_on a b c one same two ended left = record {
  survives = survives_then a b c _ _ _ (λ _ db none. none) (λ _ db none. none) one two;
  ended = ended;
  left = λ clean. let early : HasCleanDisk b = omega (arith, two.clean) in left_then a b c (same early) (left clean);
}

-- a plain text commits nothing
pub commits_nothing : (sql : List ℕ) (params : Row) (old new : State) → IsPlain (understood old.now.schema sql) → Survives old new (CommitsShowing sql params old) → Survives old new (λ _. ⊥)
commits_nothing sql params old new plain = survives_weaker old new _ _ (λ _ db. never_commits sql params old db plain)

-- what is shown of a plain text, after a call that left all as it was
pub shown_from : (sql : List ℕ) (params : Row) (a b c : State) (rows : List Row) → IsPlain (understood a.now.schema sql) → IsUnchanged a b → Shown sql params b c rows → Shown sql params a c rows
unfolding Shown
shown_from sql params a b c rows plain same h =
    let now : b.now ≡ a.now = same.0.now_is in
    let full = timed params h.0.formats h.1.now in
    let known = subst (λ (d : Database). understood d.schema sql ≡ Ok h.0) now h.1.is in
    let none = (subst IsPlain known plain).0 in
    let it = subst (ShowsRows b c sql h.0 full rows) none h.2 in
    let statement : IsStatement a sql params h.0 = record { is = known; whole = h.1.whole; given = h.1.given; now = h.1.now } in
    let shows : ShowsRows a c sql h.0 full rows None = (it.0, subst (λ (d : Database). IsSourceOf (reads_listing d.schema sql) d it.0) now it.1, it.2, unchanged_then a b c same it.3) in
    (h.0, statement, subst (ShowsRows a c sql h.0 full rows) (sym none) shows)

-- a call that wrote nothing only asked
pub asks_only : (old new : State) → IsSettled old → (IsTrue new.is_open → HasCleanDisk new) → ((db : Trees) → IsTrue new.is_open → new.may_leave db → db ≡ new.committed.trees) → WritesNothing old new → OnlyAsks old new
asks_only old new settled clean_now law h = only_asks old new settled (writes_stay old new h) (writes_keep old new clean_now h) h.ended law
