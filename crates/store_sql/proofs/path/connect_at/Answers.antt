use Rattle.std.proofs.Common.{ℕ, Bool, List, cond, ap₂, subst}
use Rattle.sqlite_disk.specs.Events.{Event, replay}
use Rattle.sqlite_wal.specs.Recovery.{Image}
use Rattle.sqlite.specs.Files.{file_state}
use Rattle.store_sql.specs.Files.{Shows}
use Rattle.store_sql.proofs.path.connect_at.Goals as goal

abbrev image : List ℕ → List ℕ → Image
image log db = record { log = log; db = db }

abbrev seen : List ℕ → List ℕ → Bool → List Event → List ℕ
seen log db is_log history = (replay (cond is_log log db) history).seen

pub returns-in-Ok-connect-clause-shows : goal.returns-in-Ok-connect-clause-shows
returns-in-Ok-connect-clause-shows g c clean =
    let (log, db) = c.in_ok-files.ensures.fresh in
    let same = ap₂ image (ap₂ (seen g.S.Start.log g.S.Start.db) log.0 log.1) (ap₂ (seen g.S.Start.log g.S.Start.db) db.0 db.1) in
    subst (λ i. Shows i (file_state c.in-Ok-connect.conn)) same (c.in-Ok-connect.ensures.shows clean).shows
