use Rattle.office_core.proofs.CommitLemmas.{taken, left, left_by_err}
use Rattle.office_core.proofs.update.first_reply.Goals as goal

pub commit-requires : goal.commit-requires
commit-requires g c = record { fits = λ honest s held. let k = c.in_ok-reply.ensures.commits honest s held in k.fits }

pub returns-in-Err-clause-crash : goal.returns-in-Err-clause-crash
returns-in-Err-clause-crash g c honest s holds leaves =
    let held = c.prepared.ensures.reads.0 s holds in
    left_by_err s _ _ _ (c.in_ok-reply.ensures.commits (c.commit.ensures.honest honest) s held) (g.T.ZoneTable.leaves c.commit.new.self)
    (c.in-Err.ensures.crash s held (c.prepared.ensures.reads.2 s s leaves))

pub returns-in-Ok-clause-takes : goal.returns-in-Ok-clause-takes
returns-in-Ok-clause-takes g c honest s holds =
    let held = c.prepared.ensures.reads.0 s holds in
    taken s _ _ _ (c.in_ok-reply.ensures.commits (c.commit.ensures.honest honest) s held) (g.T.ZoneTable.holds c.commit.new.self) (c.in-Ok.ensures.made honest s held)

pub returns-in-Ok-clause-crash : goal.returns-in-Ok-clause-crash
returns-in-Ok-clause-crash g c honest s holds leaves =
    let held = c.prepared.ensures.reads.0 s holds in
    left s _ _ _ (c.in_ok-reply.ensures.commits (c.commit.ensures.honest honest) s held) (g.T.ZoneTable.leaves c.commit.new.self)
    (c.in-Ok.ensures.kept honest s held (c.prepared.ensures.reads.2 s s leaves))
