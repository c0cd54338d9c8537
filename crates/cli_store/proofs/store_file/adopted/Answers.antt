use Rattle.std.proofs.Common.{refl}
use Rattle.cli_store.proofs.store_file.adopted.Goals as goal

pub returns-in-Ok-clause-opened : goal.returns-in-Ok-clause-opened
returns-in-Ok-clause-opened g c = record {
  holds = c.in-Ok.ensures.found;
  asked = c.in-Ok.ensures.asked;
  only = c.in-Ok.ensures.only;
  left = λ clean db may. g.met.S.Store.settled c.in-Ok.table.conn.store db (c.in-Ok.ensures.only clean).up may;
}

pub returns-in-Err-clause-refused : goal.returns-in-Err-clause-refused
returns-in-Err-clause-refused g c =
    let e = c.in-Err.ensures in
    (c.in-Err.refused.conn, refl, record { asked = e.same; keeps = e.shown; named = e.named; good = e.good; wrong = e.wrong; bad = e.bad })
