use Rattle.std.proofs.lemmas.Str.{IsUtf8-string_bytes}
use Rattle.store_sql.proofs.rows.ChangeRow.values.Goals as goal

pub returns-clause-readable : goal.returns-clause-readable
returns-clause-readable c = rw (← c.self.view_is) (IsUtf8-string_bytes c.self.inside.origin, (tt, (tt, (IsUtf8-string_bytes c.self.inside.owner, (tt, (IsUtf8-string_bytes c.self.inside.rdata, (tt, tt)))))))
