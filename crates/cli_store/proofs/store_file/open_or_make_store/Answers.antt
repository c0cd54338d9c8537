use Rattle.std.proofs.Common.{inl, inr, refl}
use Rattle.cli_store.proofs.FilesLemmas.{map_ok, map_err}
use Rattle.cli_store.proofs.store_file.open_or_make_store.Goals as goal

pub returns-in-Ok-clause-opened : goal.returns-in-Ok-clause-opened
returns-in-Ok-clause-opened g c = map_ok c.made_or_adopted.result (λ table is. (_, c.in-Ok.ensures.connected, is)) c.made_or_adopted.ensures.opened

pub returns-in-Ok-clause-refused : goal.returns-in-Ok-clause-refused
returns-in-Ok-clause-refused g c = map_err c.made_or_adopted.result (λ un is. inr (_, c.in-Ok.ensures.connected, is)) c.made_or_adopted.ensures.refused

pub returns-in-Err-clause-refused : goal.returns-in-Err-clause-refused
returns-in-Err-clause-refused g c = inl (c.in-Err.ensures.refused, refl)
